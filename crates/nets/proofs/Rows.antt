-- One row more in the tables and the tally of a net, and the tests on the rows above.
-- Assumes nothing.
use mathlib.Core.Path.{◌≡◌, refl, sym, ap, ap₂, subst, ◌∙◌}
use mathlib.Core.Bool.{Bool, true, false, cond, false≢true}
use mathlib.Core.List.{List, [], ◌∷◌, ◌++◌, map}
use Prim.Native.Nat.{ℕ, suc, ◌+◌, ◌<◌, ◌≤◌}
use native.Mathlib.Nat.{zero-add}
use native.Mathlib.Omega.{arith}
use lib.Dec.{eqb, leb}
use lib.ListN.{length, length-map}
use borrow.Author.Tests.{ne_eqb}
use Rattle.sets.specs.Lists.{done, more, ◌&◌, either, imp, any, empty, same}
use Rattle.sets.proofs.Lists.{and_l, and_r, imp_e, eqb_eq, leb_le, nleb_lt, All-append, or_false}
use Rattle.sets.proofs.Tables.{length_table}
use Rattle.klaim.specs.Limits.{site_limit, tuple_limit, thread_limit, line_limit}
use Rattle.klaim.specs.Rows.{Row, row_line, group_n, group_r, group_d, group_t, group_l, group_q, group_a}
use Rattle.klaim.specs.Reader.{Text, a_net, in_limits, key, repeated, of_group, present, full, headed, own, size_of, gather, pair_place, put_boxes, root_of, lines_of}
use Rattle.klaim.proofs.Above.{group_other, map_other, map_own, last_snoc}
use Rattle.tables.specs.View as View
use Rattle.tables.specs.View.{Lines, Tuples, Roots, tuples_of, roots_of}
use Rattle.tables.proofs.LineTable.{lines_long}
use Rattle.stores.specs.Sets.{pairs_of, boxes_of}
use Rattle.lines.specs.Lines.{line_view}
use Rattle.forms.specs.declared.rows.Pair.{Pair}
use Rattle.forms.specs.declared.rows.Sandbox.{Sandbox}
use Rattle.forms.specs.declared.rows.Tuple.{Tuple}
use Rattle.forms.specs.declared.rows.Root.{Root}
use Rattle.forms.specs.declared.rows.Process.{Process}
use Rattle.forms.specs.declared.rows.Bound.{Bound}
use Rattle.forms.specs.declared.rows.Row.{Row as FormRow}
use Rattle.forms.specs.declared.rows.Row.TheVariants as Form
use Rattle.forms.specs.declared.rows.Group.{Group}
use Rattle.forms.specs.declared.rows.Group.TheVariants as Groups
use Rattle.forms.specs.Forms.{group_number, sites_of, size_data, pair_data, box_data, tuple_data, root_data, process_data, bound_data, row_data}
use Rattle.judge.proofs.Limits.{size_low}
use Rattle.scan.specs.declared.Tally.{Tally}
use Rattle.scan.specs.Tallies.{last_number, counted_of}
use Rattle.scan.specs.Reasons.{fitting, Passed}
use Rattle.scan.proofs.Tallies.{group_none, counted_size, counted_last, counted_turn}
use Rattle.repeats.specs.Kept.{Keys, KeysAre, unsaid_boxes}
use Rattle.repeats.proofs.Keys.{keys_other}
use Rattle.repeats.proofs.Rows.{as_kept}
use Rattle.nets.specs.declared.reading.NetReader.{NetReader}
use Rattle.nets.specs.Rows.{NetTables, NetTally, NetHolds, full_of, placed_of}

-- no row of a foreign group is let through
own_group : (g : ℕ) (t : Tally) → placed_of g t ≡ true → g ≤ 6
unfolding placed_of
own_group g t h = leb_le g group_q (and_l _ _ (and_r _ _ h))

foreign_b : (b : Bound) (t : Tally) → placed_of (row_data (Form.B b)).group t ≡ true → ⊥
unfolding row_data bound_data
foreign_b b t h = let l = own_group 7 t h in omega arith

foreign_a : (x : Tuple) (t : Tally) → placed_of (row_data (Form.A x)).group t ≡ true → ⊥
unfolding row_data tuple_data
foreign_a x t h = let l = own_group 8 t h in omega arith

foreign_e : (p : Pair) (t : Tally) → placed_of (row_data (Form.E p)).group t ≡ true → ⊥
unfolding row_data pair_data
foreign_e p t h = let l = own_group 9 t h in omega arith

-- the tables, with a row more that stands in one of them
module _ {above : List Row} {R : NetReader} (T : NetTables above R) where
  homes_other : (r : Row) → eqb r.group group_r ≡ false → R.homes ≡ pairs_of group_r (above ++ (r ∷ []))
  homes_other r e = T.homes_is ∙ sym (ap (gather 1024 pair_place (λ r. r.rights)) (group_other group_r above r e))

  boxes_other : (r : Row) → eqb r.group group_d ≡ false → R.boxes ≡ boxes_of unsaid_boxes (above ++ (r ∷ []))
  boxes_other r e = T.boxes_is ∙ sym (ap (put_boxes unsaid_boxes) (group_other group_d above r e))

  tuples_other : (r : Row) → eqb r.group group_t ≡ false → tuples_of R.tuples ≡ map (λ r. r.sites) (of_group group_t (above ++ (r ∷ [])))
  tuples_other r e = T.tuples_is ∙ sym (map_other (λ r. r.sites) group_t above r e)

  roots_other : (r : Row) → eqb r.group group_l ≡ false → roots_of R.roots ≡ map root_of (of_group group_l (above ++ (r ∷ [])))
  roots_other r e = T.roots_is ∙ sym (map_other root_of group_l above r e)

  lines_other : (r : Row) → eqb r.group group_q ≡ false → View.lines_of R.lines ≡ lines_of (above ++ (r ∷ []))
  unfolding lines_of
  lines_other r e = T.lines_is ∙ sym (map_other (λ r. r.process) group_q above r e)

  no_key : (r : Row) → (r.group ≡ group_t → ⊥) → KeysAre group_t (above ++ (r ∷ [])) R.keys
  no_key r e = keys_other r e T.keys_are

  tables_n : (n : ℕ) → NetTables (above ++ (row_data (Form.N n) ∷ [])) R
  unfolding row_data size_data
  tables_n n = record {
    homes_is = homes_other (size_data n) refl;
    boxes_is = boxes_other (size_data n) refl;
    tuples_is = tuples_other (size_data n) refl;
    roots_is = roots_other (size_data n) refl;
    lines_is = lines_other (size_data n) refl;
    keys_are = no_key (size_data n) (λ e. omega arith);
  }

  pub tables_r : (p : Pair) {new : List ℕ} {k : R.keys.count ≡ R.tuples.count} {z : R.tally.size ≤ site_limit} →
      new ≡ pairs_of group_r (above ++ (pair_data group_r p ∷ [])) →
      NetTables (above ++ (row_data (Form.R p) ∷ [])) (record R { homes = new; keyed = k; size_few = z })
  unfolding row_data pair_data
  tables_r p h = record {
    homes_is = h;
    boxes_is = boxes_other (pair_data group_r p) refl;
    tuples_is = tuples_other (pair_data group_r p) refl;
    roots_is = roots_other (pair_data group_r p) refl;
    lines_is = lines_other (pair_data group_r p) refl;
    keys_are = no_key (pair_data group_r p) (λ e. omega arith);
  }

  pub tables_d : (b : Sandbox) {new : List ℕ} {k : R.keys.count ≡ R.tuples.count} {z : R.tally.size ≤ site_limit} →
      new ≡ boxes_of unsaid_boxes (above ++ (box_data b ∷ [])) →
      NetTables (above ++ (row_data (Form.D b) ∷ [])) (record R { boxes = new; keyed = k; size_few = z })
  unfolding row_data box_data
  tables_d b h = record {
    homes_is = homes_other (box_data b) refl;
    boxes_is = h;
    tuples_is = tuples_other (box_data b) refl;
    roots_is = roots_other (box_data b) refl;
    lines_is = lines_other (box_data b) refl;
    keys_are = no_key (box_data b) (λ e. omega arith);
  }

  pub tables_t : (x : Tuple) {new : Tuples} {keys : Keys} {k : keys.count ≡ new.count} {z : R.tally.size ≤ site_limit} →
      tuples_of new ≡ tuples_of R.tuples ++ (sites_of x ∷ []) → KeysAre group_t (above ++ (tuple_data group_t x ∷ [])) keys →
      NetTables (above ++ (row_data (Form.T x) ∷ [])) (record R { tuples = new; keys = keys; keyed = k; size_few = z })
  unfolding row_data tuple_data
  tables_t x h K = record {
    homes_is = homes_other (tuple_data group_t x) refl;
    boxes_is = boxes_other (tuple_data group_t x) refl;
    tuples_is = h ∙ ap (λ (xs : List (List ℕ)). xs ++ (sites_of x ∷ [])) T.tuples_is ∙ sym (map_own (λ r. r.sites) group_t above (tuple_data group_t x) refl);
    roots_is = roots_other (tuple_data group_t x) refl;
    lines_is = lines_other (tuple_data group_t x) refl;
    keys_are = K;
  }

  pub tables_l : (x : Root) {new : Roots} {k : R.keys.count ≡ R.tuples.count} {z : R.tally.size ≤ site_limit} →
      roots_of new ≡ roots_of R.roots ++ (root_of (root_data x) ∷ []) →
      NetTables (above ++ (row_data (Form.L x) ∷ [])) (record R { roots = new; keyed = k; size_few = z })
  unfolding row_data root_data
  tables_l x h = record {
    homes_is = homes_other (root_data x) refl;
    boxes_is = boxes_other (root_data x) refl;
    tuples_is = tuples_other (root_data x) refl;
    roots_is = h ∙ ap (λ xs. xs ++ (root_of (root_data x) ∷ [])) T.roots_is ∙ sym (map_own root_of group_l above (root_data x) refl);
    lines_is = lines_other (root_data x) refl;
    keys_are = no_key (root_data x) (λ e. omega arith);
  }

  pub tables_q : (p : Process) {new : Lines} {k : R.keys.count ≡ R.tuples.count} {z : R.tally.size ≤ site_limit} →
      View.lines_of new ≡ View.lines_of R.lines ++ (line_view p.line ∷ []) →
      NetTables (above ++ (row_data (Form.Q p) ∷ [])) (record R { lines = new; keyed = k; size_few = z })
  unfolding row_data process_data row_line lines_of
  tables_q p h = record {
    homes_is = homes_other (process_data p) refl;
    boxes_is = boxes_other (process_data p) refl;
    tuples_is = tuples_other (process_data p) refl;
    roots_is = roots_other (process_data p) refl;
    lines_is = h ∙ ap (λ xs. xs ++ (line_view p.line ∷ [])) T.lines_is ∙ sym (map_own (λ r. r.process) group_q above (process_data p) refl);
    keys_are = no_key (process_data p) (λ e. omega arith);
  }

  -- a row that is in no table is the N row
  pub tables_rest : (row : FormRow) (t : Tally) → placed_of (row_data row).group t ≡ true → ((p : Pair) → row ≡ Form.R p → ⊥) →
      ((b : Sandbox) → row ≡ Form.D b → ⊥) → ((x : Tuple) → row ≡ Form.T x → ⊥) → ((x : Root) → row ≡ Form.L x → ⊥) →
      ((p : Process) → row ≡ Form.Q p → ⊥) → NetTables (above ++ (row_data row ∷ [])) R
  tables_rest (Form.N n) t h r d u l q = tables_n n
  tables_rest (Form.R p) t h r d u l q = absurd (r p refl)
  tables_rest (Form.D b) t h r d u l q = absurd (d b refl)
  tables_rest (Form.T x) t h r d u l q = absurd (u x refl)
  tables_rest (Form.L x) t h r d u l q = absurd (l x refl)
  tables_rest (Form.Q p) t h r d u l q = absurd (q p refl)
  tables_rest (Form.B b) t h r d u l q = absurd (foreign_b b t h)
  tables_rest (Form.A x) t h r d u l q = absurd (foreign_a x t h)
  tables_rest (Form.E p) t h r d u l q = absurd (foreign_e p t h)

-- the same tables beside another tally
pub recounted : {above : List Row} {R : NetReader} → NetTables above R → {t : Tally} {k : R.keys.count ≡ R.tuples.count} {z : t.size ≤ site_limit} →
    NetTables above (record R { tally = t; keyed = k; size_few = z })
recounted T = record { homes_is = T.homes_is; boxes_is = T.boxes_is; tuples_is = T.tuples_is; roots_is = T.roots_is; lines_is = T.lines_is; keys_are = T.keys_are }

foreign : own a_net group_a ≡ false
unfolding own
foreign = refl

pub empty_is : (above : List Row) → empty above ≡ eqb (length above) 0
unfolding empty
empty_is [] = refl
empty_is (r ∷ above) = sym (ne_eqb (suc (length above)) 0 (λ e. omega arith))

some_above : (above : List Row) (r : Row) → empty (above ++ (r ∷ [])) ≡ false
unfolding empty
some_above [] r = refl
some_above (x ∷ above) r = refl

owns : (g : ℕ) → leb g group_q ≡ true → own a_net g ≡ true
unfolding own
owns g p = p

if_not : (a : Bool) → imp a false ≡ true → a ≡ false
unfolding imp
if_not true p = sym p
if_not false p = refl

-- n is that of the first row
size_more : (above : List Row) (r : Row) (first : Bool) (g size s : ℕ) → empty above ≡ first → size_of above ≡ size → imp first (eqb g group_n) ≡ true → imp (eqb g group_n) first ≡ true → (g ≡ group_n → r.size ≡ s) → size_of (above ++ (r ∷ [])) ≡ cond (eqb g group_n) s size
unfolding size_of empty
size_more [] r first g size s l z a b h =
    let q : eqb g group_n ≡ true = imp_e first (eqb g group_n) a (sym l) in
    rw q (h (eqb_eq q))
size_more (x ∷ above) r first g size s l z a b h =
    let q : eqb g group_n ≡ false = if_not (eqb g group_n) (subst (λ (y : Bool). imp (eqb g group_n) y ≡ true) (sym l) b) in
    rw q z

-- the counts are those of the tables
module _ {above : List Row} {R : NetReader} (T : NetTables above R) where
  count_t : length (of_group group_t above) ≡ R.tuples.count
  unfolding tuples_of
  count_t = sym (length-map (of_group group_t above) (λ r. r.sites)) ∙ sym (ap length T.tuples_is) ∙ length_table R.tuples.count _

  count_l : length (of_group group_l above) ≡ R.roots.count
  unfolding roots_of
  count_l = sym (length-map (of_group group_l above) root_of) ∙ sym (ap length T.roots_is) ∙ length_table R.roots.count _

  pub lines_many : length (lines_of above) ≡ R.lines.count
  lines_many = sym (ap length T.lines_is) ∙ lines_long R.lines

  count_q : length (of_group group_q above) ≡ R.lines.count
  unfolding lines_of
  count_q = sym (length-map (of_group group_q above) (λ r. r.process)) ∙ lines_many

-- 2, read off the tables
full_by : (g k a b c : ℕ) → (g ≡ group_t → k ≡ a) → (g ≡ group_l → k ≡ b) → (g ≡ group_q → k ≡ c) → (g ≡ group_a → k ≡ 0) → full a_net g k ≡ cond (eqb g group_t) (leb tuple_limit a) (cond (eqb g group_l) (leb thread_limit b) (eqb g group_q & leb line_limit c))
unfolding full present either ◌&◌
full_by g k a b c t l q s = at_t (eqb g group_t) refl
  where
    at_a : (x : Bool) → eqb g group_a ≡ x → x & leb tuple_limit k ≡ false
    at_a true e = let h : g ≡ group_a = eqb_eq e in rw (s h)
    at_a false e = refl

    at_q : (x : Bool) → eqb g group_q ≡ x → either (x & leb line_limit (0 + k)) (eqb g group_a & leb tuple_limit k) ≡ x & leb line_limit c
    at_q true e = let h : g ≡ group_q = eqb_eq e in rw (h, q h, zero-add c) (or_false (leb line_limit c))
    at_q false e = at_a (eqb g group_a) refl

    at_l : (x : Bool) → eqb g group_l ≡ x → either (x & leb thread_limit k) (either (eqb g group_q & leb line_limit (0 + k)) (eqb g group_a & leb tuple_limit k)) ≡ cond x (leb thread_limit b) (eqb g group_q & leb line_limit c)
    at_l true e = let h : g ≡ group_l = eqb_eq e in rw (h, l h) (or_false (leb thread_limit b))
    at_l false e = at_q (eqb g group_q) refl

    at_t : (x : Bool) → eqb g group_t ≡ x → either (x & leb tuple_limit k) (either (eqb g group_l & leb thread_limit k) (either (eqb g group_q & leb line_limit (0 + k)) (eqb g group_a & leb tuple_limit k))) ≡ cond x (leb tuple_limit a) (cond (eqb g group_l) (leb thread_limit b) (eqb g group_q & leb line_limit c))
    at_t true e = let h : g ≡ group_t = eqb_eq e in rw (h, t h) (or_false (leb tuple_limit a))
    at_t false e = at_l (eqb g group_l) refl

-- 2 and 3 of a row that stands below those that are held
module _ {t : Text} {above : List Row} {R : NetReader} (H : NetHolds t above R) where
  pub full_law : (g : ℕ) → full_of g R ≡ full t g (length (of_group g above))
  unfolding full_of
  full_law g = rw H.text (sym (full_by g _ R.tuples.count R.roots.count R.lines.count
      (λ e. ap (λ (k : ℕ). length (of_group k above)) e ∙ count_t H.tables)
      (λ e. ap (λ (k : ℕ). length (of_group k above)) e ∙ count_l H.tables)
      (λ e. ap (λ (k : ℕ). length (of_group k above)) e ∙ count_q H.tables)
      (λ e. ap (λ (k : ℕ). length (of_group k above)) e ∙ ap length (group_none a_net group_a above H.counts.owned foreign))))

  -- N first and once, no foreign row, groups in order
  pub placed_law : {g : ℕ} (r : Row) → r.group ≡ g → placed_of g R.tally ≡ fitting t above r
  unfolding headed own placed_of
  placed_law r e = rw (← e, H.text) (sym (ap₂ (λ (b o : Bool). (imp b (eqb r.group group_n) & imp (eqb r.group group_n) b) & leb r.group group_q & o) H.counts.first (H.counts.order r)))

some_group : (row : FormRow) → eqb (row_data row).group 0 ≡ false
unfolding row_data size_data pair_data box_data tuple_data root_data process_data bound_data row_line
some_group (Form.N x) = refl
some_group (Form.R x) = refl
some_group (Form.D x) = refl
some_group (Form.T x) = refl
some_group (Form.L x) = refl
some_group (Form.Q x) = refl
some_group (Form.B x) = refl
some_group (Form.A x) = refl
some_group (Form.E x) = refl

-- a row that is let through, in the tally
pub tally_more : (row : FormRow) {R : NetReader} {above : List Row} → NetTables above R → NetTally above R.tally → Passed (row_data row) (full_of (row_data row).group R) (placed_of (row_data row).group R.tally) →
    NetTally (above ++ (row_data row ∷ [])) (counted_of row R.lines.count R.tally)
unfolding placed_of
tally_more row {R} {above} T Y P =
    let r = row_data row in
    let t = R.tally in
    let n = R.lines.count in
    record {
      kept = All-append Y.kept (more (as_kept row P.low) done);
      owned = All-append Y.owned (more (owns r.group (and_l _ _ (and_r _ _ P.placed))) done);
      size_is = size_more above r _ r.group t.size r.size Y.first Y.size_is (and_l _ _ (and_l _ _ P.placed)) (and_r _ _ (and_l _ _ P.placed)) (λ e. refl) ∙ sym (counted_size row n t);
      order = λ x. last_snoc above (last_number t.last) r Y.order (and_r _ _ (and_r _ _ P.placed)) x
          ∙ ap (λ (g : ℕ). leb g x.group) (sym (counted_last row n t));
      turn = counted_turn above row t Y.turn ∙ ap (λ (n : ℕ). (counted_of row n t).turn) (lines_many T);
      first = some_above above r ∙ sym (ap (λ (g : ℕ). eqb g 0) (counted_last row n t) ∙ some_group row);
    }

no_rows : (a : Bool) (f : Row → Bool) (xs : List Row) → empty xs ≡ true → a & any f xs ≡ false
unfolding ◌&◌ any empty
no_rows true f [] z = refl
no_rows false f [] z = refl
no_rows a f (x ∷ xs) z = absurd (false≢true z)

-- N stands once, and Q rows are never repeated
pub seen_rest : (row : FormRow) {t : Tally} {above : List Row} → NetTally above t → placed_of (row_data row).group t ≡ true → ((p : Pair) → row ≡ Form.R p → ⊥) → ((b : Sandbox) → row ≡ Form.D b → ⊥) → ((x : Tuple) → row ≡ Form.T x → ⊥) → ((x : Root) → row ≡ Form.L x → ⊥) → false ≡ repeated above (row_data row)
unfolding repeated placed_of row_data size_data process_data row_line ◌&◌
seen_rest (Form.N n) {t} {above} Y h r d u l = sym (no_rows true (λ b. same (key b) (key (size_data n))) above (Y.first ∙ imp_e true (eqb (last_number t.last) 0) (and_r _ _ (and_l _ _ h)) refl))
seen_rest (Form.R p) Y h r d u l = absurd (r p refl)
seen_rest (Form.D b) Y h r d u l = absurd (d b refl)
seen_rest (Form.T x) Y h r d u l = absurd (u x refl)
seen_rest (Form.L x) Y h r d u l = absurd (l x refl)
seen_rest (Form.Q p) Y h r d u l = refl
seen_rest (Form.B b) {t} Y h r d u l = absurd (foreign_b b t h)
seen_rest (Form.A x) {t} Y h r d u l = absurd (foreign_a x t h)
seen_rest (Form.E p) {t} Y h r d u l = absurd (foreign_e p t h)

-- there is room in the table of a group that is not full
module _ (g : ℕ) (R : NetReader) where
  pub room_t : g ≡ group_t → full_of g R ≡ false → R.tuples.count < 256
  unfolding full_of
  room_t e f = nleb_lt tuple_limit R.tuples.count (rw e at f)

  pub room_l : g ≡ group_l → full_of g R ≡ false → R.roots.count < 64
  unfolding full_of
  room_l e f = nleb_lt thread_limit R.roots.count (rw e at f)

  pub room_q : g ≡ group_q → full_of g R ≡ false → R.lines.count < 256
  unfolding full_of ◌&◌
  room_q e f = nleb_lt line_limit R.lines.count (rw e at f)

-- the size, with a row more
pub size_few : (row : FormRow) (n : ℕ) (t : Tally) → in_limits (row_data row) ≡ true → t.size ≤ site_limit → (counted_of row n t).size ≤ site_limit
unfolding row_data
size_few (Form.N k) n t L h = (size_low k L).1
size_few (Form.R p) n t L h = h
size_few (Form.D b) n t L h = h
size_few (Form.T x) n t L h = h
size_few (Form.L x) n t L h = h
size_few (Form.Q p) n t L h = h
size_few (Form.B b) n t L h = h
size_few (Form.A x) n t L h = h
size_few (Form.E p) n t L h = h

-- a group that has no limit
pub full_rest : (g : Group) (R : NetReader) → (g ≡ Groups.T → ⊥) → (g ≡ Groups.L → ⊥) → (g ≡ Groups.Q → ⊥) → false ≡ full_of (group_number g) R
unfolding full_of ◌&◌
full_rest Groups.N R a b c = refl
full_rest Groups.R R a b c = refl
full_rest Groups.D R a b c = refl
full_rest Groups.T R a b c = absurd (a refl)
full_rest Groups.L R a b c = absurd (b refl)
full_rest Groups.Q R a b c = absurd (c refl)
full_rest Groups.B R a b c = refl
full_rest Groups.A R a b c = refl
full_rest Groups.E R a b c = refl
