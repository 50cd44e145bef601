-- What a row is that has its form, and what holds of the rows that a text is read as.
-- Assumes nothing.
use mathlib.Core.Path.{◌≡◌, refl, sym, ap, subst, ◌∙◌}
use mathlib.Core.Bool.{Bool, true, false, not, false≢true}
use mathlib.Core.List.{List, [], ◌∷◌, ◌++◌, map, append-nil, map-append}
use mathlib.Core.Option.{Option, none, some}
use Prim.Native.Nat.{ℕ, suc, ◌+◌, ◌*◌, ◌<◌, ◌≤◌}
use native.Mathlib.Omega.{arith}
use lib.Dec.{eqb, leb, ltb}
use lib.ListN.{length}
use Rattle.sets.specs.Lists.{Elem, first, later, All, done, more, ◌&◌, all, any, only, keep, empty, same, ◌⧺◌}
use Rattle.sets.specs.Bits.{every_bit, every_right, set_count}
use Rattle.sets.proofs.Bits.{right_double}
use Rattle.sets.proofs.Lists.{and_l, and_r, imp_e, not_no, neither_l, neither_r, cond_at, eqb_eq, eq-eqb, leb_le, nleb_lt, lt-ltb, all_at, all_i, ltb_lt, none_all, length_keep, All-append, All-turn, All-in, and_i, not_yes, any_none, any_snoc, same_eq, same_refl, map_out, keep_out, keep_snoc}
use Rattle.klaim.specs.Limits.{site_limit}
use Rattle.klaim.specs.Process.{template, clash}
use Rattle.klaim.specs.Rows.{Row, group_n, group_r, group_d, group_t, group_q, group_a, group_e, comma, split, ◌>>=◌, given, otherwise, right_of, rights_after, rights_field, box_rights_field, towards, row_n, row_pair, row_d, row_tuple, row_l, row_b, row_line, row_q, row_form, row_of, rows_from, rows_of}
use Rattle.klaim.specs.Invariant.{all_below, distinct}
use Rattle.klaim.proofs.BoxRows.{BoxShaped}
use Rattle.klaim.specs.Reader.{refused, gives, Text, a_net, an_estimate, an_arrival, in_limits, of_group, full, over, headed, key, repeated, misplaced, size_of, site_count, absent, Judged, bad, good, judge, scan, read_rows, nth}

-- what is read, if anything, has the property
data Holds {A : Type 0} (P : A → Type 0) : Option A → Type 0 where
  nothing : Holds P none
  holds : {x : A} → P x → Holds P (some x)

module _ {A : Type 0} where
  given_holds : {P : A → Type 0} (b : Bool) {o : Option A} → Holds P o → Holds P (given b o)
  unfolding given
  given_holds true h = h
  given_holds false h = nothing

  given_by : {P : A → Type 0} (b : Bool) {o : Option A} → (b ≡ true → Holds P o) → Holds P (given b o)
  unfolding given
  given_by true h = h refl
  given_by false h = nothing

  otherwise_holds : {P : A → Type 0} {o p : Option A} → Holds P o → Holds P p → Holds P (otherwise o p)
  unfolding otherwise
  otherwise_holds nothing g = g
  otherwise_holds (holds h) g = holds h

module _ {A B : Type 0} where
  then_holds : {P : B → Type 0} (o : Option A) {f : A → Option B} → ((x : A) → Holds P (f x)) → Holds P (o >>= f)
  unfolding ◌>>=◌
  then_holds none h = nothing
  then_holds (some x) h = h x

  then_by : {P : A → Type 0} {Q : B → Type 0} {o : Option A} {f : A → Option B} → Holds P o → ((x : A) → P x → Holds Q (f x)) → Holds Q (o >>= f)
  unfolding ◌>>=◌
  then_by nothing h = nothing
  then_by (holds p) h = h _ p

-- a Q row's sorts are those of its line; an A row has sites alone; a D row has a sandbox, at most one site, and rights
pub record Shaped (r : Row) : Type 0 where
  pub line_row : r.group ≡ group_q → r ≡ row_line (nth r.lines 0) r.process
  pub stand_row : r.group ≡ group_a → key r ≡ group_a ∷ (r.sites ⧺ [])
  pub box_row : r.group ≡ group_d → BoxShaped r
  pub box_rights : r.group ≡ group_d → r.rights ≤ every_right

not_group : (g h : ℕ) {B : Type 0} → eqb g h ≡ false → g ≡ h → B
not_group g h t e = absurd (false≢true (sym t ∙ ap (λ (x : ℕ). eqb g x) (sym e) ∙ eq-eqb g))

-- a row of another group
other : {r : Row} → eqb r.group group_q ≡ false → eqb r.group group_a ≡ false → eqb r.group group_d ≡ false → Shaped r
other {r} t s d = record { line_row = not_group _ _ t; stand_row = not_group _ _ s; box_row = not_group _ _ d; box_rights = not_group _ _ d }

right_some : (b : ℕ) → Elem b every_bit → 1 ≤ b
unfolding all ◌&◌
right_some b i = leb_le 1 b (all_at (leb 1) i refl)

letter_right : (b : ℕ) → Holds (λ r. Elem r every_bit) (right_of b)
unfolding right_of
letter_right b =
    otherwise_holds (given_holds _ (holds (first refl)))
    (otherwise_holds (given_holds _ (holds (later (first refl))))
    (otherwise_holds (given_holds _ (holds (later (later (first refl)))))
    (otherwise_holds (given_holds _ (holds (later (later (later (first refl))))))
    (given_holds _ (holds (later (later (later (later (first refl))))))))))

-- the rights behind one of them, those of a field, those of a D row
rights_behind : (last : ℕ) (f : List ℕ) → Elem last every_bit → Holds (λ m. 2 * last + m ≤ set_count) (rights_after last f)
unfolding rights_after all ◌&◌
rights_behind last [] i = holds (leb_le (2 * last + 0) set_count (all_at (λ b. leb (2 * b + 0) set_count) i refl))
rights_behind last (b ∷ f) i = then_by (letter_right b) (λ r j. then_by (rights_behind r f j) (λ m h. given_by _ (λ e. holds (omega (arith, right_double last r (later i) (later j) (ltb_lt last r e))))))

low_rights : (m : ℕ) → leb m every_right ≡ true → Holds (λ m. m ≤ every_right) (some m)
low_rights m h = holds (leb_le m every_right h)

rights_few : (f : List ℕ) → Holds (λ m. m ≤ every_right) (rights_after 0 f)
unfolding rights_after
rights_few [] = low_rights _ refl
rights_few (b ∷ f) = then_by (letter_right b) (λ r j. then_by (rights_behind r f j) (λ m h. given_by _ (λ e. holds (omega (arith, right_some r j)))))

box_rights_few : (f : List ℕ) → Holds (λ m. m ≤ every_right) (box_rights_field f)
unfolding box_rights_field rights_field
box_rights_few f = otherwise_holds (given_holds _ (low_rights _ refl)) (given_holds _ (rights_few f))

-- the t of a D row
towards_few : (f : List ℕ) → Holds (λ ts. length ts ≤ 1) (towards f)
unfolding towards
towards_few f = otherwise_holds (then_holds _ λ t. holds (omega arith)) (given_holds _ (holds (omega arith)))

-- a D row
box_shaped : (fs : List (List ℕ)) → Holds Shaped (row_d fs)
unfolding row_d key ◌⧺◌
box_shaped fs =
    given_holds _ (then_holds _ λ k. then_by (towards_few _) λ ts few. then_by (box_rights_few _) λ m low.
    holds (record {
      line_row = not_group _ _ refl;
      stand_row = not_group _ _ refl;
      box_row = λ e. record { boxes_one = refl; sites_few = few; key_is = refl };
      box_rights = λ e. low;
    }))

-- each form gives such rows
form_shaped : (fs : List (List ℕ)) → Holds Shaped (row_form fs)
unfolding row_form row_n row_pair row_tuple row_l row_b row_line row_q key ◌⧺◌
form_shaped fs =
    otherwise_holds (given_holds _ (given_holds _ (then_holds _ λ n. holds (other refl refl refl))))
    (otherwise_holds (given_holds _ (pair group_r refl refl refl))
    (otherwise_holds (given_holds _ (box_shaped fs))
    (otherwise_holds (given_holds _ (tuple group_t refl refl))
    (otherwise_holds (given_holds _ (given_holds _ (then_holds _ λ s. then_holds _ λ q. holds (other refl refl refl))))
    (otherwise_holds (given_holds _ (then_holds _ λ q. then_holds _ λ l. holds (record { line_row = λ e. refl; stand_row = not_group _ _ refl; box_row = not_group _ _ refl; box_rights = not_group _ _ refl })))
    (otherwise_holds (given_holds _ (given_holds _ (then_holds _ λ u. then_holds _ λ s. holds (other refl refl refl))))
    (otherwise_holds (given_holds _ (tuple group_a refl refl))
    (given_holds _ (pair group_e refl refl refl)))))))))
  where
    pair : (g : ℕ) → eqb g group_q ≡ false → eqb g group_a ≡ false → eqb g group_d ≡ false → Holds Shaped (row_pair g fs)
    pair g e h d = given_holds _ (then_holds _ λ s. then_holds _ λ t. then_holds _ λ r. holds (other e h d))

    tuple : (g : ℕ) → eqb g group_q ≡ false → eqb g group_d ≡ false → Holds Shaped (row_tuple g fs)
    tuple g e d = then_holds _ λ s. then_holds _ λ ts. holds (record { line_row = not_group _ _ e; stand_row = λ h. ap (λ (x : ℕ). x ∷ (s ∷ (ts ⧺ []))) h; box_row = not_group _ _ d; box_rights = not_group _ _ d })

rows_shaped : (ps : List (List ℕ)) → All (Holds Shaped) (rows_from ps)
unfolding rows_from row_of
rows_shaped [] = done
rows_shaped ([] ∷ []) = done
rows_shaped ((b ∷ left) ∷ []) = more nothing done
rows_shaped (piece ∷ next ∷ ps) = more (form_shaped (split comma piece)) (rows_shaped (next ∷ ps))

-- a row that is let through below others
pub record Fine (t : Text) (above : List Row) (r : Row) : Type 0 where
  pub shaped : Shaped r
  pub in_limits_lem : in_limits r ≡ true
  pub room : full t r.group (length (of_group r.group above)) ≡ false
  pub first : headed t above r ≡ true
  pub fresh : repeated above r ≡ false
  pub low : absent (site_count t above) r ≡ false

-- what is judged good, if anything, has the property
data Passes (P : Row → Type 0) : Judged → Type 0 where
  fails : {n : ℕ} → Passes P (bad n)
  passes : {r : Row} → P r → Passes P (good r)

judge_passes : (t : Text) (above : List Row) (o : Option Row) → Holds Shaped o → Passes (Fine t above) (judge t above o)
unfolding judge over misplaced
judge_passes t above none nothing = fails
judge_passes t above (some r) (holds h) =
    cond_at (Passes (Fine t above)) (over t above r) (λ t. fails) λ e.
    cond_at (Passes (Fine t above)) (misplaced t above r) (λ t. fails) λ f.
    cond_at (Passes (Fine t above)) (absent (site_count t above) r) (λ t. fails) λ g.
    cond_at (Passes (Fine t above)) (clash (template r.process)) (λ t. fails) λ c.
    passes (record {
      shaped = h;
      in_limits_lem = not_no _ (neither_l _ _ e);
      room = neither_r _ _ e;
      first = and_l _ _ (not_no _ (neither_l _ _ f));
      fresh = neither_r _ _ f;
      low = g;
    })

-- a refusal gives nothing
pub refused_none : {A B : Type 0} {n row : ℕ} {x : A} → refused n row ≡ gives x → B
refused_none e = let z : ◌≡◌ {A = ℕ} 0 1 = cc in absurd (omega arith)

-- what holds of no rows, and is kept by each row that is let through, holds of the rows of a text
module _ (t : Text) (P : List Row → Type 0) (keeps : (above : List Row) (r : Row) → P above → Fine t above r → P (above ++ (r ∷ []))) {rows : List Row} where
  scan_gives : (above : List Row) (os : List (Option Row)) → P above → All (Holds Shaped) os → scan t above os ≡ gives rows → P rows
  unfolding scan
  scan_gives above [] p done e = let q : above ≡ rows = cc in subst P q p
  scan_gives above (o ∷ os) p (more q h) e = go (λ r z. scan_gives (above ++ (r ∷ [])) os z h) (judge_passes t above o q) e
    where
      go : ((r : Row) → P (above ++ (r ∷ [])) → scan t (above ++ (r ∷ [])) os ≡ gives rows → P rows) → {j : Judged} → Passes (Fine t above) j → elim j [ bad n ↦ refused n (suc (length above)) | good r ↦ scan t (above ++ (r ∷ [])) os ] ≡ gives rows → P rows
      go ih fails e = refused_none e
      go ih (passes {r = r} f) e = ih r (keeps above r p f) e

  pub rows_give : P [] → (bytes : List ℕ) → read_rows t bytes ≡ gives rows → P rows
  unfolding read_rows rows_of
  rows_give p bytes e = scan_gives [] _ p (rows_shaped _) e

-- what is kept of a row, among n sites
pub record RowOk (n : ℕ) (r : Row) : Type 0 where
  pub shaped : Shaped r
  pub in_limits_lem : in_limits r ≡ true
  pub low : all_below n r.sites ≡ true

-- one row more does not lessen n
site_more : (t : Text) (above : List Row) (r : Row) → site_count t above ≤ site_count t (above ++ (r ∷ []))
unfolding site_count size_of
site_more a_net [] r = omega arith
site_more a_net (a ∷ above) r = omega arith
site_more (an_estimate n) above r = omega arith
site_more (an_arrival n d) above r = omega arith

-- so is each row of a text
pub rows_ok : (t : Text) (bytes : List ℕ) {rows : List Row} → read_rows t bytes ≡ gives rows → All (RowOk (site_count t rows)) rows
unfolding all_below absent
rows_ok t bytes e = rows_give t (λ rows. All (RowOk (site_count t rows)) rows) keeps done bytes e
  where
    wider : (n m : ℕ) → n ≤ m → (r : Row) → RowOk n r → RowOk m r
    wider n m h r k = record { shaped = k.shaped; in_limits_lem = k.in_limits_lem; low = all_i _ r.sites (λ s i. lt-ltb s m (omega (arith, ltb_lt s n (all_at _ i k.low)))) }

    keeps : (above : List Row) (r : Row) → All (RowOk (site_count t above)) above → Fine t above r → All (RowOk (site_count t (above ++ (r ∷ [])))) (above ++ (r ∷ []))
    keeps above r h f =
        let n = site_count t above in
        let new : RowOk n r = record { shaped = f.shaped; in_limits_lem = f.in_limits_lem; low = none_all (leb n) (λ s. ltb s n) (λ s e. lt-ltb s n (nleb_lt n s e)) r.sites f.low } in
        All-turn (wider n _ (site_more t above r)) (All-append h (more new done))

-- a group that is full at m has at most m rows
pub rows_few : (t : Text) (g m : ℕ) → ((k : ℕ) → full t g k ≡ false → k < m) → (bytes : List ℕ) {rows : List Row} → read_rows t bytes ≡ gives rows → length (of_group g rows) ≤ m
unfolding of_group keep ◌⧺◌ only
rows_few t g m h bytes e = rows_give t (λ rows. length (of_group g rows) ≤ m) keeps (omega arith) bytes e
  where
    go : (above : List Row) (r : Row) (b : Bool) → eqb r.group g ≡ b → length (of_group g above) ≤ m → Fine t above r → length (of_group g above) + length (only b r ⧺ []) ≤ m
    go above r true e p f = omega (arith, h _ (subst (λ (x : ℕ). full t x (length (of_group x above)) ≡ false) (eqb_eq e) f.room))
    go above r false e p f = omega arith

    keeps : (above : List Row) (r : Row) → length (of_group g above) ≤ m → Fine t above r → length (of_group g (above ++ (r ∷ []))) ≤ m
    keeps above r p f = rw length_keep (go above r _ refl p f)

distinct_one : (t : List ℕ) → distinct (t ∷ []) ≡ true
unfolding distinct any ◌&◌
distinct_one t = refl

-- a tuple that none of the others equals may stand behind them
distinct_snoc : (ts : List (List ℕ)) (t : List ℕ) → distinct ts ≡ true → ((s : List ℕ) → Elem s ts → same s t ≡ false) → distinct (ts ++ (t ∷ [])) ≡ true
unfolding distinct
distinct_snoc [] t d h = distinct_one t
distinct_snoc (s ∷ ts) t d h =
    and_i (ap not (any_snoc (same s) ts t (not_yes _ (and_l _ _ d)) (h s (first refl)))) (distinct_snoc ts t (and_r _ _ d) (λ x i. h x (later i)))

-- the key of a row that may repeat none stands in none above
pub fresh_key : {t : Text} {above : List Row} {r : Row} → Fine t above r → eqb r.group group_q ≡ false → any (λ b. same (key b) (key r)) above ≡ false
unfolding repeated ◌&◌
fresh_key {t} {above} {r} f e = subst (λ (q : Bool). not q & any (λ b. same (key b) (key r)) above ≡ false) e f.fresh

-- the sites of an A row stand in none above
fresh_sites : (t : Text) (above : List Row) (r : Row) → All Shaped above → Fine t above r → r.group ≡ group_a → (s : List ℕ) → Elem s (map (λ b. b.sites) (of_group group_a above)) → same s r.sites ≡ false
unfolding of_group
fresh_sites t above r h f g s i = go (map_out (λ b. b.sites) _ i)
  where
    alike : (b : Row) → Elem b above → b.group ≡ group_a → s ≡ b.sites → (x : Bool) → same s r.sites ≡ x → x ≡ false
    alike b j q p false e = refl
    alike b j q p true e =
        let k : key b ≡ key r = (All-in h j).stand_row q ∙ ap (λ (ss : List ℕ). group_a ∷ (ss ⧺ [])) (sym p ∙ same_eq s r.sites e) ∙ sym (f.shaped.stand_row g) in
        sym (subst (λ (ks : List ℕ). same ks (key r) ≡ true) (sym k) (same_refl (key r))) ∙ any_none (λ b. same (key b) (key r)) (fresh_key f (subst (λ (x : ℕ). eqb x group_q ≡ false) (sym g) refl)) j

    go : ((b : Row) × Elem b (keep (λ b. eqb b.group group_a) above) × (s ≡ b.sites)) → same s r.sites ≡ false
    go (b, k, p) = let (j, q) = keep_out (λ b. eqb b.group group_a) above k in alike b j (eqb_eq q) p _ refl

-- the tuples of the A rows
abbrev pub Tuples : List Row → List (List ℕ)
Tuples rows = map (λ r. r.sites) (of_group group_a rows)

-- one row more
tuples_snoc : (t : Text) (above : List Row) (r : Row) → All Shaped above → distinct (Tuples above) ≡ true → Fine t above r → (b : Bool) → eqb r.group group_a ≡ b → distinct (Tuples above ++ map (λ r. r.sites) (only b r)) ≡ true
unfolding only
tuples_snoc t above r h d f true e = distinct_snoc (Tuples above) r.sites d (fresh_sites t above r h f (eqb_eq e))
tuples_snoc t above r h d f false e = subst (λ (ts : List (List ℕ)). distinct ts ≡ true) (sym (append-nil (Tuples above))) d

tuples_more : (above : List Row) (r : Row) → Tuples (above ++ (r ∷ [])) ≡ Tuples above ++ map (λ r. r.sites) (only (eqb r.group group_a) r)
unfolding of_group
tuples_more above r = ap (map (λ r. r.sites)) (keep_snoc (λ r. eqb r.group group_a) above r) ∙ map-append (λ r. r.sites) (keep (λ r. eqb r.group group_a) above) (only (eqb r.group group_a) r)

no_tuples : distinct (Tuples []) ≡ true
unfolding of_group keep distinct
no_tuples = refl

-- no A row is repeated
pub rows_distinct : (t : Text) (bytes : List ℕ) {rows : List Row} → read_rows t bytes ≡ gives rows → distinct (Tuples rows) ≡ true
rows_distinct t bytes e = (rows_give t (λ rows. All Shaped rows × (distinct (Tuples rows) ≡ true)) keeps (done, no_tuples) bytes e).1
  where
    keeps : (above : List Row) (r : Row) → All Shaped above × (distinct (Tuples above) ≡ true) → Fine t above r → All Shaped (above ++ (r ∷ [])) × (distinct (Tuples (above ++ (r ∷ []))) ≡ true)
    keeps above r k f = (All-append k.0 (more f.shaped done), ap distinct (tuples_more above r) ∙ tuples_snoc t above r k.0 k.1 f _ refl)

-- n is in its limits, where there are rows
abbrev Sized : List Row → Type 0
Sized rows = empty rows ≡ false → (1 ≤ size_of rows) × (size_of rows ≤ site_limit)

-- of a net: its first row is N
pub net_size : (bytes : List ℕ) {rows : List Row} → read_rows a_net bytes ≡ gives rows → Sized rows
unfolding empty size_of headed in_limits
net_size bytes e = rows_give a_net Sized keeps (λ e. absurd (false≢true (sym e))) bytes e
  where
    keeps : (above : List Row) (r : Row) → Sized above → Fine a_net above r → Sized (above ++ (r ∷ []))
    keeps [] r p f e =
        let g : eqb r.group group_n ≡ true = imp_e _ _ (and_l _ _ f.first) refl in
        let h = imp_e _ _ (and_l _ _ f.in_limits_lem) g in
        (leb_le _ _ (and_l _ _ h), leb_le _ _ (and_r _ _ h))
    keeps (a ∷ above) r p f e = p refl
