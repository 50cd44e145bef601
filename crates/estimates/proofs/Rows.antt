-- One row more in the tables and the tally of an estimate, and the tests on the rows above.
-- Assumes nothing.
use mathlib.Core.Path.{◌≡◌, refl, sym, ap, ◌∙◌}
use mathlib.Core.Bool.{Bool, true, false, cond}
use mathlib.Core.List.{List, [], ◌∷◌, ◌++◌, map}
use Prim.Native.Nat.{ℕ, ◌<◌, ◌≤◌, ◌^◌}
use native.Mathlib.Nat.{zero-add}
use native.Mathlib.Omega.{arith}
use lib.Dec.{eqb, leb}
use lib.ListN.{length, length-map}
use borrow.Author.Tests.{ne_eqb}
use Rattle.sets.specs.Lists.{All, done, more, ◌&◌, either}
use Rattle.sets.proofs.Lists.{and_l, and_r, eqb_eq, leb_le, nleb_lt, All-append}
use Rattle.sets.proofs.Tables.{length_table}
use Rattle.klaim.specs.Limits.{tuple_limit}
use Rattle.klaim.specs.Rows.{Row, row_line, group_n, group_t, group_l, group_q, group_b, group_a, group_e}
use Rattle.klaim.specs.Reader.{Text, an_estimate, of_group, present, full, headed, own, in_order, gather, pair_place, nth}
use Rattle.klaim.proofs.Above.{group_other, map_other, map_own, last_snoc}
use Rattle.tables.specs.View.{Tuples, tuples_of}
use Rattle.stores.specs.Sets.{pairs_of, bounds_of}
use Rattle.forms.specs.declared.rows.Pair.{Pair}
use Rattle.forms.specs.declared.rows.Sandbox.{Sandbox}
use Rattle.forms.specs.declared.rows.Tuple.{Tuple}
use Rattle.forms.specs.declared.rows.Root.{Root}
use Rattle.forms.specs.declared.rows.Process.{Process}
use Rattle.forms.specs.declared.rows.Bound.{Bound}
use Rattle.forms.specs.declared.rows.Row.{Row as FormRow}
use Rattle.forms.specs.declared.rows.Row.TheVariants as Form
use Rattle.forms.specs.Forms.{sites_of, size_data, pair_data, box_data, tuple_data, root_data, process_data, bound_data, row_data}
use Rattle.scan.specs.declared.Tally.{Tally}
use Rattle.scan.specs.Tallies.{last_number, counted_of}
use Rattle.scan.specs.Reasons.{fitting, Passed}
use Rattle.scan.proofs.Tallies.{and_under, none_full, counted_size, counted_last}
use Rattle.repeats.specs.Kept.{Keys, KeysAre}
use Rattle.repeats.proofs.Rows.{as_kept}
use Rattle.repeats.proofs.Keys.{keys_other}
use Rattle.estimates.specs.declared.reading.EstimateReader.{EstimateReader}
use Rattle.estimates.specs.Rows.{EstimateTables, EstimateTally, EstimateHolds, full_of, placed_of}

-- no row of a foreign group is let through
own_group : (g : ℕ) (t : Tally) → placed_of g t ≡ true → 7 ≤ g
unfolding placed_of
own_group g t h = leb_le group_b g (and_l _ _ h)

foreign_n : (n : ℕ) (t : Tally) → placed_of (row_data (Form.N n)).group t ≡ true → ⊥
unfolding row_data size_data
foreign_n n t h = let l = own_group 1 t h in omega arith

foreign_r : (p : Pair) (t : Tally) → placed_of (row_data (Form.R p)).group t ≡ true → ⊥
unfolding row_data pair_data
foreign_r p t h = let l = own_group 2 t h in omega arith

foreign_d : (b : Sandbox) (t : Tally) → placed_of (row_data (Form.D b)).group t ≡ true → ⊥
unfolding row_data box_data
foreign_d b t h = let l = own_group 3 t h in omega arith

foreign_t : (x : Tuple) (t : Tally) → placed_of (row_data (Form.T x)).group t ≡ true → ⊥
unfolding row_data tuple_data
foreign_t x t h = let l = own_group 4 t h in omega arith

foreign_l : (x : Root) (t : Tally) → placed_of (row_data (Form.L x)).group t ≡ true → ⊥
unfolding row_data root_data
foreign_l x t h = let l = own_group 5 t h in omega arith

foreign_q : (p : Process) (t : Tally) → placed_of (row_data (Form.Q p)).group t ≡ true → ⊥
unfolding row_data process_data row_line
foreign_q p t h = let l = own_group 6 t h in omega arith

-- so that a row let through is a B, an A or an E row
pub none_other : (row : FormRow) (t : Tally) → placed_of (row_data row).group t ≡ true → ((b : Bound) → row ≡ Form.B b → ⊥) → ((x : Tuple) → row ≡ Form.A x → ⊥) → ((p : Pair) → row ≡ Form.E p → ⊥) → ⊥
none_other (Form.N n) t h b a e = foreign_n n t h
none_other (Form.R p) t h b a e = foreign_r p t h
none_other (Form.D x) t h b a e = foreign_d x t h
none_other (Form.T x) t h b a e = foreign_t x t h
none_other (Form.L x) t h b a e = foreign_l x t h
none_other (Form.Q p) t h b a e = foreign_q p t h
none_other (Form.B x) t h b a e = b x refl
none_other (Form.A x) t h b a e = a x refl
none_other (Form.E p) t h b a e = e p refl

-- the tables, with a row more that stands in one of them
module _ {above : List Row} {R : EstimateReader} (T : EstimateTables above R) where
  binds_other : (r : Row) → eqb r.group group_b ≡ false → R.binds ≡ bounds_of (above ++ (r ∷ []))
  binds_other r e = T.binds_is ∙ sym (ap (gather 32 (λ r. nth r.vars 0) (λ r. 2 ^ nth r.sites 0)) (group_other group_b above r e))

  stand_other : (r : Row) → eqb r.group group_a ≡ false → tuples_of R.stand ≡ map (λ r. r.sites) (of_group group_a (above ++ (r ∷ [])))
  stand_other r e = T.stand_is ∙ sym (map_other (λ r. r.sites) group_a above r e)

  hold_other : (r : Row) → eqb r.group group_e ≡ false → R.hold ≡ pairs_of group_e (above ++ (r ∷ []))
  hold_other r e = T.hold_is ∙ sym (ap (gather 1024 pair_place (λ r. r.rights)) (group_other group_e above r e))

  no_key : (r : Row) → (r.group ≡ group_a → ⊥) → KeysAre group_a (above ++ (r ∷ [])) R.keys
  no_key r e = keys_other r e T.keys_are

  pub tables_b : (b : Bound) {new : List ℕ} {k : R.keys.count ≡ R.stand.count} → new ≡ bounds_of (above ++ (bound_data b ∷ [])) →
      EstimateTables (above ++ (row_data (Form.B b) ∷ [])) (record R { binds = new; keyed = k })
  unfolding row_data bound_data
  tables_b b h = record {
    binds_is = h;
    stand_is = stand_other (bound_data b) refl;
    hold_is = hold_other (bound_data b) refl;
    keys_are = no_key (bound_data b) (λ e. omega arith);
  }

  pub tables_a : (x : Tuple) {new : Tuples} {keys : Keys} {k : keys.count ≡ new.count} → tuples_of new ≡ tuples_of R.stand ++ (sites_of x ∷ []) →
      KeysAre group_a (above ++ (tuple_data group_a x ∷ [])) keys → EstimateTables (above ++ (row_data (Form.A x) ∷ [])) (record R { stand = new; keys = keys; keyed = k })
  unfolding row_data tuple_data
  tables_a x h K = record {
    binds_is = binds_other (tuple_data group_a x) refl;
    stand_is = h ∙ ap (λ (xs : List (List ℕ)). xs ++ (sites_of x ∷ [])) T.stand_is ∙ sym (map_own (λ r. r.sites) group_a above (tuple_data group_a x) refl);
    hold_is = hold_other (tuple_data group_a x) refl;
    keys_are = K;
  }

  pub tables_e : (p : Pair) {new : List ℕ} {k : R.keys.count ≡ R.stand.count} → new ≡ pairs_of group_e (above ++ (pair_data group_e p ∷ [])) →
      EstimateTables (above ++ (row_data (Form.E p) ∷ [])) (record R { hold = new; keyed = k })
  unfolding row_data pair_data
  tables_e p h = record {
    binds_is = binds_other (pair_data group_e p) refl;
    stand_is = stand_other (pair_data group_e p) refl;
    hold_is = h;
    keys_are = no_key (pair_data group_e p) (λ e. omega arith);
  }

-- the same tables beside another tally
pub recounted : {above : List Row} {R : EstimateReader} → EstimateTables above R → {t : Tally} {k : R.keys.count ≡ R.stand.count} →
    EstimateTables above (record R { tally = t; keyed = k })
recounted T = record { binds_is = T.binds_is; stand_is = T.stand_is; hold_is = T.hold_is; keys_are = T.keys_are }

-- as many tuples stand in the table as A rows stand above
stand_count : {above : List Row} {R : EstimateReader} → EstimateTables above R → length (of_group group_a above) ≡ R.stand.count
unfolding tuples_of
stand_count {above} {R} T = sym (length-map (of_group group_a above) (λ r. r.sites)) ∙ ap length (sym T.stand_is) ∙ length_table R.stand.count _

-- the last of four tests
fourth : {a b c x y : Bool} → a ≡ false → b ≡ false → c ≡ false → x ≡ y → either a (either b (either c x)) ≡ y
unfolding either
fourth p q r e = rw (p, q, r) e

-- a row of a foreign group has no row of its group above
module _ (n g : ℕ) (above : List Row) (O : All (λ r. own (an_estimate n) r.group ≡ true) above) where
  full_is : (R : EstimateReader) → length (of_group group_a above) ≡ R.stand.count → full (an_estimate n) g (length (of_group g above)) ≡ full_of g R
  unfolding full full_of own present
  full_is R m =
      fourth (none_full (an_estimate n) g above O group_t 256 refl refl) (none_full (an_estimate n) g above O group_l 64 refl refl) (ap (λ (k : ℕ). eqb g group_q & leb 256 k) (zero-add (length (of_group g above))) ∙ none_full (an_estimate n) g above O group_q 256 refl refl)
      (and_under (eqb g group_a) {x = leb 256 (length (of_group g above))} {y = leb 256 R.stand.count} (λ e. ap (leb 256) (ap (λ (x : ℕ). length (of_group x above)) (eqb_eq e) ∙ m)))

-- the tests of a row that stands below those that are held
module _ (n : ℕ) (above : List Row) (R : EstimateReader) (Y : EstimateTally n above R.tally) where
  placed_is : (r : Row) → headed (an_estimate n) above r & own (an_estimate n) r.group & in_order above r ≡ placed_of r.group R.tally
  unfolding headed own placed_of ◌&◌
  placed_is r = rw (Y.order r)

  -- the tally, with the row more
  pub tally_more : (row : FormRow) → Passed (row_data row) (full_of (row_data row).group R) (placed_of (row_data row).group R.tally) → EstimateTally n (above ++ (row_data row ∷ [])) (counted_of row 0 R.tally)
  unfolding own placed_of
  tally_more row P =
      let r = row_data row in
      let t = R.tally in
      let b : leb group_b r.group ≡ true = and_l _ _ P.placed in
      record {
        kept = All-append Y.kept (more (as_kept row P.low) done);
        owned = All-append Y.owned (more b done);
        order = λ x. last_snoc above (last_number t.last) r Y.order (and_r _ _ P.placed) x ∙ ap (λ (g : ℕ). leb g x.group) (sym (counted_last row 0 t));
        size_is = counted_size row 0 t
            ∙ ap (λ (x : Bool). cond x r.size t.size) (ne_eqb r.group group_n (λ e. omega (arith, leb_le group_b r.group b))) ∙ Y.size_is;
      }

-- 2 and 3 of a row that stands below those that are held
module _ {t : Text} {above : List Row} {R : EstimateReader} (H : EstimateHolds t above R) where
  pub full_law : (g : ℕ) → full_of g R ≡ full t g (length (of_group g above))
  full_law g = rw H.text (sym (full_is H.n g above H.counts.owned R (stand_count H.tables)))

  pub placed_law : {g : ℕ} (r : Row) → r.group ≡ g → placed_of g R.tally ≡ fitting t above r
  placed_law r e = rw (← e, H.text) (sym (placed_is H.n above R H.counts r))

-- there is room for one A row more
pub room_a : (g : ℕ) (R : EstimateReader) → g ≡ group_a → full_of g R ≡ false → R.stand.count < 256
unfolding full_of ◌&◌
room_a g R e f = nleb_lt tuple_limit R.stand.count (rw e at f)
