-- The tests on the rows above, read off a tally of them.
-- Assumes nothing.
use mathlib.Core.Path.{◌≡◌, refl, sym, ap, ◌∙◌}
use mathlib.Core.Bool.{Bool, true, false, cond, not, ◌&&◌, false≢true}
use mathlib.Core.List.{List, [], ◌∷◌, ◌++◌}
use Prim.Native.Nat.{ℕ, ◌+◌}
use lib.Dec.{eqb, leb}
use lib.ListN.{length, length-append}
use borrow.Author.Tests.{eq-eqb}
use Rattle.sets.specs.Lists.{All, done, more, ◌&◌, only, keep, below, same, ◌⧺◌}
use Rattle.sets.proofs.Lists.{eqb_eq, not_no, not_yes, and_true, and_false, and_assoc}
use Rattle.sets.proofs.Runs.{below_snoc}
use Rattle.klaim.specs.Rows.{Row, group_n, group_r, group_t, group_q, group_a, group_e, row_line}
use Rattle.klaim.specs.Reader.{Text, of_group, own, nth, numbers_of, lines_of}
use Rattle.klaim.proofs.Above.{map_other, map_own}
use Rattle.forms.specs.declared.rows.Process.{Process}
use Rattle.forms.specs.declared.rows.Row as Form
use Rattle.forms.specs.declared.rows.Row.TheVariants.{N, R, D, T, L, Q, B, A, E}
use Rattle.forms.specs.Forms.{group_of, row_data, size_data, pair_data, box_data, tuple_data, root_data, process_data, bound_data}
use Rattle.std.specs.Prelude.{Option, None, Some, is_some}
use Rattle.forms.specs.declared.rows.Group.{Group}
use Rattle.forms.specs.declared.rows.Group.TheVariants as Groups
use Rattle.scan.specs.declared.Tally.{Tally}
use Rattle.scan.specs.Tallies.{last_number, counted_of}

-- a test that is asked for only where another holds
pub and_under : (a : Bool) {x y : Bool} → (a ≡ true → x ≡ y) → a & x ≡ a & y
unfolding ◌&◌
and_under true h = h refl
and_under false h = refl

-- the code's test of both
pub and_both : (a b : Bool) → (a && b) ≡ a & b
unfolding ◌&◌
and_both true b = refl
and_both false b = refl

-- two lists with a number more behind each
pub same_snoc : (xs ys : List ℕ) (x y : ℕ) → same (xs ++ (x ∷ [])) (ys ++ (y ∷ [])) ≡ same xs ys & eqb x y
unfolding same ◌&◌
same_snoc [] [] x y = and_true (eqb x y)
same_snoc [] (b ∷ []) x y = and_false (eqb x b)
same_snoc [] (b ∷ c ∷ ys) x y = and_false (eqb x b)
same_snoc (a ∷ []) [] x y = and_false (eqb a y)
same_snoc (a ∷ c ∷ xs) [] x y = and_false (eqb a y)
same_snoc (a ∷ xs) (b ∷ ys) x y = ap (λ (t : Bool). eqb a b & t) (same_snoc xs ys x y) ∙ sym (and_assoc (eqb a b) (same xs ys) (eqb x y))

-- Q rows in turn, with one row more
module _ (above : List Row) (r : Row) (n : ℕ) where
  pub turn_own : r.group ≡ group_q → same (numbers_of (above ++ (r ∷ []))) (below (n + 1)) ≡ same (numbers_of above) (below n) & eqb (nth r.lines 0) n
  unfolding numbers_of
  turn_own e = rw (map_own (λ r. nth r.lines 0) group_q above r (eq-eqb r.group group_q e), below_snoc n) (same_snoc (numbers_of above) (below n) (nth r.lines 0) n)

  pub turn_other : eqb r.group group_q ≡ false → same (numbers_of (above ++ (r ∷ []))) (below n) ≡ same (numbers_of above) (below n)
  unfolding numbers_of
  turn_other e = rw (map_other (λ r. nth r.lines 0) group_q above r e)

-- Q rows in turn, by the lines above
abbrev pub in_turn : List Row → Bool
in_turn above = same (numbers_of above) (below (length (lines_of above)))

module _ (above : List Row) (r : Row) where
  in_turn_own : r.group ≡ group_q → in_turn (above ++ (r ∷ [])) ≡ in_turn above & eqb (nth r.lines 0) (length (lines_of above))
  unfolding lines_of
  in_turn_own e =
      let n = length (lines_of above) in
      let many : length (lines_of (above ++ (r ∷ []))) ≡ n + 1 = ap length (map_own (λ r. r.process) group_q above r (eq-eqb r.group group_q e))
      ∙ length-append (lines_of above) (r.process ∷ []) in
      rw many (turn_own above r n e)

  in_turn_other : eqb r.group group_q ≡ false → in_turn (above ++ (r ∷ [])) ≡ in_turn above
  unfolding lines_of
  in_turn_other e = rw (map_other (λ r. r.process) group_q above r e) (turn_other above r (length (lines_of above)) e)

-- no row of a foreign group stands above
pub group_none : (t : Text) (g : ℕ) (above : List Row) → All (λ r. own t r.group ≡ true) above → own t g ≡ false → of_group g above ≡ []
unfolding of_group keep only ◌⧺◌
group_none t g [] done h = refl
group_none t g (r ∷ above) (more p ps) h = go (eqb r.group g) refl (group_none t g above ps h)
  where
    go : (b : Bool) → eqb r.group g ≡ b → keep (λ r. eqb r.group g) above ≡ [] → only b r ⧺ keep (λ r. eqb r.group g) above ≡ []
    go true e k = absurd (false≢true (sym h ∙ ap (own t) (sym (eqb_eq e)) ∙ p))
    go false e k = k

-- so that group is not full
pub none_full : (t : Text) (g : ℕ) (above : List Row) → All (λ r. own t r.group ≡ true) above → (h limit : ℕ) → own t h ≡ false → leb limit 0 ≡ false → eqb g h & leb limit (length (of_group g above)) ≡ false
unfolding ◌&◌
none_full t g above O h limit o z = go (eqb g h) refl
  where
    go : (b : Bool) → eqb g h ≡ b → b & leb limit (length (of_group g above)) ≡ false
    go true e = ap (λ (x : ℕ). leb limit (length (of_group x above))) (eqb_eq e) ∙ ap (λ (xs : List Row). leb limit (length xs)) (group_none t h above O o) ∙ z
    go false e = refl

-- the tally with a row more
pub counted_other : (r : Form.Row) (n : ℕ) (t : Tally) → ((k : ℕ) → r ≡ N k → ⊥) → ((p : Process) → r ≡ Q p → ⊥) →
    record t { last = Some (group_of r) } ≡ counted_of r n t
counted_other (N k) n t a b = absurd (a k refl)
counted_other (R p) n t a b = refl
counted_other (D x) n t a b = refl
counted_other (T x) n t a b = refl
counted_other (L x) n t a b = refl
counted_other (Q p) n t a b = absurd (b p refl)
counted_other (B x) n t a b = refl
counted_other (A x) n t a b = refl
counted_other (E p) n t a b = refl

-- the size, the last group and the turn of a tally with a row more
pub counted_size : (r : Form.Row) (n : ℕ) (t : Tally) → (counted_of r n t).size ≡ cond (eqb (row_data r).group group_n) (row_data r).size t.size
unfolding row_data size_data pair_data box_data tuple_data root_data process_data bound_data row_line
counted_size (N x) n t = refl
counted_size (R x) n t = refl
counted_size (D x) n t = refl
counted_size (T x) n t = refl
counted_size (L x) n t = refl
counted_size (Q x) n t = refl
counted_size (B x) n t = refl
counted_size (A x) n t = refl
counted_size (E x) n t = refl

pub counted_last : (r : Form.Row) (n : ℕ) (t : Tally) → last_number (counted_of r n t).last ≡ (row_data r).group
unfolding row_data size_data pair_data box_data tuple_data root_data process_data bound_data row_line
counted_last (N x) n t = refl
counted_last (R x) n t = refl
counted_last (D x) n t = refl
counted_last (T x) n t = refl
counted_last (L x) n t = refl
counted_last (Q x) n t = refl
counted_last (B x) n t = refl
counted_last (A x) n t = refl
counted_last (E x) n t = refl

pub counted_turn : (above : List Row) (r : Form.Row) (t : Tally) → in_turn above ≡ t.turn →
    in_turn (above ++ (row_data r ∷ [])) ≡ (counted_of r (length (lines_of above)) t).turn
unfolding row_data size_data pair_data box_data tuple_data root_data process_data bound_data row_line
counted_turn above (N x) t e = in_turn_other above (size_data x) refl ∙ e
counted_turn above (R x) t e = in_turn_other above (pair_data group_r x) refl ∙ e
counted_turn above (D x) t e = in_turn_other above (box_data x) refl ∙ e
counted_turn above (T x) t e = in_turn_other above (tuple_data group_t x) refl ∙ e
counted_turn above (L x) t e = in_turn_other above (root_data x) refl ∙ e
counted_turn above (Q x) t e = in_turn_own above (process_data x) refl ∙ ap (λ (b : Bool). b & eqb x.number (length (lines_of above))) e
counted_turn above (B x) t e = in_turn_other above (bound_data x) refl ∙ e
counted_turn above (A x) t e = in_turn_other above (tuple_data group_a x) refl ∙ e
counted_turn above (E x) t e = in_turn_other above (pair_data group_e x) refl ∙ e

-- whether a row stands above, by the last group
pub no_last : (o : Option Group) (b : Bool) → is_some o ≡ not b → b ≡ eqb (last_number o) 0
no_last None b h = not_no b (sym h)
no_last (Some Groups.N) b h = not_yes b (sym h)
no_last (Some Groups.R) b h = not_yes b (sym h)
no_last (Some Groups.D) b h = not_yes b (sym h)
no_last (Some Groups.T) b h = not_yes b (sym h)
no_last (Some Groups.L) b h = not_yes b (sym h)
no_last (Some Groups.Q) b h = not_yes b (sym h)
no_last (Some Groups.B) b h = not_yes b (sym h)
no_last (Some Groups.A) b h = not_yes b (sym h)
no_last (Some Groups.E) b h = not_yes b (sym h)
