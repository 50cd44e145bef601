-- Laws of the verdict as the code finds it.
-- Assumes nothing.
use mathlib.Core.Path.{◌≡◌, refl, sym, ap, ◌∙◌}
use mathlib.Core.Bool.{Bool, true, false, cond}
use mathlib.Core.List.{List, [], ◌∷◌}
use mathlib.Core.Option.{none, some, map}
use Prim.Native.Nat.{ℕ, zero, suc, ◌+◌, ◌<◌, ◌≤◌}
use native.Mathlib.Omega.{arith}
use native.Mathlib.Numerals.{add-one}
use lib.ListN.{length, get_or}
use Rattle.sets.specs.Lists.{◌⧺◌, any, same, table, concat}
use Rattle.sets.proofs.Runs.{concat_append, concat_one}
use Rattle.sets.proofs.Tables.{get_or_table, length_table, table_snoc}
use Rattle.klaim.specs.Net.{Estimate}
use Rattle.klaim.specs.Analysis.{first_not, least, stands}
use Rattle.tables.specs.View.{tuples_of}
use Rattle.rules.specs.Masks.{IndexOf}
use Rattle.broken.specs.Lesser.{lesser_of}
use Rattle.broken.proofs.Laws.{least_both}

-- the first place that does not pass
module _ {A : Type 0} (f : A → Bool) where
  first_at : (xs : List A) (i : ℕ) (d : A) → ((k : ℕ) → k < i → f (get_or xs k d) ≡ true) → i < length xs → f (get_or xs i d) ≡ false → first_not f xs ≡ some i
  unfolding first_not
  first_at [] i d h l e = absurd (omega arith)
  first_at (x ∷ xs) zero d h l e = ap (λ (b : Bool). cond b (map suc (first_not f xs)) (some 0)) e
  first_at (x ∷ xs) (suc i) d h l e =
      ap (λ (b : Bool). cond b (map suc (first_not f xs)) (some 0)) (h 0 (omega arith))
      ∙ ap (map suc) (first_at xs i d (λ k q. h (suc k) (omega arith)) (omega arith) e)

  first_none : (xs : List A) (d : A) → ((k : ℕ) → k < length xs → f (get_or xs k d) ≡ true) → first_not f xs ≡ none
  unfolding first_not
  first_none [] d h = refl
  first_none (x ∷ xs) d h =
      ap (λ (b : Bool). cond b (map suc (first_not f xs)) (some 0)) (h 0 (omega arith))
      ∙ ap (map suc) (first_none xs d (λ k q. h (suc k) (omega arith)))

  -- of a table
  module _ (n : ℕ) (g : ℕ → A) where
    pub table_at : (i : ℕ) → ((k : ℕ) → k < i → f (g k) ≡ true) → i < n → f (g i) ≡ false → some i ≡ first_not f (table n g)
    table_at i h l e = sym (first_at (table n g) i (g 0) (λ k q. ap f (get_or_table n g k (g 0) (omega arith)) ∙ h k q) (omega (arith, length_table n g)) (ap f (get_or_table n g i (g 0) l) ∙ e))

    pub table_none : (i : ℕ) → ((k : ℕ) → k < i → f (g k) ≡ true) → n ≤ i → none ≡ first_not f (table n g)
    table_none i h e = sym (first_none (table n g) (g 0) (λ k q. let l : k < n = omega (arith, length_table n g) in ap f (get_or_table n g k (g 0) l) ∙ h k (omega arith)))

-- the least over one root more
pub least_more : {A : Type 0} (F : A → List ℕ) (n : ℕ) (g : ℕ → A) {x : A} → x ≡ g n
    → lesser_of (least (concat F (table n g))) (least (F x)) ≡ least (concat F (table (n + 1) g))
unfolding concat
least_more {A} F n g {x} e = sym (least_both (concat F (table n g)) (F x)) ∙ ap least (ap (λ (y : A). concat F (table n g) ⧺ F y) e ∙ sym more)
  where
    more : concat F (table (n + 1) g) ≡ concat F (table n g) ⧺ F (g n)
    more =
        ap (λ (k : ℕ). concat F (table k g)) (add-one n)
        ∙ ap (concat F) (table_snoc n g)
        ∙ concat_append F (table n g) (g n ∷ [])
        ∙ ap (λ (ys : List ℕ). concat F (table n g) ⧺ ys) (concat_one F (g n))

-- a tuple has a row
pub row_stands : {E : Estimate} {index : List ℕ} (w : IndexOf E index) (t : List ℕ) {b : Bool} → b ≡ any (same t) (tuples_of w.rows) → b ≡ stands E t
unfolding stands
row_stands w t h = h ∙ ap (any (same t)) (sym w.stand)
