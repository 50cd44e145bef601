-- An array that is made by calls of a closure, index by index, is the table of what the closure answers.
-- Assumes nothing.
use mathlib.Core.Path.{◌≡◌, sym, subst, ◌∙◌}
use mathlib.Core.List.{List}
use Prim.Native.Nat.{ℕ, zero, suc, ◌+◌, ◌<◌, ◌≤◌}
use native.Mathlib.Omega.{arith}
use native.Mathlib.Decide.{dec_le}
use denote.Param.Members.{Mut, Called}
use lib.ListN.{length, get_or}
use lib.Seq.{take_all}
use Rattle.std.specs.Array.{IsFromFnResult, IsFromFnResultFrom}
use Rattle.sets.specs.Lists.{table}
use Rattle.sets.proofs.Tables.{list_table, same_table}

module _ {F B : Type 0} (g : Mut F (ℕ × Unit {0}) B) (f : F) (h : ℕ → B) (n : ℕ) where
  -- each call leaves the closure as it is and answers h
  abbrev pub Answers : Type 0
  Answers = (i : ℕ) (y : B) (q : F) → i < n → Called g f (i, tt) y q → (q ≡ f) × (y ≡ h i)

  from_on : (ys : List B) → Answers → (k i : ℕ) → i + k ≡ n → IsFromFnResultFrom g f ys i k → (j : ℕ) (d : B) → i ≤ j → j < n → get_or ys j d ≡ h j
  from_on ys a zero i e w j d l m = absurd (omega arith)
  from_on ys a (suc k) i e w j d l m =
      let one : (w.0 ≡ f) × (w.1 ≡ h i) = a i w.1 w.0 (omega arith) w.3 in
      let rest : IsFromFnResultFrom g f ys (i + 1) k = subst (λ (p : F). IsFromFnResultFrom g p ys (i + 1) k) one.0 w.4 in
      let later : i + 1 ≤ j → get_or ys j d ≡ h j = λ q. from_on ys a k (i + 1) (omega arith) rest j d q m in
      elim (dec_le j i) [
        | yes q ↦ let r : j ≡ i = omega arith in rw r (w.2.1 d ∙ one.1)
        | no q ↦ later (omega arith)
      ]

  pub from_fn_table : {ys : List B} → B → Answers → IsFromFnResult g f ys n → ys ≡ table n h
  from_fn_table {ys} d a w = sym (take_all n ys (omega (arith, w.long))) ∙ list_table d n ys (omega (arith, w.long)) ∙ same_table n _ _ d (λ k l. from_on ys a n 0 (omega arith) w.each k d (omega arith) l)
