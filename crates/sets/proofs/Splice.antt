-- Laws of lists with one place changed or taken out.
-- Assumes nothing.
use mathlib.Core.Path.{◌≡◌, refl, ap}
use mathlib.Core.List.{List, [], ◌∷◌}
use mathlib.Core.Option.{none, some}
use Prim.Native.Nat.{ℕ, zero, suc, ◌-◌, ◌<◌, ◌≤◌, ◌+◌}
use native.Mathlib.Omega.{arith}
use lib.ListN.{length, get_or, get_elem?, set, length-append}
use Rattle.sets.specs.Lists.{splice}

module _ {A : Type 0} where
  pub splice_long : (k : ℕ) (ys l : List A) → k < length l → length (splice k ys l) ≡ length l - 1 + length ys
  unfolding splice
  splice_long k ys [] h = absurd (omega arith)
  splice_long zero ys (x ∷ l) h = omega (arith, length-append ys l)
  splice_long (suc k) ys (x ∷ l) h = omega (arith, splice_long k ys l (omega arith))

  pub splice_low : (k : ℕ) (l : List A) (j : ℕ) (d : A) → j < k → get_or (splice k [] l) j d ≡ get_or l j d
  unfolding splice
  splice_low k [] j d h = refl
  splice_low zero (x ∷ l) j d h = absurd (omega arith)
  splice_low (suc k) (x ∷ l) zero d h = refl
  splice_low (suc k) (x ∷ l) (suc j) d h = splice_low k l j d (omega arith)

  pub splice_high : (k : ℕ) (l : List A) (j : ℕ) (d : A) → k ≤ j → get_or (splice k [] l) j d ≡ get_or l (suc j) d
  unfolding splice
  splice_high k [] j d h = refl
  splice_high zero (x ∷ l) j d h = refl
  splice_high (suc k) (x ∷ l) zero d h = absurd (omega arith)
  splice_high (suc k) (x ∷ l) (suc j) d h = splice_high k l j d (omega arith)

  pub splice_set : (k : ℕ) (x : A) (l : List A) → k < length l → set l k x ≡ splice k (x ∷ []) l
  unfolding splice
  splice_set k x [] h = refl
  splice_set zero x (y ∷ l) h = refl
  splice_set (suc k) x (y ∷ l) h = ap (λ (m : List A). y ∷ m) (splice_set k x l (omega arith))

  -- the element at a place, if there is one
  pub get_some : (d : A) (l : List A) (k : ℕ) → k < length l → get_elem? l k ≡ some (get_or l k d)
  get_some d [] k h = absurd (omega arith)
  get_some d (x ∷ l) zero h = refl
  get_some d (x ∷ l) (suc k) h = get_some d l k (omega arith)

  pub get_none : (l : List A) (k : ℕ) → length l ≤ k → get_elem? l k ≡ none
  get_none [] k h = refl
  get_none (x ∷ l) zero h = absurd (omega arith)
  get_none (x ∷ l) (suc k) h = get_none l k (omega arith)
