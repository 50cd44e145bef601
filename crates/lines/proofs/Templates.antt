-- Laws of the fields of a tuple or a template, by their number.
-- Assumes nothing.
use mathlib.Core.Path.{◌≡◌, refl, ap, ◌∙◌}
use mathlib.Core.List.{List, [], ◌∷◌}
use mathlib.Core.Option.{Option, none, some}
use Prim.Native.Nat.{ℕ, zero, suc, ◌+◌, ◌-◌}
use native.Mathlib.Omega.{arith}
use lib.ListN.{length, drop, length-drop}
use lib.Seq.{get_or-drop}
use borrow.Author.Tests.{le-leb, lt-leb}
use Rattle.sets.specs.Lists.{◌&◌}
use Rattle.klaim.specs.Rows.{at, given, ◌>>=◌, each, fields}

module _ {A : Type 0} (g : List ℕ → Option A) where
  one : (fs : List (List ℕ)) → length fs ≡ 1 → fields g fs ≡ (g (at fs 0) >>= λ a. some (a ∷ []))
  unfolding fields each given ◌>>=◌ ◌&◌
  one [] h = absurd (omega arith)
  one (x ∷ []) h = refl
  one (x ∷ y ∷ fs) h = absurd (omega arith)

  two : (fs : List (List ℕ)) → length fs ≡ 2 → fields g fs ≡ (g (at fs 0) >>= λ a. (g (at fs 1) >>= λ b. some (b ∷ [])) >>= λ bs. some (a ∷ bs))
  unfolding fields each given ◌>>=◌ ◌&◌
  two [] h = absurd (omega arith)
  two (x ∷ []) h = absurd (omega arith)
  two (x ∷ y ∷ []) h = refl
  two (x ∷ y ∷ z ∷ fs) h = absurd (omega arith)

  three : (fs : List (List ℕ)) → length fs ≡ 3 → fields g fs ≡ (g (at fs 0) >>= λ a. (g (at fs 1) >>= λ b. (g (at fs 2) >>= λ c. some (c ∷ [])) >>= λ cs. some (b ∷ cs)) >>= λ bs. some (a ∷ bs))
  unfolding fields each given ◌>>=◌ ◌&◌
  three [] h = absurd (omega arith)
  three (x ∷ []) h = absurd (omega arith)
  three (x ∷ y ∷ []) h = absurd (omega arith)
  three (x ∷ y ∷ z ∷ []) h = refl
  three (x ∷ y ∷ z ∷ w ∷ fs) h = absurd (omega arith)

  four : (fs : List (List ℕ)) → length fs ≡ 4 → fields g fs ≡ (g (at fs 0) >>= λ a. (g (at fs 1) >>= λ b. (g (at fs 2) >>= λ c. (g (at fs 3) >>= λ d. some (d ∷ [])) >>= λ ds. some (c ∷ ds)) >>= λ cs. some (b ∷ cs)) >>= λ bs. some (a ∷ bs))
  unfolding fields each given ◌>>=◌ ◌&◌
  four [] h = absurd (omega arith)
  four (x ∷ []) h = absurd (omega arith)
  four (x ∷ y ∷ []) h = absurd (omega arith)
  four (x ∷ y ∷ z ∷ []) h = absurd (omega arith)
  four (x ∷ y ∷ z ∷ w ∷ []) h = refl
  four (x ∷ y ∷ z ∷ w ∷ v ∷ fs) h = absurd (omega arith)

  other : (fs : List (List ℕ)) (n : ℕ) → length fs ≡ n → (n ≡ 1 → ⊥) → (n ≡ 2 → ⊥) → (n ≡ 3 → ⊥) → (n ≡ 4 → ⊥) → fields g fs ≡ none
  unfolding fields given ◌&◌
  other fs zero h a b c d = rw h refl
  other fs (suc n) h a b c d = rw (le-leb 1 (length fs) (omega arith), lt-leb (length fs) 4 (omega arith)) refl

  -- the fields of a row from k on
  module _ (fs : List (List ℕ)) (k : ℕ) where
    piece : (j : ℕ) → at (drop k fs) j ≡ at fs (k + j)
    piece j = get_or-drop k fs j []

    first : at (drop k fs) 0 ≡ at fs k
    first = piece 0 ∙ ap (λ i. at fs i) (omega arith)

    pub one_at : length fs - k ≡ 1 → fields g (drop k fs) ≡ (g (at fs k) >>= λ a. some (a ∷ []))
    one_at h = one (drop k fs) (length-drop k fs ∙ h) ∙ rw first refl

    pub two_at : length fs - k ≡ 2 → fields g (drop k fs) ≡ (g (at fs k) >>= λ a. (g (at fs (k + 1)) >>= λ b. some (b ∷ [])) >>= λ bs. some (a ∷ bs))
    two_at h = two (drop k fs) (length-drop k fs ∙ h) ∙ rw (first, piece 1) refl

    pub three_at : length fs - k ≡ 3 → fields g (drop k fs) ≡ (g (at fs k) >>= λ a. (g (at fs (k + 1)) >>= λ b. (g (at fs (k + 2)) >>= λ c. some (c ∷ [])) >>= λ cs. some (b ∷ cs)) >>= λ bs. some (a ∷ bs))
    three_at h = three (drop k fs) (length-drop k fs ∙ h) ∙ rw (first, piece 1, piece 2) refl

    pub four_at : length fs - k ≡ 4 → fields g (drop k fs) ≡ (g (at fs k) >>= λ a. (g (at fs (k + 1)) >>= λ b. (g (at fs (k + 2)) >>= λ c. (g (at fs (k + 3)) >>= λ d. some (d ∷ [])) >>= λ ds. some (c ∷ ds)) >>= λ cs. some (b ∷ cs)) >>= λ bs. some (a ∷ bs))
    four_at h = four (drop k fs) (length-drop k fs ∙ h) ∙ rw (first, piece 1, piece 2, piece 3) refl

    pub other_at : (n : ℕ) → length fs - k ≡ n → (n ≡ 1 → ⊥) → (n ≡ 2 → ⊥) → (n ≡ 3 → ⊥) → (n ≡ 4 → ⊥) → fields g (drop k fs) ≡ none
    other_at n h = other (drop k fs) n (length-drop k fs ∙ h)
