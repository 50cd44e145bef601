-- Laws of the form of a row, by its letter.
-- Assumes nothing.
use mathlib.Core.Path.{◌≡◌, refl, sym, ap, ◌∙◌}
use mathlib.Core.Bool.{false}
use mathlib.Core.List.{List, [], ◌∷◌}
use mathlib.Core.Option.{none}
use Prim.Native.Nat.{ℕ, ◌≤◌, ◌<◌}
use native.Mathlib.Omega.{arith}
use lib.Dec.{eqb}
use lib.ListN.{length, get_or}
use borrow.Author.Tests.{ne_eqb}
use Rattle.sets.specs.Lists.{◌&◌, same}
use Rattle.sets.proofs.Lists.{and_false}
use Rattle.klaim.specs.Rows.{split, comma, at, text, given, otherwise, group_r, group_t, group_a, group_e, row_n, row_pair, row_d, row_tuple, row_l, row_b, row_q, row_form, row_of}
use Rattle.text.proofs.Fields.{otherwise_none}

one_byte : (f : List ℕ) → 1 ≤ length f → length f < 2 → f ≡ get_or f 0 0 ∷ []
one_byte [] h k = absurd (omega arith)
one_byte (x ∷ []) h k = refl
one_byte (x ∷ y ∷ f) h k = absurd (omega arith)

-- a field of no byte or of several is no letter
no_letter : (f : List ℕ) (x : ℕ) → (length f ≡ 1 → ⊥) → same f (x ∷ []) ≡ false
unfolding same ◌&◌
no_letter [] x h = refl
no_letter (y ∷ []) x h = absurd (h refl)
no_letter (y ∷ z ∷ f) x h = and_false (eqb y x)

-- a row of these bytes, whose first field is f
module _ (bytes f : List ℕ) (F : f ≡ at (split comma bytes) 0) where
  pub letter_long : (length f ≡ 1 → ⊥) → none ≡ row_of bytes
  unfolding row_of row_form text given otherwise
  letter_long h = rw (← F, no_letter f 78 h, no_letter f 82 h, no_letter f 68 h, no_letter f 84 h, no_letter f 76 h, no_letter f 81 h, no_letter f 66 h, no_letter f 65 h, no_letter f 69 h) refl

  module _ (h : 1 ≤ length f) (k : length f < 2) where
    letter_is : {x : ℕ} → get_or f 0 0 ≡ x → at (split comma bytes) 0 ≡ x ∷ []
    letter_is e = sym F ∙ one_byte f h k ∙ ap (λ x. x ∷ []) e

    pub letter_other : (get_or f 0 0 ≡ 78 → ⊥) → (get_or f 0 0 ≡ 82 → ⊥) → (get_or f 0 0 ≡ 68 → ⊥) → (get_or f 0 0 ≡ 84 → ⊥) → (get_or f 0 0 ≡ 76 → ⊥) → (get_or f 0 0 ≡ 81 → ⊥) → (get_or f 0 0 ≡ 66 → ⊥) → (get_or f 0 0 ≡ 65 → ⊥) → (get_or f 0 0 ≡ 69 → ⊥) → none ≡ row_of bytes
    unfolding row_of row_form same text given otherwise ◌&◌
    letter_other hN hR hD hT hL hQ hB hA hE = rw (letter_is refl, ne_eqb _ 78 hN, ne_eqb _ 82 hR, ne_eqb _ 68 hD, ne_eqb _ 84 hT, ne_eqb _ 76 hL, ne_eqb _ 81 hQ, ne_eqb _ 66 hB, ne_eqb _ 65 hA, ne_eqb _ 69 hE) refl

    pub letter_N : get_or f 0 0 ≡ 78 → row_of bytes ≡ row_n (split comma bytes)
    unfolding row_of row_form same text given otherwise ◌&◌
    letter_N e = rw (letter_is e) (otherwise_none (row_n (split comma bytes)))

    pub letter_R : get_or f 0 0 ≡ 82 → row_of bytes ≡ row_pair group_r (split comma bytes)
    unfolding row_of row_form same text given otherwise ◌&◌
    letter_R e = rw (letter_is e) (otherwise_none (row_pair group_r (split comma bytes)))

    pub letter_D : get_or f 0 0 ≡ 68 → row_of bytes ≡ row_d (split comma bytes)
    unfolding row_of row_form same text given otherwise ◌&◌
    letter_D e = rw (letter_is e) (otherwise_none (row_d (split comma bytes)))

    pub letter_T : get_or f 0 0 ≡ 84 → row_of bytes ≡ row_tuple group_t (split comma bytes)
    unfolding row_of row_form same text given otherwise ◌&◌
    letter_T e = rw (letter_is e) (otherwise_none (row_tuple group_t (split comma bytes)))

    pub letter_L : get_or f 0 0 ≡ 76 → row_of bytes ≡ row_l (split comma bytes)
    unfolding row_of row_form same text given otherwise ◌&◌
    letter_L e = rw (letter_is e) (otherwise_none (row_l (split comma bytes)))

    pub letter_Q : get_or f 0 0 ≡ 81 → row_of bytes ≡ row_q (split comma bytes)
    unfolding row_of row_form same text given otherwise ◌&◌
    letter_Q e = rw (letter_is e) (otherwise_none (row_q (split comma bytes)))

    pub letter_B : get_or f 0 0 ≡ 66 → row_of bytes ≡ row_b (split comma bytes)
    unfolding row_of row_form same text given otherwise ◌&◌
    letter_B e = rw (letter_is e) (otherwise_none (row_b (split comma bytes)))

    pub letter_A : get_or f 0 0 ≡ 65 → row_of bytes ≡ row_tuple group_a (split comma bytes)
    unfolding row_of row_form same text given otherwise ◌&◌
    letter_A e = rw (letter_is e) (otherwise_none (row_tuple group_a (split comma bytes)))

    pub letter_E : get_or f 0 0 ≡ 69 → row_of bytes ≡ row_pair group_e (split comma bytes)
    unfolding row_of row_form same text given otherwise ◌&◌
    letter_E e = rw (letter_is e) refl
