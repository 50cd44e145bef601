-- The letters of a set of rights: lower-case letters, no more than there are rights; bits that are no right do not count.
-- Assumes nothing.
use mathlib.Core.Path.{◌≡◌, ap}
use mathlib.Core.List.{[], ◌∷◌}
use Prim.Native.Nat.{ℕ, ◌%◌, ◌≤◌}
use Prim.Native.Char.{code}
use native.Mathlib.Omega.{arith}
use lib.Dec.{eqb}
use lib.ListN.{length}
use Rattle.sets.specs.Lists.{All, done, more, keep, concat}
use Rattle.sets.specs.Bits.{out_bit, in_bit, read_bit, eval_bit, every_bit, right_count, set_count, has}
use Rattle.sets.proofs.Lists.{cond_at, keep_short, keep_same, concat_short, All-concat-in}
use Rattle.sets.proofs.Bits.{right_low}
use Rattle.klaim.specs.Listing.{letter, letters}

-- a lower-case letter
abbrev pub Lowercase : ℕ → Type 0
Lowercase x = (code "a" ≤ x) × (x ≤ code "z")

letter_lowercase : (r : ℕ) → Lowercase (letter r)
unfolding letter
letter_lowercase r =
    cond_at Lowercase (eqb r out_bit) (λ t. omega arith) (λ t.
    cond_at Lowercase (eqb r in_bit) (λ t. omega arith) (λ t.
    cond_at Lowercase (eqb r read_bit) (λ t. omega arith) (λ t.
    cond_at Lowercase (eqb r eval_bit) (λ t. omega arith) (λ t. omega arith))))

pub letters_lowercase : (m : ℕ) → All Lowercase (letters m)
unfolding letters
letters_lowercase m = All-concat-in (λ r. letter r ∷ []) (keep (has m) every_bit) (λ r i. more (letter_lowercase r) done)

pub letters_short : (m : ℕ) → length (letters m) ≤ right_count
unfolding letters
letters_short m = omega (arith, concat_short (λ r. letter r ∷ []) (λ r. omega arith) (keep (has m) every_bit), keep_short (has m) every_bit)

pub letters_low : (m : ℕ) → letters (m % set_count) ≡ letters m
unfolding letters
letters_low m = ap (concat (λ r. letter r ∷ [])) (keep_same (has (m % set_count)) (has m) every_bit (right_low m))
