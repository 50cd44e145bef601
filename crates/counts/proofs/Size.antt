-- Laws of counts: the size of a set from its bits, and its bound.
-- Assumes nothing.
use mathlib.Core.Path.{◌≡◌, sym}
use mathlib.Core.List.{List}
use Prim.Native.Nat.{ℕ, ◌+◌, ◌/◌, ◌%◌, ◌<◌, ◌≤◌}
use native.Mathlib.Omega.{arith}
use native.Mathlib.Decide.{ℕ_discrete}
use lib.Dec.{eqb}
use lib.ListN.{length, take, get_or}
use borrow.Author.Tests.{eq-eqb, ne_eqb}
use Rattle.sets.specs.Lists.{only, keep, sum, below}
use Rattle.sets.specs.Bits.{every_bit, right_count, has, size}
use Rattle.sets.proofs.Lists.{length_cat, keep_short}
use Rattle.sets.proofs.Runs.{sum_below, sum_take}

-- a bit, as a number
bit : (m r : ℕ) → length (only (has m r) r) ≡ m / r % 2
unfolding has only
bit m r = go (ℕ_discrete (m / r % 2) 1)
  where
    go : Dec (m / r % 2 ≡ 1) → length (only (eqb (m / r % 2) 1) r) ≡ m / r % 2
    go (yes e) = rw (eq-eqb (m / r % 2) 1 e) (sym e)
    go (no e) = rw (ne_eqb (m / r % 2) 1 e) (omega arith)

pub size_bits : (m : ℕ) → size m ≡ m % 2 + m / 2 % 2 + m / 4 % 2 + m / 8 % 2 + m / 16 % 2
unfolding size keep
size_bits m = simp (length_cat, bit) (omega arith)

-- a set has no more rights than there are
pub size_most : (m : ℕ) → size m ≤ right_count
unfolding size
size_most m = keep_short (has m) every_bit

pub counted_most : {v : ℕ} (m : ℕ) → v ≡ size m → v ≤ right_count
counted_most m e = omega (arith, size_most m)

-- a turn of a loop that counts: over the numbers below t, and over a list
pub counted : (f : ℕ → ℕ) {t count v : ℕ} → count ≡ sum f (below t) → v ≡ f t → count + v ≡ sum f (below (t + 1))
counted f {t} p q = omega (arith, sum_below f t)

pub counted_list : (f : ℕ → ℕ) (xs : List ℕ) {i count v : ℕ} → i < length xs → count ≡ sum f (take i xs) → v ≡ f (get_or xs i 0) → count + v ≡ sum f (take (i + 1) xs)
counted_list f xs {i} h p q = omega (arith, sum_take f xs i 0 h)
