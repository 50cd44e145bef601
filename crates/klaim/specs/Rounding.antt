-- What No. 7 asks of a rounded number, said without a quotient. Where p is not 0, the share of q of p is the one number of which
-- it is true (proofs/Share.antt).
-- Assumes nothing.
use Rattle.std.specs.Prelude.{◌≡◌, ℕ, ◌+◌, ◌-◌, ◌*◌, ◌%◌, ◌≤◌}

-- how far two numbers lie apart
abbrev pub apart : ℕ → ℕ → ℕ
apart x y = (x - y) + (y - x)

-- n is what a / p is rounded to; distances are taken p times, so that they are whole
pub record Nearest (p a n : ℕ) : Type 0 where
  -- "to the nearest": no number m is nearer
  pub none_nearer : (m : ℕ) → apart a (n * p) ≤ apart a (m * p)
  -- "a half going to the even one": where another number m is as near, n is even
  pub half_even : (m : ℕ) → (m ≡ n → ⊥) → apart a (m * p) ≡ apart a (n * p) → n % 2 ≡ 0
