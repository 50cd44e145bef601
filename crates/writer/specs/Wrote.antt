-- What a function that writes into a lent buffer does.
-- Assumes nothing.
use Rattle.std.specs.Prelude.{◌≡◌, List, ◌∷◌, ◌++◌, ℕ, ◌+◌, ◌≤◌, length, take, drop}
use Rattle.klaim.specs.Rows.{comma}

-- `bytes` were written from `at` on, all within the buffer; what lies elsewhere is kept, and `next` is the place behind them
pub record Wrote (before after : List ℕ) (at : ℕ) (bytes : List ℕ) (next : ℕ) : Type 0 where
  pub room : at + length bytes ≤ length before
  pub is : after ≡ take at before ++ bytes ++ drop (at + length bytes) before
  pub ends : next ≡ at + length bytes

-- a field behind its comma
abbrev pub field : List ℕ → List ℕ
field bytes = comma ∷ bytes
