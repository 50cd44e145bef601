-- The lesser of two line numbers, where there are any.
-- Assumes nothing.
use Rattle.std.specs.Prelude.{ℕ}
use Rattle.std.proofs.Math.Option.{Option, none, some}
use Rattle.klaim.specs.Analysis.{lesser}

unfoldable pub lesser_of : Option ℕ → Option ℕ → Option ℕ
lesser_of none y = y
lesser_of (some x) y = some (lesser x y)
