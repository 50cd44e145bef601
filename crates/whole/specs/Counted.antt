-- How often lines are named.
-- Assumes nothing.
use Rattle.std.specs.Prelude.{◌≡◌, List, ℕ, ◌<◌, min, length, get_or}
use Rattle.sets.specs.Lists.{count}

-- place k has how often k stands in xs, at most 2
pub record Counted (xs : List ℕ) (counts : List ℕ) : Type 0 where
  pub long : length counts ≡ 256
  pub times : (k : ℕ) → k < 256 → get_or counts k 0 ≡ min (count k xs) 2
