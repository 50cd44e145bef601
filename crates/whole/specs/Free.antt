-- Free variables as sets of numbers.
-- Assumes nothing.
use Rattle.std.specs.Prelude.{List, ℕ, ◌^◌}
use Rattle.sets.specs.Bits.{joins}

-- the set of the numbers of a list
unfoldable pub mask_of : List ℕ → ℕ
mask_of us = joins (λ u. 2 ^ u) us
