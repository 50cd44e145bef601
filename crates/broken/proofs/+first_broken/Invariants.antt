-- `first_broken` meets its contract. 256 less the line number falls.
-- Assumes nothing.
use Prim.Native.Nat.{◌-◌}
use Prim.Native.Nat.{◌-◌}
use Rattle.broken.proofs.+first_broken.Given as goal

abbrev pub decreases-first_broken : goal.decreases-first_broken
decreases-first_broken l = 256 - l.q
