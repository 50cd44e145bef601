-- `free_vars` meets its contract: 256 less the line number falls.
-- Assumes nothing.
use Prim.Native.Nat.{◌-◌}
use Rattle.whole.proofs.+free_vars.Given as goal

abbrev pub decreases-free_vars : goal.decreases-free_vars
decreases-free_vars l = 256 - l.q
