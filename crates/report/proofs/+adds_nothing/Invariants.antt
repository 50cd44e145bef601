-- `adds_nothing` meets its contract: at each action the tests in a row are the definition's. 256 less the line number falls.
-- Assumes nothing.
use Prim.Native.Nat.{◌-◌}
use Prim.Native.Nat.{◌-◌}
use Rattle.report.proofs.+adds_nothing.Given as goal

abbrev pub decreases-adds_nothing : goal.decreases-adds_nothing
decreases-adds_nothing l = 256 - l.q
