-- `add_evals` meets its contract: at each action the report gets what the definition says of the line's process. 256 less the line number falls.
-- Assumes nothing.
use Prim.Native.Nat.{◌-◌}
use Prim.Native.Nat.{◌-◌}
use Rattle.report.proofs.+add_evals.Given as goal

abbrev pub decreases-add_evals : goal.decreases-add_evals
decreases-add_evals l = 256 - l.q
