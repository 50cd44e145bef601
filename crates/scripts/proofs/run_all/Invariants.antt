use Rattle.script_rows.specs.Window.{HasFailed}
use Rattle.state.specs.Fits.{FitsNet}
use Rattle.scripts.proofs.run_all.Given as goal

abbrev pub invariant-loop : goal.invariant-loop
invariant-loop g l = FitsNet l.state × ¬ HasFailed l.incoming.window
