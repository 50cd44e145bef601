-- A state has the invariant.
-- Assumes nothing.
use Rattle.std.specs.Prelude.{IfOk}
use Rattle.state.specs.Fits.{FitsNet}
use Rattle.exports.proofs.start_times.Given as goal

abbrev pub invariant-loop : goal.invariant-loop
invariant-loop l = IfOk l.last FitsNet
