-- The state has the invariant.
-- Assumes nothing.
use Rattle.state.specs.Fits.{FitsNet}
use Rattle.exports.proofs.bring_times.Given as goal

abbrev pub invariant-loop : goal.invariant-loop
invariant-loop l = FitsNet l.last × FitsNet l.state
