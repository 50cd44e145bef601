-- The place lies within the choices.
-- Assumes nothing.
use Rattle.std.proofs.Common.{◌≤◌, length}
use Rattle.state.specs.Fits.{FitsNet}
use Rattle.exports.proofs.steps.Given as goal

abbrev pub invariant-loop : goal.invariant-loop
invariant-loop l = FitsNet l.state × (l.at ≤ length l.choices)
