-- The place lies within the choices.
-- Assumes nothing.
use Rattle.std.proofs.Common.{◌≤◌, length}
use Rattle.state.specs.Fits.{Fits}
use Rattle.exports.proofs.door_times.Given as goal

abbrev pub invariant-loop : goal.invariant-loop
invariant-loop l = Fits l.state × (l.at ≤ length l.choices)
