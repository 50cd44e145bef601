-- The invariant: no comma and no newline was passed.
-- Assumes nothing.
use Rattle.std.proofs.Common.{◌≤◌, max, length}
use Rattle.text.proofs.Slices.{Looking}
use Rattle.text.proofs.field_end.Given as goal

abbrev pub invariant-loop-i : goal.invariant-loop-i
invariant-loop-i l = (l.i ≤ max l.from (length l.s)) × Looking l.s l.from l.i
