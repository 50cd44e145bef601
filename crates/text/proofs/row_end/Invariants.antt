-- The invariant: no newline was passed.
-- Assumes nothing.
use Rattle.std.proofs.Common.{◌≡◌, ◌≤◌, max, length}
use Rattle.klaim.specs.Rows.{newline}
use Rattle.text.specs.Pieces.{end_of}
use Rattle.text.proofs.row_end.Given as goal

abbrev pub invariant-loop-i : goal.invariant-loop-i
invariant-loop-i l = (l.i ≤ max l.from (length l.s)) × (end_of newline l.s l.from ≡ end_of newline l.s l.i)
