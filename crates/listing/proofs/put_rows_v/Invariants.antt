use Prim.Native.Nat.{◌+◌, ◌*◌, ◌≤◌}
use Rattle.writer.specs.Wrote.{Wrote}
use Rattle.listing.proofs.Lines.{rows_to}
use Rattle.listing.proofs.put_rows_v.Given as goal

-- the V rows of the first i bytes are written, at most 16 bytes each
abbrev pub invariant-loop-i : goal.invariant-loop-i
invariant-loop-i l = (l.next ≤ l.at + 16 * l.i) × Wrote l.initial.out l.out l.at (rows_to l.report l.i) l.next
