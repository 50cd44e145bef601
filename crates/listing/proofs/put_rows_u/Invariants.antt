use Prim.Native.Nat.{◌+◌, ◌*◌, ◌≤◌}
use Rattle.writer.specs.Wrote.{Wrote}
use Rattle.listing.specs.Lines.{lines_u}
use Rattle.listing.proofs.put_rows_u.Given as goal

-- the U rows of the sites below s are written, at most 19 bytes each
abbrev pub invariant-loop-s : goal.invariant-loop-s
invariant-loop-s l = (l.next ≤ l.at + 19 * l.s) × Wrote l.initial.out l.out l.at (lines_u l.held l.used l.s) l.next
