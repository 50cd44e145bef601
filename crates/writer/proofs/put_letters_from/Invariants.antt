use Prim.Native.Nat.{◌+◌, ◌≤◌}
use lib.ListN.{length, take}
use Rattle.klaim.specs.Listing.{letters}
use Rattle.writer.specs.Wrote.{Wrote}
use Rattle.writer.proofs.put_letters_from.Given as goal

-- the first i letters are written
abbrev pub invariant-loop-i : goal.invariant-loop-i
invariant-loop-i l = (l.i ≤ length (letters l.rights)) × Wrote l.initial.out l.out l.at (take l.i (letters l.rights)) (l.at + l.i)
