use mathlib.Core.Path.{◌≡◌}
use Prim.Native.Nat.{◌%◌, ◌^◌}
use Rattle.tables.specs.View.{tuple_view}
use Rattle.matching.specs.Index.{Entered}
use Rattle.matching.proofs.RowIndex.enter.Given as goal

abbrev pub invariant-loop-c : goal.invariant-loop-c
invariant-loop-c l = (l.bit ≡ 2 ^ (l.i % 64)) × Entered (tuple_view l.row) l.i l.c l.fn.self.sets l.self.sets
