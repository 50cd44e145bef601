use Rattle.matching.specs.Index.{IndexedTo}
use Rattle.matching.proofs.RowIndex.of.Given as goal

abbrev pub invariant-loop-i : goal.invariant-loop-i
invariant-loop-i l = IndexedTo l.rows l.i l.index.sets
