use Rattle.tables.proofs.Entries.{Moving}
use Rattle.tables.proofs.table.Table.remove.Given as goal

abbrev pub invariant-loop-i : goal.invariant-loop-i
invariant-loop-i g l = Moving l.k l.fn.self.items l.self.items l.i
