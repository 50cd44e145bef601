use borrow.Author.Rules.{rules}
use Prim.Native.Nat.{◌+◌, ◌*◌}
use lib.ListN.{get_or}
use Rattle.sets.proofs.FromFn.{from_fn_table}
use Rattle.matching.proofs.Index.{rows_of}
use Rattle.matching.proofs.RowIndex.rows_with.Goals as goal

pub returns : goal.returns
returns c = rows_of c.args.self.now.sets c.args.column c.args.v (from_fn_table _ _ (λ w. get_or c.args.self.now.sets (128 * c.args.column + 4 * c.args.v + w) 0) 4 0 (λ i y q l e. search rules) c.from_fn.ensures.items)
