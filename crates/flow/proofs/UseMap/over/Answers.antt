use borrow.Author.Rules.{rules}
use Rattle.sets.specs.Bits.{mem, grant}
use Rattle.sets.proofs.FromFn.{from_fn_table}
use Rattle.flow.proofs.UseMap.over.Goals as goal

pub returns : goal.returns
returns c = from_fn_table _ _ (λ s. grant (mem s c.args.set) c.args.right) 32 0 (λ i y q l e. search rules) c.from_fn-rights.ensures.items
