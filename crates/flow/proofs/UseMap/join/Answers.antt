use borrow.Author.Rules.{rules}
use lib.ListN.{get_or}
use Rattle.sets.specs.Bits.{join}
use Rattle.sets.proofs.FromFn.{from_fn_table}
use Rattle.flow.proofs.UseMap.join.Goals as goal

pub returns : goal.returns
unfolding join
returns c = from_fn_table _ _ (λ s. join (get_or c.args.self.rights s 0) (get_or c.args.other.rights s 0)) 32 0 (λ i y q l e. search rules) c.from_fn-rights.ensures.items
