use borrow.Author.Rules.{rules}
use lib.ListN.{get_or}
use Rattle.sets.specs.Bits.{join}
use Rattle.sets.proofs.FromFn.{from_fn_table}
use Rattle.klaim.specs.Net.{holds}
use Rattle.tables.specs.View.{estimate_view}
use Rattle.usable.proofs.with_holds.Goals as goal

pub returns : goal.returns
unfolding join
returns c = from_fn_table _ _ (λ t. join (get_or c.args.m.rights t 0) (holds (estimate_view c.args.estimate.now) c.args.s t)) 32 0 (λ i y q l e. search rules) c.from_fn.ensures.items
