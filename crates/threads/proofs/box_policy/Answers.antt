use borrow.Author.Rules.{rules}
use Rattle.sets.proofs.FromFn.{from_fn_table}
use Rattle.klaim.specs.Net.{box_at}
use Rattle.klaim.specs.State.{box_policy}
use Rattle.tables.specs.View.{net_view}
use Rattle.threads.proofs.box_policy.Goals as goal

pub returns : goal.returns
unfolding box_policy
returns c = from_fn_table _ _ (box_at (net_view c.args.net.now) c.args.k c.args.l) 32 0 (λ i y q l e. search rules) c.from_fn.ensures.items
