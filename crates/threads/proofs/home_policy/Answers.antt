use borrow.Author.Rules.{rules}
use Rattle.sets.proofs.FromFn.{from_fn_table}
use Rattle.klaim.specs.Net.{home}
use Rattle.klaim.specs.State.{home_policy}
use Rattle.tables.specs.View.{net_view}
use Rattle.threads.proofs.home_policy.Goals as goal

pub returns : goal.returns
unfolding home_policy
returns c = from_fn_table _ _ (home (net_view c.args.net.now) c.args.s) 32 0 (λ i y q l e. search rules) c.from_fn.ensures.items
