use borrow.Author.Rules.{rules}
use lib.ListN.{get_or}
use Rattle.sets.specs.Bits.{less}
use Rattle.sets.proofs.FromFn.{from_fn_table}
use Rattle.klaim.specs.Net.{home}
use Rattle.tables.specs.View.{net_view}
use Rattle.report.proofs.less_home.Goals as goal

pub returns : goal.returns
returns c = from_fn_table _ _ (λ t. less (get_or c.args.m.rights t 0) (home (net_view c.args.net.now) c.args.site t)) 32 0 (λ i y q l e. search rules) c.from_fn-rights.ensures.items
