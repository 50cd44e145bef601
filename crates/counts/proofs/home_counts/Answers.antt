use borrow.Author.Rules.{rules}
use Rattle.sets.proofs.FromFn.{from_fn_table}
use Rattle.klaim.specs.Listing.{home_count}
use Rattle.tables.specs.View.{net_view}
use Rattle.counts.proofs.home_counts.Goals as goal

pub returns : goal.returns
returns c = from_fn_table _ _ (home_count (net_view c.args.net.now)) 32 0 (λ i y q l e. search rules) c.from_fn.ensures.items
