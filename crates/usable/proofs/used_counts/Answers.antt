use borrow.Author.Rules.{rules}
use Rattle.sets.proofs.FromFn.{from_fn_table}
use Rattle.klaim.specs.Listing.{used_count}
use Rattle.tables.specs.View.{world_of}
use Rattle.usable.proofs.used_counts.Goals as goal

pub returns : goal.returns
returns c = from_fn_table _ _ (used_count (world_of c.args.net.now c.args.estimate.now)) 32 0 (λ i y q l e. search rules) c.from_fn.ensures.items
