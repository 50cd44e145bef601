use borrow.Author.Rules.{rules}
use Rattle.sets.specs.Bits.{sites, joins}
use Rattle.sets.proofs.FromFn.{from_fn_table}
use Rattle.klaim.specs.Net.{box_at}
use Rattle.tables.specs.View.{net_view}
use Rattle.flow.proofs.UseMap.of_box.Goals as goal

pub returns : goal.returns
returns c = from_fn_table _ _ (λ s. joins (λ l. box_at (net_view c.args.net.now) c.args.k l s) (sites c.args.places)) 32 0 (λ i y q l e. search rules) c.from_fn-rights.ensures.items
