use borrow.Author.Rules.{rules}
use lib.ListN.{get_or}
use Rattle.sets.specs.Bits.{within}
use Rattle.sets.proofs.Ranges.{all_below}
use Rattle.klaim.specs.Net.{box_at}
use Rattle.tables.specs.View.{net_view}
use Rattle.door.proofs.uses_within.Goals as goal

pub returns : goal.returns
returns c = all_below (λ t. within (get_or c.args.m.rights t 0) (box_at (net_view c.args.net.now) c.args.d c.args.l t)) 32 _ _ _ c.all.ensures.ran (λ x b q k. search rules)
