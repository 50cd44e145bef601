use borrow.Author.Rules.{rules}
use lib.Dec.{eqb}
use lib.ListN.{get_or}
use Rattle.sets.proofs.Ranges.{all_below}
use Rattle.report.proofs.is_empty.Goals as goal

pub returns : goal.returns
returns c = all_below (λ t. eqb (get_or c.args.m.rights t 0) 0) 32 _ _ _ c.all.ensures.ran (λ x b q k. search rules)
