use borrow.Author.Rules.{rules}
use lib.Bits.{bit_and}
use lib.ListN.{get_or}
use Rattle.sets.specs.Lists.{◌&◌}
use Rattle.sets.specs.Bits.{meet}
use Rattle.sets.proofs.Bits.{has_and}
use Rattle.sets.proofs.FromFn.{from_fn_table}
use Rattle.matching.proofs.Index.{rows_by}
use Rattle.matching.proofs.in_both.Goals as goal

pub returns : goal.returns
unfolding meet
returns c = rows_by bit_and ◌&◌ has_and c.args.x.words c.args.y.words (from_fn_table _ _ (λ w. bit_and (get_or c.args.x.words w 0) (get_or c.args.y.words w 0)) 4 0 (λ i y q l e. search rules) c.from_fn.ensures.items)
