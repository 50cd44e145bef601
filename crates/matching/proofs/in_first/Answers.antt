use borrow.Author.Rules.{rules}
use mathlib.Core.Bool.{not}
use lib.ListN.{get_or}
use Rattle.sets.specs.Lists.{◌&◌}
use Rattle.sets.specs.Bits.{less, meet}
use Rattle.sets.proofs.Bits.{has_rest}
use Rattle.sets.proofs.FromFn.{from_fn_table}
use Rattle.matching.proofs.Index.{rows_by}
use Rattle.matching.proofs.in_first.Goals as goal

pub returns : goal.returns
unfolding less meet
returns c = rows_by less (λ x y. x & not y) has_rest c.args.x.words c.args.y.words (from_fn_table _ _ (λ w. less (get_or c.args.x.words w 0) (get_or c.args.y.words w 0)) 4 0 (λ i y q l e. search rules) c.from_fn.ensures.items)
