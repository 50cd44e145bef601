use borrow.Author.Rules.{rules}
use mathlib.Core.Path.{◌≡◌, ap, ◌∙◌}
use native.Mathlib.Omega.{arith}
use lib.ListN.{length}
use lib.Seq.{take_all}
use Rattle.sets.specs.Lists.{sum}
use Rattle.sets.specs.Bits.{size}
use Rattle.klaim.specs.Listing.{reported}
use Rattle.counts.proofs.Size.{counted_most, counted_list}
use Rattle.counts.proofs.reported.Goals as goal

pub loop-rights-init : goal.loop-rights-init
unfolding sum
loop-rights-init c = search rules

pub overflow_add-count : goal.overflow_add-count
overflow_add-count c =
    let m = counted_most _ c.size_of-count.ensures in
    let all : length c.args.report.now ≡ 1024 = search rules in
    omega arith

pub loop-rights-preserved : goal.loop-rights-preserved
loop-rights-preserved c =
    let m = counted_most _ c.size_of-count.ensures in
    (omega arith, counted_list size c.args.report.now (omega arith) c.loop-rights.invariant.1 c.size_of-count.ensures)

pub returns : goal.returns
unfolding reported
returns c = c.loop-rights.invariant.1 ∙ ap (sum size) (take_all c.loop-rights.rights-index c.args.report.now (omega arith))
