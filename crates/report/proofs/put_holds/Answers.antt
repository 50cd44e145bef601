use mathlib.Core.Path.{◌≡◌, ◌∙◌}
use native.Mathlib.Omega.{arith}
use borrow.Author.Rules.{rules}
use lib.ListN.{length}
use Rattle.sets.proofs.Tables.{filled_none, filled_more, filled_all}
use Rattle.tables.specs.View.{net_view, estimate_view}
use Rattle.report.proofs.Laws.{hold_at}
use Rattle.report.proofs.put_holds.Goals as goal

pub loop-i-init : goal.loop-i-init
loop-i-init c = filled_none 0 _ _

pub loop-i-preserved : goal.loop-i-preserved
loop-i-preserved c =
    let at = c.loop-i in
    let long : length c.args.bytes.now ≡ 1024 = search rules in
    filled_more at.invariant (omega (arith, long)) (c.less.ensures ∙ hold_at (net_view c.args.net.now) (estimate_view c.args.estimate.now) at.i)

pub returns : goal.returns
returns c =
    let long : length c.args.bytes.now ≡ 1024 = search rules in
    let e : c.loop-i.i ≡ 1024 = omega arith in
    filled_all (rw e at c.loop-i.invariant) long
