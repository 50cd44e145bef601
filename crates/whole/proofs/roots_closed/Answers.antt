use mathlib.Core.Path.{◌≡◌, sym, ◌∙◌}
use Prim.Native.Nat.{suc, ◌+◌}
use native.Mathlib.Omega.{arith}
use Rattle.tables.specs.View.{root_at}
use Rattle.whole.proofs.Order.{closed_root, closed_all, root_form}
use Rattle.sets.proofs.Shared.{all_yes, all_no, all_end}
use Rattle.whole.proofs.roots_closed.Goals as goal

pub closed-requires : goal.closed-requires
unfolding root_at
closed-requires c = root_form c.requires c.loop-i.i (omega arith)

pub loop-i-preserved : goal.loop-i-preserved
unfolding root_at
loop-i-preserved c =
    let at = c.loop-i in
    let ar = c.args in
    let e : suc at.i ≡ at.i + 1 = omega arith in
    at.invariant ∙ all_yes (closed_root ar.lines.now) ar.roots.now.count (root_at ar.roots.now) at.i (at.i + 1) (omega arith) e (sym c.closed.ensures ∙ c.if-not-closed.false)

pub returns-then-not-closed : goal.returns-then-not-closed
unfolding root_at
returns-then-not-closed c =
    let at = c.loop-i in
    let ar = c.args in
    sym (closed_all ar.lines.now ar.roots.now ∙ at.invariant ∙ all_no (closed_root ar.lines.now) ar.roots.now.count (root_at ar.roots.now) at.i (omega arith) (sym c.closed.ensures ∙ c.if-not-closed.true))

pub returns : goal.returns
unfolding root_at
returns c =
    let at = c.loop-i in
    let ar = c.args in
    sym (closed_all ar.lines.now ar.roots.now ∙ at.invariant ∙ all_end (closed_root ar.lines.now) ar.roots.now.count (root_at ar.roots.now) at.i (omega arith))
