use mathlib.Core.Path.{◌≡◌, sym, ap, ◌∙◌}
use Prim.Native.Nat.{suc, ◌+◌}
use native.Mathlib.Omega.{arith}
use lib.Dec.{ltb}
use Rattle.sets.specs.Lists.{◌&◌, all}
use Rattle.whole.proofs.Order.{fits, order_all}
use Rattle.sets.proofs.Shared.{all_yes, all_no, all_end}
use Rattle.whole.proofs.in_order.Goals as goal

pub loop-q-preserved : goal.loop-q-preserved
loop-q-preserved c =
    let at = c.loop-q in
    let ar = c.args in
    let e : suc at.q ≡ at.q + 1 = omega arith in
    at.invariant ∙ all_yes (fits ar.lines.now) ar.lines.now.count (λ j. j) at.q (at.q + 1) (omega arith) e (sym (c.children_fit.ensures ∙ ap (all (λ k. ltb at.q k & ltb k ar.lines.now.count)) c.children_at.ensures) ∙ c.if-not-children_fit.false)

pub returns-then-not-children_fit : goal.returns-then-not-children_fit
returns-then-not-children_fit c =
    let at = c.loop-q in
    let ar = c.args in
    sym (order_all ar.lines.now ∙ at.invariant ∙ all_no (fits ar.lines.now) ar.lines.now.count (λ j. j) at.q (omega arith) (sym (c.children_fit.ensures ∙ ap (all (λ k. ltb at.q k & ltb k ar.lines.now.count)) c.children_at.ensures) ∙ c.if-not-children_fit.true))

pub returns : goal.returns
returns c =
    let at = c.loop-q in
    let ar = c.args in
    sym (order_all ar.lines.now ∙ at.invariant ∙ all_end (fits ar.lines.now) ar.lines.now.count (λ j. j) at.q (omega arith))
