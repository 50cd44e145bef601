use mathlib.Core.Path.{◌≡◌, sym, ◌∙◌}
use Prim.Native.Nat.{suc, ◌+◌}
use native.Mathlib.Omega.{arith}
use lib.Dec.{eqb}
use lib.ListN.{get_or}
use borrow.Author.Tests.{eq-eqb, ne_eqb}
use Rattle.sets.specs.Lists.{below}
use Rattle.sets.proofs.Shared.{all_yes, all_no, all_end}
use Rattle.whole.proofs.all_one.Goals as goal

pub loop-q-preserved : goal.loop-q-preserved
loop-q-preserved c =
    let at = c.loop-q in
    let ar = c.args in
    let e : suc at.q ≡ at.q + 1 = omega arith in
    at.invariant ∙ all_yes (λ q. eqb (get_or ar.counts.now q 0) 1) ar.n (λ j. j) at.q (at.q + 1) (omega arith) e (eq-eqb _ 1 c.if-counts-q-ne1.false)

pub returns-then-counts-q-ne1 : goal.returns-then-counts-q-ne1
unfolding below
returns-then-counts-q-ne1 c =
    let at = c.loop-q in
    let ar = c.args in
    sym (at.invariant ∙ all_no (λ q. eqb (get_or ar.counts.now q 0) 1) ar.n (λ j. j) at.q (omega arith) (ne_eqb _ 1 c.if-counts-q-ne1.true))

pub returns : goal.returns
unfolding below
returns c =
    let at = c.loop-q in
    let ar = c.args in
    sym (at.invariant ∙ all_end (λ q. eqb (get_or ar.counts.now q 0) 1) ar.n (λ j. j) at.q (omega arith))
