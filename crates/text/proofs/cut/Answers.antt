use mathlib.Core.Path.{sym, ap, refl, ◌∙◌}
use native.Mathlib.Omega.{arith}
use Prim.Native.Nat.{◌-◌}
use lib.ListN.{take, drop, replicate}
use Rattle.text.proofs.Slices.{comma_in, slicing_first, slicing_next, slicing_end, slicing_done, slicing_long, mark_in, mark_next}
use Rattle.text.proofs.cut.Goals as goal

pub overflow_add-end : goal.overflow_add-end
overflow_add-end c = omega (arith, mark_in c.requires c.field_end-end.ensures)

pub loop-end-init : goal.loop-end-init
loop-end-init c = slicing_first c.requires (replicate 10 0) c.field_end-end.result refl refl c.field_end-end.ensures c.keep.ensures

pub overflow_add-end-in-loop-end-2 : goal.overflow_add-end-in-loop-end-2
overflow_add-end-in-loop-end-2 c =
    let l = comma_in _ _ (sym c.goes_on.ensures ∙ c.loop-end-test.true) in
    omega (arith, mark_next l.0 c.field_end-end-in-loop-end.ensures)

pub loop-end-smaller : goal.loop-end-smaller
loop-end-smaller c =
    let l = comma_in _ _ (sym c.goes_on.ensures ∙ c.loop-end-test.true) in
    let M = c.field_end-end-in-loop-end.ensures in
    omega (arith, l.0, mark_next l.0 M)

pub loop-end-preserved : goal.loop-end-preserved
loop-end-preserved c = slicing_next c.requires c.field_end-end-in-loop-end.result c.loop-end.invariant (sym c.goes_on.ensures ∙ c.loop-end-test.true) c.field_end-end-in-loop-end.ensures c.keep-in-loop-end.ensures

pub returns : goal.returns
returns c =
    let e = slicing_end c.requires c.loop-end.invariant (sym c.goes_on.ensures ∙ c.loop-end-test.false) in
    record {
      bytes = ap (λ x. take (x - c.args.at) (drop c.args.at c.args.s.now)) e;
      end = slicing_long c.requires c.loop-end.invariant ∙ e;
    }

pub invariant_of-result : goal.invariant_of-result
invariant_of-result c =
    let e = slicing_end c.requires c.loop-end.invariant (sym c.goes_on.ensures ∙ c.loop-end-test.false) in
    record { is_cut = slicing_done c.requires c.loop-end.invariant e }
