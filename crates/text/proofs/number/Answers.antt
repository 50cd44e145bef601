use mathlib.Core.Path.{sym, ◌∙◌}
use native.Mathlib.Omega.{arith}
use Rattle.text.proofs.Fields.{number_shape, digits_more, digits_stop, number_some, number_none, shape_short}
use Rattle.text.proofs.number.Goals as goal

pub returns-then-not-shaped : goal.returns-then-not-shaped
returns-then-not-shaped c = sym (number_shape _ (sym c.if-not-shaped.ensures))

pub overflow_mul-n : goal.overflow_mul-n
overflow_mul-n c = omega (arith, (shape_short _ (sym c.if-not-shaped.ensures)).1)

pub returns-in_err-n : goal.returns-in_err-n
returns-in_err-n c =
    let e = number_none c.args.f.now (sym c.if-not-shaped.ensures) (c.loop-b.invariant.digits ∙ digits_stop c.args.f.now c.loop-b.b-index c.loop-b-test.true c.in_err-n.ensures.value) in
    rw c.from_residual.ensures e

pub overflow_add-n : goal.overflow_add-n
overflow_add-n c = omega (arith, c.in_ok-n.ensures.low, (shape_short _ (sym c.if-not-shaped.ensures)).1)

pub loop-b-preserved : goal.loop-b-preserved
loop-b-preserved c =
    let e = digits_more c.args.f.now c.loop-b.b-index c.loop-b-test.true c.in_ok-n.ensures.value c.loop-b.n in
    record {
      digits = c.loop-b.invariant.digits ∙ e.0;
      value = c.loop-b.invariant.value ∙ e.1;
      none_low = omega arith;
      one_low = omega (arith, c.in_ok-n.ensures.low);
      two_low = omega (arith, c.in_ok-n.ensures.low);
    }

pub returns : goal.returns
returns c = number_some c.args.f.now (sym c.if-not-shaped.ensures) c.loop-b.b-index c.loop-b-test.false c.loop-b.invariant.digits c.loop-b.invariant.value
