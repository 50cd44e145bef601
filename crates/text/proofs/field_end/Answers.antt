use mathlib.Core.Path.{◌≡◌, refl, sym, subst, ◌∙◌}
use Prim.Native.Nat.{ℕ}
use native.Mathlib.Omega.{arith}
use Rattle.text.specs.Pieces.{Mark}
use Rattle.text.proofs.Slices.{looking_stop, looking_end, looking_more}
use Rattle.text.proofs.field_end.Goals as goal

pub loop-i-init : goal.loop-i-init
loop-i-init c = (omega arith, record { low = omega arith; row = refl; field = refl })

pub returns-then-ends : goal.returns-then-ends
returns-then-ends c = looking_stop c.loop-i.invariant.1 c.loop-i-test.true (sym c.ends.ensures ∙ c.if-ends.true)

pub loop-i-preserved : goal.loop-i-preserved
loop-i-preserved c = (omega arith, looking_more c.loop-i.invariant.1 c.loop-i-test.true (sym c.ends.ensures ∙ c.if-ends.false))

pub returns : goal.returns
returns c =
    let e : c.loop-i.i ≡ c.max.result = omega arith in
    subst (λ (i : ℕ). Mark c.args.s.now c.args.from i) e (looking_end c.loop-i.invariant.1 c.loop-i-test.false)
