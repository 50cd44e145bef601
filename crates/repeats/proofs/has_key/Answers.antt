use mathlib.Core.Path.{refl, ap, ◌∙◌}
use mathlib.Core.Bool.{Bool}
use native.Mathlib.Omega.{arith}
use lib.Dec.{eqb}
use lib.ListN.{get_or}
use Rattle.sets.specs.Lists.{any, either}
use Rattle.repeats.proofs.Keys.{or_either, any_more}
use Rattle.repeats.proofs.has_key.Goals as goal

pub loop-key-init : goal.loop-key-init
unfolding any
loop-key-init c = refl

pub loop-key-preserved : goal.loop-key-preserved
loop-key-preserved c =
    let first = c.as_slice-key-items.result.now in
    let at = c.loop-key in
    or_either at.found (eqb (get_or first at.key-index 0) c.args.k)
    ∙ ap (λ (b : Bool). either b (eqb (get_or first at.key-index 0) c.args.k)) at.invariant
    ∙ any_more (λ x. eqb x c.args.k) first at.key-index (omega arith)
