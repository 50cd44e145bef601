use mathlib.Core.Path.{sym, ap, ap₂, ◌∙◌}
use mathlib.Core.List.{List}
use Rattle.sets.specs.Lists.{concat}
use Rattle.sets.specs.Bits.{join, less, meet}
use Rattle.klaim.specs.declared.Slot.{Slot}
use Rattle.klaim.specs.Process.{used_in, bound_in}
use Rattle.whole.specs.Free.{mask_of}
use Rattle.whole.proofs.Free.{with_target}
use Rattle.whole.proofs.get_vars.Goals as goal

pub returns : goal.returns
unfolding join less meet
returns c =
    let used = c.in_fields-own.ensures.used ∙ ap (λ (ss : List Slot). mask_of (concat used_in ss)) c.as_slice.ensures.value in
    let bound = c.in_fields-own.ensures.bound ∙ ap (λ (ss : List Slot). mask_of (concat bound_in ss)) c.as_slice.ensures.value in
    ap₂ join (ap₂ join c.variable.ensures used ∙ sym (with_target c.args.target _)) (ap (less c.args.rest) bound)
