use mathlib.Core.Path.{ap, ◌∙◌}
use Prim.Native.Nat.{◌+◌, ◌*◌}
use Rattle.repeats.specs.Kept.{tuple_key}
use Rattle.repeats.proofs.key.Goals as goal

pub returns : goal.returns
unfolding tuple_key
returns c = c.key_step.ensures ∙ ap (λ k. c.tuple-tuple.result.site + 32 * k) c.fields_key.ensures.key ∙ ap tuple_key c.tuple-tuple.ensures
