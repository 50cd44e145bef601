use mathlib.Core.Path.{◌∙◌}
use Rattle.repeats.proofs.Repeats.{tuple_seen}
use Rattle.repeats.proofs.tuple_seen.Goals as goal

pub returns : goal.returns
returns c = λ g above P K e. c.has_key.ensures ∙ tuple_seen c.args.tuple.now c.requires g P _ c.key.ensures _ K e.is
