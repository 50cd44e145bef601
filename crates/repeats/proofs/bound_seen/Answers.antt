use mathlib.Core.Path.{◌∙◌}
use Rattle.repeats.proofs.Repeats.{bound_seen}
use Rattle.repeats.proofs.bound_seen.Goals as goal

pub returns : goal.returns
returns c = λ above K e. rw c.from.ensures at c.has_site.ensures ∙ bound_seen c.args.bound.now c.requires.variable_low c.requires.site_low _ K e
