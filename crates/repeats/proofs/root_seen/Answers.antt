use mathlib.Core.Path.{◌∙◌}
use Rattle.repeats.proofs.Repeats.{root_seen}
use Rattle.repeats.proofs.root_seen.Goals as goal

pub returns : goal.returns
returns c = λ above K e. c.has_root.ensures ∙ root_seen c.args.root.now c.requires.site_low c.requires.line_low _ K e
