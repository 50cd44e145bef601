use mathlib.Core.Path.{ap, ◌∙◌}
use Rattle.nets.specs.Defaults.{cleared}
use Rattle.nets.proofs.fill_unsaid.Goals as goal

pub returns : goal.returns
returns c = c.clear_unsaid.ensures ∙ ap cleared c.put_own.ensures
