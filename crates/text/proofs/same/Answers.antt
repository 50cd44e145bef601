use mathlib.Core.Path.{◌∙◌}
use Rattle.text.proofs.Fields.{same_is}
use Rattle.text.proofs.same.Goals as goal

pub returns : goal.returns
returns c = c.eq.ensures ∙ same_is _ _
