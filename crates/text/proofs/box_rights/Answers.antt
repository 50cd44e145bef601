use mathlib.Core.Path.{refl}
use Rattle.klaim.specs.Rows.{text, box_rights_field, given, otherwise}
use Rattle.text.proofs.box_rights.Goals as goal

pub returns-then-same-clause-result_value : goal.returns-then-same-clause-result_value
unfolding text box_rights_field given otherwise
returns-then-same-clause-result_value c = rw (← c.if-same.ensures) refl

pub returns-clause-result_value : goal.returns-clause-result_value
unfolding text box_rights_field given otherwise
returns-clause-result_value c = rw (← c.if-same.ensures) c.rights.ensures.result_value
