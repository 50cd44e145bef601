use Rattle.klaim.specs.Rows.{var_field}
use Rattle.text.proofs.variable.Goals as goal

pub returns : goal.returns
unfolding var_field
returns c = cc
