use Rattle.klaim.specs.Rows.{row_line}
use Rattle.forms.specs.Forms.{row_data, process_data}
use Rattle.binders.proofs.Binders.{clash_other}
use Rattle.binders.proofs.clashes.Goals as goal

pub returns-in-Q : goal.returns-in-Q
unfolding row_data process_data row_line
returns-in-Q c = rw c.in-Q.is c.line_clashes.ensures

pub returns-in_default : goal.returns-in_default
returns-in_default c = clash_other _ c.in_default.not-Q
