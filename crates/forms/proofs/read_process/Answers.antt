use mathlib.Core.Path.{refl}
use Rattle.klaim.specs.Rows.{row_q, given, ◌>>=◌}
use Rattle.forms.specs.Forms.{process_data}
use Rattle.forms.proofs.read_process.Goals as goal

pub returns-in_err-number : goal.returns-in_err-number
unfolding row_q process_data given ◌>>=◌
returns-in_err-number c = rw (c.from_residual.ensures, ← c.in_err-number.ensures) refl

pub returns-in_err-line_at : goal.returns-in_err-line_at
unfolding row_q process_data given ◌>>=◌
returns-in_err-line_at c = rw (c.from_residual-in_err-line_at.ensures, ← c.in_ok-number.ensures, ← c.in_err-line_at.ensures) refl

pub returns : goal.returns
unfolding row_q process_data given ◌>>=◌
returns c = rw (← c.in_ok-number.ensures, ← c.in_ok-line_at.ensures) refl
