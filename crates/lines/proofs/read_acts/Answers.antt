use mathlib.Core.Path.{refl}
use Rattle.klaim.specs.Rows.{given, ◌>>=◌}
use Rattle.lines.specs.Lines.{acts_of, acts_form}
use Rattle.lines.proofs.read_acts.Goals as goal

pub returns-in_err-number : goal.returns-in_err-number
unfolding given ◌>>=◌ acts_of acts_form
returns-in_err-number g c = λ kind. rw (c.from_residual.ensures, ← c.in_err-number.ensures) refl

pub returns-in_err-target_at : goal.returns-in_err-target_at
unfolding given ◌>>=◌ acts_of acts_form
returns-in_err-target_at g c = λ kind. rw (c.from_residual-in_err-target_at.ensures, ← c.in_ok-number.ensures, ← c.in_err-target_at.ensures) refl

pub returns-in_err-fields_at : goal.returns-in_err-fields_at
unfolding given ◌>>=◌ acts_of acts_form
returns-in_err-fields_at g c = λ kind. rw (c.from_residual-in_err-fields_at.ensures, ← c.in_ok-number.ensures, ← c.in_ok-target_at.ensures, ← c.in_err-fields_at.ensures) refl

pub returns : goal.returns
unfolding given ◌>>=◌ acts_of acts_form
returns g c = λ kind. rw (← c.in_ok-number.ensures, ← c.in_ok-target_at.ensures, ← c.in_ok-fields_at.ensures) refl
