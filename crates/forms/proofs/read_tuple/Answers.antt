use mathlib.Core.Path.{refl}
use Rattle.klaim.specs.Rows.{row_tuple, given, ◌>>=◌}
use Rattle.forms.specs.Forms.{tuple_data, sites_of}
use Rattle.forms.proofs.read_tuple.Goals as goal

pub returns-in_err-site : goal.returns-in_err-site
unfolding row_tuple tuple_data sites_of given ◌>>=◌
returns-in_err-site c = λ g. rw (c.from_residual.ensures, ← c.in_err-site.ensures) refl

pub returns-in_err-fields_at : goal.returns-in_err-fields_at
unfolding row_tuple tuple_data sites_of given ◌>>=◌
returns-in_err-fields_at c = λ g. rw (c.from_residual-in_err-fields_at.ensures, ← c.in_ok-site.ensures, ← c.in_err-fields_at.ensures) refl

pub returns : goal.returns
unfolding row_tuple tuple_data sites_of given ◌>>=◌
returns c = λ g. rw (← c.in_ok-site.ensures, ← c.in_ok-fields_at.ensures) refl
