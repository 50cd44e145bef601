use mathlib.Core.Path.{refl}
use Rattle.klaim.specs.Rows.{row_b, given, ◌>>=◌}
use Rattle.lines.proofs.LineKinds.{sized_yes, sized_no}
use Rattle.forms.specs.Forms.{bound_data}
use Rattle.forms.proofs.read_bound.Goals as goal

pub returns-then-count-ne3 : goal.returns-then-count-ne3
unfolding row_b bound_data given ◌>>=◌
returns-then-count-ne3 c = rw (sized_no c.count.ensures c.if-count-ne3.true) refl

pub returns-in_err-variable : goal.returns-in_err-variable
unfolding row_b bound_data given ◌>>=◌
returns-in_err-variable c = rw (c.from_residual.ensures, sized_yes c.count.ensures c.if-count-ne3.false, ← c.in_err-variable.ensures) refl

pub returns-in_err-site : goal.returns-in_err-site
unfolding row_b bound_data given ◌>>=◌
returns-in_err-site c = rw (c.from_residual-in_err-site.ensures, sized_yes c.count.ensures c.if-count-ne3.false, ← c.in_ok-variable.ensures, ← c.in_err-site.ensures) refl

pub returns : goal.returns
unfolding row_b bound_data given ◌>>=◌
returns c = rw (sized_yes c.count.ensures c.if-count-ne3.false, ← c.in_ok-variable.ensures, ← c.in_ok-site.ensures) refl
