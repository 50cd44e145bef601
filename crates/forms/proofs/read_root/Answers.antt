use mathlib.Core.Path.{refl}
use Rattle.klaim.specs.Rows.{row_l, given, ◌>>=◌}
use Rattle.lines.proofs.LineKinds.{sized_yes, sized_no}
use Rattle.forms.specs.Forms.{root_data}
use Rattle.forms.proofs.read_root.Goals as goal

pub returns-then-count-ne3 : goal.returns-then-count-ne3
unfolding row_l root_data given ◌>>=◌
returns-then-count-ne3 c = rw (sized_no c.count.ensures c.if-count-ne3.true) refl

pub returns-in_err-site : goal.returns-in_err-site
unfolding row_l root_data given ◌>>=◌
returns-in_err-site c = rw (c.from_residual.ensures, sized_yes c.count.ensures c.if-count-ne3.false, ← c.in_err-site.ensures) refl

pub returns-in_err-number : goal.returns-in_err-number
unfolding row_l root_data given ◌>>=◌
returns-in_err-number c = rw (c.from_residual-in_err-number.ensures, sized_yes c.count.ensures c.if-count-ne3.false, ← c.in_ok-site.ensures, ← c.in_err-number.ensures) refl

pub returns : goal.returns
unfolding row_l root_data given ◌>>=◌
returns c = rw (sized_yes c.count.ensures c.if-count-ne3.false, ← c.in_ok-site.ensures, ← c.in_ok-number.ensures) refl
