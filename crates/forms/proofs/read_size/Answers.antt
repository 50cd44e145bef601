use mathlib.Core.Path.{refl}
use Rattle.klaim.specs.Rows.{row_n, given, ◌>>=◌}
use Rattle.lines.proofs.LineKinds.{sized_yes, sized_no}
use Rattle.forms.specs.Forms.{size_data}
use Rattle.text.proofs.Fields.{viewed}
use Rattle.forms.proofs.read_size.Goals as goal

pub returns-then-count-ne2 : goal.returns-then-count-ne2
unfolding row_n size_data given ◌>>=◌
returns-then-count-ne2 c = rw (sized_no c.count.ensures c.if-count-ne2.true) refl

pub returns : goal.returns
unfolding row_n size_data given
returns c = rw (sized_yes c.count.ensures c.if-count-ne2.false, viewed size_data c.number.result, c.number.ensures) refl
