use mathlib.Core.Path.{◌≡◌, refl}
use mathlib.Core.Option.{none}
use Rattle.klaim.specs.Rows.{split, comma, at, box_rights_field, row_d, given, ◌>>=◌}
use Rattle.lines.proofs.LineKinds.{sized_yes, sized_no}
use Rattle.forms.specs.Forms.{box_data}
use Rattle.forms.proofs.read_sandbox.Goals as goal

pub returns-then-count-ne4 : goal.returns-then-count-ne4
unfolding row_d box_data given ◌>>=◌
returns-then-count-ne4 c = rw (sized_no c.count.ensures c.if-count-ne4.true) refl

pub returns-in_err-number : goal.returns-in_err-number
unfolding row_d box_data given ◌>>=◌
returns-in_err-number c = rw (c.from_residual.ensures, sized_yes c.count.ensures c.if-count-ne4.false, ← c.in_err-number.ensures) refl

pub returns-in_err-toward : goal.returns-in_err-toward
unfolding row_d box_data given ◌>>=◌
returns-in_err-toward c = rw (c.from_residual-in_err-toward.ensures, sized_yes c.count.ensures c.if-count-ne4.false, ← c.in_ok-number.ensures, ← c.in_err-toward.ensures) refl

pub returns-in_err-rights : goal.returns-in_err-rights
unfolding row_d box_data given ◌>>=◌
returns-in_err-rights c =
    let said : none ≡ box_rights_field (at (split comma c.args.row.now.bytes.now) 3) = c.in_err-rights.ensures.result_value in
    rw (c.from_residual-in_err-rights.ensures, sized_yes c.count.ensures c.if-count-ne4.false, ← c.in_ok-number.ensures, ← c.in_ok-toward.ensures, ← said) refl

pub returns : goal.returns
unfolding row_d box_data given ◌>>=◌
returns c = rw (sized_yes c.count.ensures c.if-count-ne4.false, ← c.in_ok-number.ensures, ← c.in_ok-toward.ensures, ← c.in_ok-rights.ensures.result_value) refl
