use mathlib.Core.Path.{◌≡◌, refl}
use mathlib.Core.Option.{none}
use Rattle.klaim.specs.Rows.{split, comma, at, rights_field, row_pair, given, ◌>>=◌}
use Rattle.lines.proofs.LineKinds.{sized_yes, sized_no}
use Rattle.forms.specs.Forms.{pair_data}
use Rattle.forms.proofs.read_pair.Goals as goal

pub returns-then-count-ne4 : goal.returns-then-count-ne4
unfolding row_pair pair_data given ◌>>=◌
returns-then-count-ne4 c = λ g. rw (sized_no c.count.ensures c.if-count-ne4.true) refl

pub returns-in_err-from : goal.returns-in_err-from
unfolding row_pair pair_data given ◌>>=◌
returns-in_err-from c = λ g. rw (c.from_residual.ensures, sized_yes c.count.ensures c.if-count-ne4.false, ← c.in_err-from.ensures) refl

pub returns-in_err-to : goal.returns-in_err-to
unfolding row_pair pair_data given ◌>>=◌
returns-in_err-to c = λ g. rw (c.from_residual-in_err-to.ensures, sized_yes c.count.ensures c.if-count-ne4.false, ← c.in_ok-from.ensures, ← c.in_err-to.ensures) refl

pub returns-in_err-rights : goal.returns-in_err-rights
unfolding row_pair pair_data given ◌>>=◌
returns-in_err-rights c =
    let said : none ≡ rights_field (at (split comma c.args.row.now.bytes.now) 3) = c.in_err-rights.ensures.result_value in
    λ g. rw (c.from_residual-in_err-rights.ensures, sized_yes c.count.ensures c.if-count-ne4.false, ← c.in_ok-from.ensures, ← c.in_ok-to.ensures, ← said) refl

pub returns : goal.returns
unfolding row_pair pair_data given ◌>>=◌
returns c = λ g. rw (sized_yes c.count.ensures c.if-count-ne4.false, ← c.in_ok-from.ensures, ← c.in_ok-to.ensures, ← c.in_ok-rights.ensures.result_value) refl
