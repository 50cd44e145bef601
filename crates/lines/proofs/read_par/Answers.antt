use mathlib.Core.Path.{refl}
use Rattle.klaim.specs.Rows.{split, comma, given, ◌>>=◌}
use Rattle.lines.specs.Lines.{line_view}
use Rattle.lines.proofs.LineKinds.{sized_yes, sized_no}
use Rattle.lines.proofs.LineKinds.{par_at}
use Rattle.lines.proofs.read_par.Goals as goal

pub returns-then-count-ne5 : goal.returns-then-count-ne5
unfolding given ◌>>=◌ line_view
returns-then-count-ne5 c = rw (par_at (split comma c.args.row.now.bytes.now), sized_no c.count.ensures c.if-count-ne5.true) refl

pub returns-in_err-number : goal.returns-in_err-number
unfolding given ◌>>=◌ line_view
returns-in_err-number c = rw (c.from_residual.ensures, par_at (split comma c.args.row.now.bytes.now), sized_yes c.count.ensures c.if-count-ne5.false, ← c.in_err-number.ensures) refl

pub returns-in_err-number-2 : goal.returns-in_err-number-2
unfolding given ◌>>=◌ line_view
returns-in_err-number-2 c = rw (c.from_residual-in_err-number-2.ensures, par_at (split comma c.args.row.now.bytes.now), sized_yes c.count.ensures c.if-count-ne5.false, ← c.in_ok-number.ensures, ← c.in_err-number-2.ensures) refl

pub returns : goal.returns
unfolding given ◌>>=◌ line_view
returns c = rw (par_at (split comma c.args.row.now.bytes.now), sized_yes c.count.ensures c.if-count-ne5.false, ← c.in_ok-number.ensures, ← c.in_ok-number-2.ensures) refl
