use mathlib.Core.Path.{refl}
use Rattle.klaim.specs.Rows.{split, comma, given, ◌>>=◌}
use Rattle.lines.specs.Lines.{line_view}
use Rattle.lines.proofs.LineKinds.{sized_yes, sized_no}
use Rattle.lines.proofs.LineKinds.{rep_at}
use Rattle.lines.proofs.read_rep.Goals as goal

pub returns-then-count-ne4 : goal.returns-then-count-ne4
unfolding given ◌>>=◌ line_view
returns-then-count-ne4 c = rw (rep_at (split comma c.args.row.now.bytes.now), sized_no c.count.ensures c.if-count-ne4.true) refl

pub returns-in_err-number : goal.returns-in_err-number
unfolding given ◌>>=◌ line_view
returns-in_err-number c = rw (c.from_residual.ensures, rep_at (split comma c.args.row.now.bytes.now), sized_yes c.count.ensures c.if-count-ne4.false, ← c.in_err-number.ensures) refl

pub returns : goal.returns
unfolding given ◌>>=◌ line_view
returns c = rw (rep_at (split comma c.args.row.now.bytes.now), sized_yes c.count.ensures c.if-count-ne4.false, ← c.in_ok-number.ensures) refl
