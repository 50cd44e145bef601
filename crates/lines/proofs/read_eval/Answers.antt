use mathlib.Core.Path.{refl}
use Rattle.klaim.specs.Rows.{split, comma, given, ◌>>=◌}
use Rattle.lines.specs.Lines.{line_view}
use Rattle.lines.proofs.LineKinds.{sized_yes, sized_no}
use Rattle.lines.proofs.LineKinds.{eval_at}
use Rattle.lines.proofs.read_eval.Goals as goal

pub returns-then-count-ne7 : goal.returns-then-count-ne7
unfolding given ◌>>=◌ line_view
returns-then-count-ne7 c = rw (eval_at (split comma c.args.row.now.bytes.now), sized_no c.count.ensures c.if-count-ne7.true) refl

pub returns-in_err-number : goal.returns-in_err-number
unfolding given ◌>>=◌ line_view
returns-in_err-number c = rw (c.from_residual.ensures, eval_at (split comma c.args.row.now.bytes.now), sized_yes c.count.ensures c.if-count-ne7.false, ← c.in_err-number.ensures) refl

pub returns-in_err-target_at : goal.returns-in_err-target_at
unfolding given ◌>>=◌ line_view
returns-in_err-target_at c = rw (c.from_residual-in_err-target_at.ensures, eval_at (split comma c.args.row.now.bytes.now), sized_yes c.count.ensures c.if-count-ne7.false, ← c.in_ok-number.ensures, ← c.in_err-target_at.ensures) refl

pub returns-in_err-number-2 : goal.returns-in_err-number-2
unfolding given ◌>>=◌ line_view
returns-in_err-number-2 c = rw (c.from_residual-in_err-number-2.ensures, eval_at (split comma c.args.row.now.bytes.now), sized_yes c.count.ensures c.if-count-ne7.false, ← c.in_ok-number.ensures, ← c.in_ok-target_at.ensures, ← c.in_err-number-2.ensures) refl

pub returns-in_err-number-3 : goal.returns-in_err-number-3
unfolding given ◌>>=◌ line_view
returns-in_err-number-3 c = rw (c.from_residual-in_err-number-3.ensures, eval_at (split comma c.args.row.now.bytes.now), sized_yes c.count.ensures c.if-count-ne7.false, ← c.in_ok-number.ensures, ← c.in_ok-target_at.ensures, ← c.in_ok-number-2.ensures, ← c.in_err-number-3.ensures) refl

pub returns : goal.returns
unfolding given ◌>>=◌ line_view
returns c = rw (eval_at (split comma c.args.row.now.bytes.now), sized_yes c.count.ensures c.if-count-ne7.false, ← c.in_ok-number.ensures, ← c.in_ok-target_at.ensures, ← c.in_ok-number-2.ensures, ← c.in_ok-number-3.ensures) refl
