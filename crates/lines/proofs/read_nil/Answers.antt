use mathlib.Core.Path.{refl}
use Rattle.klaim.specs.Rows.{split, comma, given, ◌>>=◌}
use Rattle.lines.specs.Lines.{line_view}
use Rattle.lines.proofs.LineKinds.{sized_yes, sized_no}
use Rattle.lines.proofs.LineKinds.{nil_at}
use Rattle.lines.proofs.read_nil.Goals as goal

pub returns-then-count-ne3 : goal.returns-then-count-ne3
unfolding given ◌>>=◌ line_view
returns-then-count-ne3 c = rw (nil_at (split comma c.args.row.now.bytes.now), sized_no c.count.ensures c.if-count-ne3.true) refl

pub returns : goal.returns
unfolding given ◌>>=◌ line_view
returns c = rw (nil_at (split comma c.args.row.now.bytes.now), sized_yes c.count.ensures c.if-count-ne3.false) refl
