use mathlib.Core.Path.{refl, sym}
use mathlib.Core.Logic.{⊎_elim}
use Rattle.sets.specs.Lists.{all}
use Rattle.sets.proofs.Lists.{and_true}
use Rattle.klaim.specs.Process.{boxes_of}
use Rattle.lines.specs.Lines.{line_view}
use Rattle.judge.proofs.Lines.{no_box}
use Rattle.judge.proofs.low_box.Goals as goal

pub returns-in_default : goal.returns-in_default
unfolding all
returns-in_default c = rw (no_box c.args.line.now c.in_default.not-Eval c.in_default.not-Accept) refl

pub returns-in-Eval : goal.returns-in-Eval
unfolding all boxes_of line_view
returns-in-Eval c = ⊎_elim (λ e. rw e.3 (sym (and_true _))) (λ e. rw e.1 (sym (and_true _))) c.in-Eval.is
