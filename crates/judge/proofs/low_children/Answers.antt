use mathlib.Core.Path.{refl, sym}
use mathlib.Core.Logic.{⊎_elim}
use Rattle.sets.specs.Lists.{all}
use Rattle.sets.proofs.Lists.{and_true}
use Rattle.klaim.specs.Process.{children}
use Rattle.lines.specs.Lines.{line_view, acts_of}
use borrow.Author.Tests.{lt-ltb, le-ltb}
use Rattle.judge.proofs.Tests.{both_yes, both_no}
use Rattle.judge.proofs.low_children.Goals as goal

pub returns-in-Nil : goal.returns-in-Nil
unfolding all children line_view
returns-in-Nil c = rw c.in-Nil.is refl

pub returns-then-next-lt-LINES : goal.returns-then-next-lt-LINES
unfolding all children line_view
returns-then-next-lt-LINES c = rw c.in-Par.is (both_yes (lt-ltb _ _ c.if-next-lt-LINES.true) refl (sym (and_true _)))

pub returns-else-next-lt-LINES : goal.returns-else-next-lt-LINES
unfolding all children line_view
returns-else-next-lt-LINES c = rw c.in-Par.is (both_no _ (le-ltb _ _ c.if-next-lt-LINES.false) refl)

pub returns-then-next-lt-LINES-2 : goal.returns-then-next-lt-LINES-2
unfolding all children line_view
returns-then-next-lt-LINES-2 c = rw c.in-Eval.is (both_yes (lt-ltb _ _ c.if-next-lt-LINES-2.true) refl (sym (and_true _)))

pub returns-else-next-lt-LINES-2 : goal.returns-else-next-lt-LINES-2
unfolding all children line_view
returns-else-next-lt-LINES-2 c = rw c.in-Eval.is (both_no _ (le-ltb _ _ c.if-next-lt-LINES-2.false) refl)

pub returns-in-Rep : goal.returns-in-Rep
unfolding all children line_view
returns-in-Rep c = ⊎_elim (λ e. rw e (sym (and_true _))) (λ e. rw e.1 (sym (and_true _))) c.in-Rep.is

pub returns-in-Out : goal.returns-in-Out
unfolding all children line_view acts_of
returns-in-Out c = rw c.in-Out.is (sym (and_true _))

pub returns-in-In : goal.returns-in-In
unfolding all children line_view acts_of
returns-in-In c = ⊎_elim (λ e. rw e (sym (and_true _))) (λ e. rw e (sym (and_true _))) c.in-In.is
