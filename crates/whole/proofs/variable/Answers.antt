use mathlib.Core.Logic.{inl, inr}
use mathlib.Core.Path.{◌∙◌}
use Rattle.whole.proofs.Free.{at_used, here_used, use_used}
use Rattle.whole.proofs.variable.Goals as goal

pub returns-in-At : goal.returns-in-At
returns-in-At c =
    elim c.in-At.is [
      | inl e ↦ rw e.1 (at_used e.0)
      | inr e ↦ rw e here_used
    ]

pub returns-in-Use : goal.returns-in-Use
returns-in-Use c = c.single.ensures ∙ rw c.in-Use.is (use_used c.in-Use.u)
