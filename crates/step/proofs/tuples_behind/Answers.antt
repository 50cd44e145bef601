use mathlib.Core.Path.{sym, ap, subst, ◌∙◌}
use lib.ListN.{length}
use Rattle.plan.specs.declared.Change.{Change}
use Rattle.plan.specs.Move.{IsChange, tuples_after}
use Rattle.step.proofs.Laws.{taken_less}
use Rattle.step.proofs.tuples_behind.Goals as goal

pub returns-in-Taken : goal.returns-in-Taken
returns-in-Taken c = λ m ts l h. taken_less m ts l (subst (λ (x : Change). IsChange m c.args.n x) c.in-Taken.is h) ∙ ap (λ (x : Change). length (tuples_after ts m x)) (sym c.in-Taken.is)
