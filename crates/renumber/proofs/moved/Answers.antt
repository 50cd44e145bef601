use mathlib.Core.Path.{◌≡◌, refl, subst}
use mathlib.Core.Bool.{true}
use Rattle.sets.specs.Lists.{first, later}
use Rattle.klaim.specs.Process.{children, move}
use Rattle.tables.specs.declared.Action.{Action}
use Rattle.tables.specs.Low.{low_action}
use Rattle.tables.specs.View.{action_line}
use Rattle.renumber.proofs.Renumber.{within}
use Rattle.renumber.proofs.moved.Goals as goal
use Rattle.renumber.proofs.moved.Goals.{in-Nil, in-Par, in-Eval, in-Rep, in-Out, in-In, in-Read, in-Accept}

pub shifted-requires : goal.shifted-requires
unfolding children action_line
shifted-requires c = within c.args.n c.in-Par.is c.requires _ (first refl)

pub shifted-requires-in-Par : goal.shifted-requires-in-Par
unfolding children action_line
shifted-requires-in-Par c = within c.args.n c.in-Par.is c.requires _ (later (first refl))

pub shifted-requires-in-Eval : goal.shifted-requires-in-Eval
unfolding children action_line
shifted-requires-in-Eval c = within c.args.n c.in-Eval.is c.requires _ (first refl)

pub shifted-requires-in-Eval-2 : goal.shifted-requires-in-Eval-2
unfolding children action_line
shifted-requires-in-Eval-2 c = within c.args.n c.in-Eval.is c.requires _ (later (first refl))

pub shifted-requires-in-Rep : goal.shifted-requires-in-Rep
unfolding children action_line
shifted-requires-in-Rep c = within c.args.n c.in-Rep.is c.requires _ (first refl)

pub shifted-requires-in-Out : goal.shifted-requires-in-Out
unfolding children action_line
shifted-requires-in-Out c = within c.args.n c.in-Out.is c.requires _ (first refl)

pub shifted-requires-in-In : goal.shifted-requires-in-In
unfolding children action_line
shifted-requires-in-In c = within c.args.n c.in-In.is c.requires _ (first refl)

pub shifted-requires-in-Read : goal.shifted-requires-in-Read
unfolding children action_line
shifted-requires-in-Read c = within c.args.n c.in-Read.is c.requires _ (first refl)

pub shifted-requires-in-Accept : goal.shifted-requires-in-Accept
unfolding children action_line
shifted-requires-in-Accept c = within c.args.n c.in-Accept.is c.requires _ (first refl)

pub invariant_of-result : goal.invariant_of-result
invariant_of-result c =
    elim c.match-action.branch [
      | in-Nil w ↦ record { low = rw w.action-is c.args.line.low }
      | in-Par w ↦ record { low = rw w.action-is refl }
      | in-Eval w ↦ record { low = rw w.action-is (subst (λ (x : Action). low_action x ≡ true) w.in-Eval.is c.args.line.low) }
      | in-Rep w ↦ record { low = rw w.action-is refl }
      | in-Out w ↦ record { low = rw w.action-is (subst (λ (x : Action). low_action x ≡ true) w.in-Out.is c.args.line.low) }
      | in-In w ↦ record { low = rw w.action-is (subst (λ (x : Action). low_action x ≡ true) w.in-In.is c.args.line.low) }
      | in-Read w ↦ record { low = rw w.action-is (subst (λ (x : Action). low_action x ≡ true) w.in-Read.is c.args.line.low) }
      | in-Accept w ↦ record { low = rw w.action-is (subst (λ (x : Action). low_action x ≡ true) w.in-Accept.is c.args.line.low) }
    ]

pub returns : goal.returns
unfolding move action_line
returns c =
    elim c.match-action.branch [
      | in-Nil w ↦ rw (w.action-is, w.in-Nil.is) refl
      | in-Par w ↦ rw (w.action-is, w.in-Par.is, w.shifted.ensures, w.shifted-in-Par.ensures) refl
      | in-Eval w ↦ rw (w.action-is, w.in-Eval.is, w.shifted-in-Eval.ensures, w.shifted-in-Eval-2.ensures) refl
      | in-Rep w ↦ rw (w.action-is, w.in-Rep.is, w.shifted-in-Rep.ensures) refl
      | in-Out w ↦ rw (w.action-is, w.in-Out.is, w.shifted-in-Out.ensures) refl
      | in-In w ↦ rw (w.action-is, w.in-In.is, w.shifted-in-In.ensures) refl
      | in-Read w ↦ rw (w.action-is, w.in-Read.is, w.shifted-in-Read.ensures) refl
      | in-Accept w ↦ rw (w.action-is, w.in-Accept.is, w.shifted-in-Accept.ensures) refl
    ]
