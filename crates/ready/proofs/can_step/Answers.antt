use mathlib.Core.Logic.{inl, inr}
use mathlib.Core.Path.{◌≡◌, refl, sym, ap, ◌∙◌}
use Prim.Native.Nat.{ℕ}
use lib.Dec.{ltb}
use lib.ListN.{length}
use Rattle.tables.specs.View.{action_line}
use Rattle.tuples.proofs.Rows.{rows_long}
use Rattle.state.specs.View.{state_view}
use Rattle.state.proofs.Few.{threads_count}
use Rattle.ready.specs.Runs.{room, runs}
use Rattle.ready.proofs.Laws.{runs_at}
use Rattle.ready.proofs.can_step.Goals as goal

pub returns-in-Nil : goal.returns-in-Nil
unfolding runs action_line
returns-in-Nil c = runs_at c.requires.0 c.action.ensures c.in-Nil.is refl

pub returns-in-Par : goal.returns-in-Par
unfolding runs action_line
returns-in-Par c =
    let st = state_view c.args.state.now in
    let e : c.has_room-in-Par.result ≡ room (length st.threads) st.lines c.in-Par.next c.in-Par.more = c.has_room-in-Par.ensures ∙ ap (λ (n : ℕ). room n st.lines c.in-Par.next c.in-Par.more) (sym (threads_count c.args.state.now)) in
    elim c.in-Par.is [
      | inl i ↦ runs_at c.requires.0 c.action.ensures i e
      | inr i ↦ runs_at c.requires.0 c.action.ensures i.2 e
    ]

pub returns-in-Rep : goal.returns-in-Rep
unfolding runs action_line
returns-in-Rep c =
    let st = state_view c.args.state.now in
    runs_at c.requires.0 c.action.ensures c.in-Rep.is (c.has_room.ensures ∙ ap (λ (n : ℕ). room n st.lines c.args.th.now.line c.in-Rep.next) (sym (threads_count c.args.state.now)))

pub returns-in-Out : goal.returns-in-Out
unfolding runs action_line state_view
returns-in-Out c = runs_at c.requires.0 c.action.ensures c.in-Out.is (ap (λ (k : ℕ). ltb k 256) (sym (rows_long c.args.state.now.tuples)))

pub returns-in-In : goal.returns-in-In
unfolding runs action_line
returns-in-In c = elim c.in-In.is [
  | inl e ↦ runs_at c.requires.0 c.action.ensures e.1 c.some_agrees.ensures
  | inr e ↦ runs_at c.requires.0 c.action.ensures e.1 c.some_agrees.ensures
]

pub returns-in-Accept : goal.returns-in-Accept
unfolding runs action_line
returns-in-Accept c = runs_at c.requires.0 c.action.ensures c.in-Accept.is c.some_guest.ensures
