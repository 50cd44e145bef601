use mathlib.Core.Path.{sym, ap, ◌∙◌}
use Prim.Native.Nat.{ℕ}
use Rattle.state.specs.View.{arrival_root, state_view}
use Rattle.state.proofs.Few.{threads_count}
use Rattle.ready.specs.Runs.{room, welcome}
use Rattle.plan.proofs.Laws.{fits_sound, not_sound}
use Rattle.ready.proofs.welcomes.Goals as goal

pub returns-then-has_room : goal.returns-then-has_room
unfolding welcome
returns-then-has_room c =
    let st = state_view c.args.state.now in
    let r = arrival_root c.args.state.now.arrivals c.args.i in
    c.admitted.ensures c.requires.1 ∙ fits_sound _ _ (ap (λ (n : ℕ). room n st.lines c.args.a r) (threads_count c.args.state.now) ∙ sym c.has_room.ensures ∙ c.if-has_room.true)

pub returns : goal.returns
unfolding welcome
returns c =
    let st = state_view c.args.state.now in
    let r = arrival_root c.args.state.now.arrivals c.args.i in
    not_sound _ _ (ap (λ (n : ℕ). room n st.lines c.args.a r) (threads_count c.args.state.now) ∙ sym c.has_room.ensures ∙ c.if-has_room.false)
