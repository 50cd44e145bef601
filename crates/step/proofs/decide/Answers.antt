use mathlib.Core.Path.{sym, ◌∙◌}
use Rattle.std.proofs.lemmas.Result.{err_from_is_err_and}
use Rattle.plan.proofs.Fitted.{plannable, thread_sound}
use Rattle.state.specs.View.{state_view}
use Rattle.step.proofs.Laws.{step_none, step_stops, step_lacks, step_full, step_allowed}
use Rattle.step.proofs.decide.Goals as goal

pub returns-then-state-k : goal.returns-then-state-k
returns-then-state-k c = step_none c.args.guarded c.requires c.args.k c.args.m c.args.r c.if-state-k.true

pub plan-requires : goal.plan-requires
plan-requires c = plannable c.requires c.args.k c.if-state-k.false

pub returns-in_err-v : goal.returns-in_err-v
returns-in_err-v c =
    let p = err_from_is_err_and c.from_residual.result c.from_residual.ensures.1 in
    rw (p.1, p.2) (step_stops c.args.guarded c.requires c.args.k c.args.m c.args.r c.if-state-k.false c.in_err-v.was (c.plan.ensures.value (thread_sound c.requires c.args.k c.if-state-k.false)))

pub may-requires : goal.may-requires
may-requires c = ((plannable c.requires c.args.k c.if-state-k.false).placed, c.in_ok-v.ensures.possible.uses)

pub returns-then-not-may : goal.returns-then-not-may
unfolding state_view
returns-then-not-may c = step_lacks c.args.guarded c.requires c.args.k c.args.m c.args.r c.if-state-k.false c.in_ok-v.v (c.in_ok-v.ensures.value (thread_sound c.requires c.args.k c.if-state-k.false) c.args.k) (sym c.may.ensures ∙ c.if-not-may.true)

pub returns-then-not-has_room : goal.returns-then-not-has_room
unfolding state_view
returns-then-not-has_room c = step_full c.args.guarded c.requires c.args.k c.args.m c.args.r c.if-state-k.false c.in_ok-v.v (c.in_ok-v.ensures.value (thread_sound c.requires c.args.k c.if-state-k.false) c.args.k) (sym c.may.ensures ∙ c.if-not-may.false) (sym (c.has_room.ensures c.args.k c.args.m c.if-state-k.false c.in_ok-v.ensures.possible.change) ∙ c.if-not-has_room.true)

pub returns : goal.returns
unfolding state_view
returns c = step_allowed c.args.guarded c.requires c.args.k c.args.m c.args.r c.if-state-k.false c.in_ok-v.v (c.in_ok-v.ensures.value (thread_sound c.requires c.args.k c.if-state-k.false) c.args.k) (sym c.may.ensures ∙ c.if-not-may.false) (sym (c.has_room.ensures c.args.k c.args.m c.if-state-k.false c.in_ok-v.ensures.possible.change) ∙ c.if-not-has_room.false) c.in_ok-v.ensures.possible.change
