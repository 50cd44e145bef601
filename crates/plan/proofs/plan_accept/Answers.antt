use mathlib.Core.Path.{sym, ap, subst, ◌∙◌}
use mathlib.Core.Bool.{true}
use Prim.Native.Nat.{ℕ}
use Rattle.std.specs.Prelude.{Option}
use Rattle.klaim.specs.Process.{tree}
use Rattle.klaim.specs.Report.{door}
use Rattle.klaim.specs.Engine.{accept_plan}
use Rattle.threads.specs.View.{thread_view}
use Rattle.state.specs.View.{state_view}
use Rattle.plan.specs.Move.{Placed}
use Rattle.plan.proofs.Laws.{placed_none, accept_unknown, accept_shut, accept_open}
use Rattle.plan.proofs.plan_accept.Goals as goal

pub returns-in_default-clause-value : goal.returns-in_default-clause-value
unfolding state_view
returns-in_default-clause-value c = λ s k m. accept_unknown (state_view c.args.state.now) k m c.args.r (thread_view c.args.th) c.args.a c.args.d (placed_none c.args.state.now.arrivals c.args.r c.arrival_at.ensures c.in_default.not-Some)

pub returns-then-not-admitted-clause-value : goal.returns-then-not-admitted-clause-value
unfolding state_view
returns-then-not-admitted-clause-value c =
    let at = c.args.state.now.arrivals in
    let p = subst (λ (o : Option ℕ). Placed at c.args.r o) c.in-Some.is c.arrival_at.ensures in
    let st = state_view c.args.state.now in
    λ s k m. accept_shut st k m c.args.r (thread_view c.args.th) c.args.a c.args.d p.2 (ap (λ (x : ℕ). door st.net st.estimate c.args.d c.args.th.site.0 (tree st.lines x)) (sym p.1) ∙ sym (c.admitted.ensures s) ∙ c.if-not-admitted.true)

pub returns-clause-value : goal.returns-clause-value
unfolding state_view
returns-clause-value c =
    let at = c.args.state.now.arrivals in
    let p = subst (λ (o : Option ℕ). Placed at c.args.r o) c.in-Some.is c.arrival_at.ensures in
    let st = state_view c.args.state.now in
    λ s k m. c.plan_guest.ensures.value k m
    ∙ ap (λ (x : ℕ). accept_plan st k (thread_view c.args.th) x c.args.a c.args.d true true) p.1
    ∙ accept_open st k m c.args.r (thread_view c.args.th) c.args.a c.args.d p.2 (ap (λ (x : ℕ). door st.net st.estimate c.args.d c.args.th.site.0 (tree st.lines x)) (sym p.1) ∙ sym (c.admitted.ensures s) ∙ c.if-not-admitted.false)
