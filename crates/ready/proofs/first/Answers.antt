use mathlib.Core.Path.{◌≡◌, sym, ap, subst, ◌∙◌}
use Rattle.threads.specs.declared.Thread.{Thread}
use Prim.Native.Nat.{ℕ, suc, ◌<◌, ◌+◌}
use native.Mathlib.Omega.{arith}
use Rattle.sets.specs.Lists.{keep, below}
use Rattle.klaim.specs.Analysis.{least}
use Rattle.klaim.specs.Engine.{runnable, ready}
use Rattle.state.specs.View.{state_view}
use Rattle.state.proofs.Few.{threads_count}
use Rattle.plan.specs.Move.{SoundAt, Plannable}
use Rattle.plan.proofs.Fitted.{plannable, thread_sound}
use Rattle.ready.proofs.Runnable.{lowest_start, lowest_here, lowest_later, lowest_end}
use Rattle.ready.proofs.Laws.{lent_runnable, lent_count, lent_thread}
use Rattle.ready.proofs.first.Goals as goal

pub loop-k-init : goal.loop-k-init
unfolding ready
loop-k-init c =
    let st = c.args.state.now in
    ap (λ (n : ℕ). least (keep (runnable (state_view st)) (below n))) (threads_count st) ∙ lowest_start (runnable (state_view st)) st.threads.count

pub can_step-requires : goal.can_step-requires
can_step-requires c =
    let k = c.loop-k.k in
    let h : k < c.args.state.now.threads.count = omega (arith, lent_count c.args.state.now.threads c.requires.1) in
    subst (λ (th : Thread). Plannable c.args.state.now th × SoundAt c.args.state.now th.site.0) (sym (lent_thread c.args.state.now.threads c.requires.1 k h)) (plannable c.requires.0 k h, thread_sound c.requires.0 k h)

pub returns-then-can_step : goal.returns-then-can_step
returns-then-can_step c =
    let st = c.args.state.now in
    let k = c.loop-k.k in
    let h : k < st.threads.count = omega (arith, lent_count c.args.state.now.threads c.requires.1) in
    sym (c.loop-k.invariant ∙ lowest_here (runnable (state_view st)) st.threads.count k h (lent_runnable c.requires.0 c.requires.1 k h c.can_step.ensures ∙ c.if-can_step.true))

pub loop-k-preserved : goal.loop-k-preserved
loop-k-preserved c =
    let st = c.args.state.now in
    let k = c.loop-k.k in
    let h : k < st.threads.count = omega (arith, lent_count c.args.state.now.threads c.requires.1) in
    let s : suc k ≡ k + 1 = omega arith in
    c.loop-k.invariant ∙ lowest_later (runnable (state_view st)) st.threads.count k h (lent_runnable c.requires.0 c.requires.1 k h c.can_step.ensures ∙ c.if-can_step.false) (k + 1) s

pub returns : goal.returns
returns c =
    let st = c.args.state.now in
    sym (c.loop-k.invariant ∙ lowest_end (runnable (state_view st)) st.threads.count c.loop-k.k (omega (arith, lent_count c.args.state.now.threads c.requires.1, c.loop-k.auto.k-end)))
