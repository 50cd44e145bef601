use mathlib.Core.Path.{ap}
use native.Mathlib.Omega.{arith}
use lib.ListN.{length}
use Rattle.std.specs.Prelude.{Option}
use Rattle.state.specs.View.{state_view}
use Rattle.threads.specs.declared.Thread.{Thread}
use Rattle.plan.specs.Move.{added_after}
use Rattle.step.proofs.threads_behind.Goals as goal

pub returns-in-Some : goal.returns-in-Some
unfolding state_view
returns-in-Some c =
    let e = ap (λ (o : Option Thread). length (added_after (state_view c.args.state.now).lines o)) c.in-Some.is in
    omega (arith, c.entering.ensures.1, c.entering-in-Some.ensures.1, e)

pub returns-in-None : goal.returns-in-None
unfolding state_view
returns-in-None c =
    let e = ap (λ (o : Option Thread). length (added_after (state_view c.args.state.now).lines o)) c.in-None.is in
    omega (arith, c.entering.ensures.1, e)
