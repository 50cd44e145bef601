use mathlib.Core.Path.{sym, ap, ◌∙◌}
use mathlib.Core.Bool.{Bool}
use Prim.Native.Nat.{ℕ, ◌<◌, ◌≤◌}
use native.Mathlib.Omega.{arith}
use borrow.Author.Tests.{le-leb, lt-leb}
use lib.Dec.{leb}
use lib.ListN.{length}
use Rattle.sets.specs.Lists.{◌&◌}
use Rattle.klaim.specs.Engine.{after}
use Rattle.tuples.proofs.Rows.{rows_long}
use Rattle.state.specs.View.{state_view}
use Rattle.plan.specs.Move.{state_after}
use Rattle.step.proofs.Laws.{threads_long}
use Rattle.step.proofs.has_room.Goals as goal

pub returns-then-threads_behind-le-THREADS : goal.returns-then-threads_behind-le-THREADS
unfolding ◌&◌ state_view after
returns-then-threads_behind-le-THREADS c = λ k m h q.
    let st = c.args.state.now in
    let few : length (state_after (state_view st) k m c.args.v.now).threads ≤ 64 = omega (arith, threads_long st k m c.args.v.now h, c.threads_behind.ensures, c.if-threads_behind-le-THREADS.true) in
    ap (λ (n : ℕ). leb n 256) (c.tuples_behind.ensures m _ (rows_long st.tuples) q)
    ∙ sym (ap (λ (b : Bool). b & leb (length (state_after (state_view st) k m c.args.v.now).tuples) 256) (le-leb _ 64 few))

pub returns : goal.returns
unfolding ◌&◌
returns c = λ k m h q.
    let st = c.args.state.now in
    let many : 64 < length (state_after (state_view st) k m c.args.v.now).threads = omega (arith, threads_long st k m c.args.v.now h, c.threads_behind.ensures, c.if-threads_behind-le-THREADS.false) in
    sym (ap (λ (b : Bool). b & leb (length (state_after (state_view st) k m c.args.v.now).tuples) 256) (lt-leb _ 64 many))
