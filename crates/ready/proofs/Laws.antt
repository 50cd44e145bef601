-- Laws of the tests for a step as the code makes them.
-- Assumes nothing.
use mathlib.Core.Path.{◌≡◌, sym, ap, ◌∙◌}
use mathlib.Core.Bool.{Bool, true, false}
use mathlib.Core.List.{List}
use Prim.Native.Nat.{ℕ, ◌<◌, ◌≤◌}
use lib.ListN.{length, get_or}
use borrow.Author.Tests.{le-ltb}
use Rattle.sets.specs.Lists.{among}
use Rattle.sets.proofs.Lists.{lt-ltb}
use Rattle.klaim.specs.Process.{line_at, tree}
use Rattle.klaim.specs.Report.{door}
use Rattle.klaim.specs.Reader.{refused, gives}
use Rattle.klaim.specs.State as Spec
use Rattle.klaim.specs.Engine.{door_alone, runnable}
use Rattle.tables.specs.Entries.{entries}
use Rattle.tables.specs.View.{action_line, ActionAt}
use Rattle.tables.specs.declared.Action.{Action}
use Rattle.threads.specs.declared.Thread.{Thread}
use Rattle.threads.specs.View.{Threads, no_thread, thread_view}
use Rattle.state.specs.declared.State.{State}
use Rattle.state.specs.View.{state_view}
use Rattle.state.specs.Fits.{Fits}
use Rattle.plan.specs.Move.{Plannable}
use Rattle.plan.proofs.Entries.{entries_long, entry_at}
use Rattle.plan.proofs.Fitted.{thread_here, line_here}
use Rattle.ready.specs.Runs.{runs}
use Rattle.ready.proofs.Runnable.{runnable_is}

-- the test for the line that a thread stands on, from that for its action
pub runs_at : {st : State} {th : Thread} → Plannable st th → {r : Action} → ActionAt st.lines th.line r → {x : Action} → r ≡ x → {b : Bool} → b ≡ runs (state_view st) (thread_view th) (action_line x) → b ≡ runs (state_view st) (thread_view th) (line_at (state_view st).lines th.line)
runs_at {st} {th} p d e h = h ∙ sym (ap (runs (state_view st) (thread_view th)) (line_here p d e))

-- thread k can make a bare step where the test says so
pub runnable_at : {st : State} (f : Fits st) (k : ℕ) → k < st.threads.count → {b : Bool} → b ≡ runs (state_view st) (thread_view (get_or st.threads.items k no_thread)) (line_at (state_view st).lines (get_or st.threads.items k no_thread).line) → runnable (state_view st) k ≡ b
runnable_at {st} f k h e = runnable_is (state_view st) f.invariant k (thread_view (get_or st.threads.items k no_thread)) (thread_here f k h) ∙ sym e

-- the threads that are lent
module _ (ts : Threads) {lent : List Thread} (e : lent ≡ entries ts) where
  pub lent_count : length lent ≡ ts.count
  lent_count = ap (λ (xs : List Thread). length xs) e ∙ entries_long ts

  pub lent_thread : (k : ℕ) → k < ts.count → get_or lent k no_thread ≡ get_or ts.items k no_thread
  lent_thread k h = ap (λ (xs : List Thread). get_or xs k no_thread) e ∙ entry_at ts k no_thread h

-- a lent thread can make a bare step where the test says so
pub lent_runnable : {st : State} {lent : List Thread} (f : Fits st) → lent ≡ entries st.threads → (k : ℕ) → k < st.threads.count → {b : Bool} →
    b ≡ runs (state_view st) (thread_view (get_or lent k no_thread)) (line_at (state_view st).lines (get_or lent k no_thread).line) →
    runnable (state_view st) k ≡ b
lent_runnable {st} f e k h q =
    runnable_at f k h (q ∙ ap (λ (th : Thread). runs (state_view st) (thread_view th) (line_at (state_view st).lines th.line)) (lent_thread st.threads e k h))

-- the door called by itself, test by test
module _ (st : Spec.State) (r l d : ℕ) where
  pub door_unknown : among st.arrivals r ≡ false → refused 24 0 ≡ door_alone st r l d
  unfolding door_alone
  door_unknown t = rw t

  pub door_far : among st.arrivals r ≡ true → st.net.size ≤ l → refused 4 0 ≡ door_alone st r l d
  unfolding door_alone
  door_far t h = rw (t, le-ltb l st.net.size h)

  pub door_other : among st.arrivals r ≡ true → l < st.net.size → 32 ≤ d → refused 2 0 ≡ door_alone st r l d
  unfolding door_alone
  door_other t h k = rw (t, lt-ltb l st.net.size h, le-ltb d 32 k)

  pub door_gives : among st.arrivals r ≡ true → l < st.net.size → d < 32 → {p : Bool} → p ≡ door st.net st.estimate d l (tree st.lines r) → gives p ≡ door_alone st r l d
  unfolding door_alone
  door_gives t h k q = rw (t, lt-ltb l st.net.size h, lt-ltb d 32 k, q)
