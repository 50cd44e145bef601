-- Laws of the list of threads.
-- Assumes nothing.
use mathlib.Core.Path.{◌≡◌, sym, ap, ◌∙◌}
use mathlib.Core.Bool.{Bool, true, false}
use mathlib.Core.List.{List, [], ◌∷◌, ◌++◌}
use mathlib.Core.Option.{none, some}
use Prim.Native.Nat.{ℕ, ◌+◌, ◌<◌, ◌≤◌}
use native.Mathlib.Omega.{arith}
use lib.ListN.{length, get_or, get_elem?, set}
use Rattle.sets.specs.Lists.{splice}
use Rattle.sets.proofs.Tables.{get_or_table, length_table}
use Rattle.klaim.specs.Process.{Line, line_at}
use Rattle.klaim.specs.State as Spec
use Rattle.threads.specs.declared.Thread.{Thread}
use Rattle.tables.specs.Entries.{Removed}
use Rattle.tables.proofs.Entries.{pushed, replaced, removed}
use Rattle.threads.specs.View.{Threads, no_thread, thread_view, thread_at, threads_of}
use Rattle.sets.proofs.Splice.{get_some, get_none}

-- the list of threads: how many, and the one at place k
pub threads_long : (ts : Threads) → length (threads_of ts) ≡ ts.count
unfolding threads_of
threads_long ts = length_table ts.count (thread_at ts)

pub thread_some : (ts : Threads) (k : ℕ) → k < ts.count → get_elem? (threads_of ts) k ≡ some (thread_view (get_or ts.items k no_thread))
unfolding threads_of thread_at
thread_some ts k h =
    get_some (thread_view no_thread) (threads_of ts) k (omega (arith, h, threads_long ts))
    ∙ ap (λ (t : Spec.Thread). some t) (get_or_table ts.count (thread_at ts) k (thread_view no_thread) h)

pub thread_none : (ts : Threads) (k : ℕ) → ts.count ≤ k → get_elem? (threads_of ts) k ≡ none
thread_none ts k h = get_none (threads_of ts) k (omega (arith, threads_long ts))

-- the list with a thread more, with another, and without one
module _ (old new : Threads) where
  pub thread_pushed : (th : Thread) → old.count < 64 → new.items ≡ set old.items old.count th → new.count ≡ old.count + 1 →
      threads_of new ≡ threads_of old ++ (thread_view th ∷ [])
  unfolding threads_of thread_at
  thread_pushed th = pushed thread_view no_thread old new th

  pub thread_replaced : (k : ℕ) (th : Thread) → k < old.count → new.items ≡ set old.items k th → new.count ≡ old.count →
      threads_of new ≡ splice k (thread_view th ∷ []) (threads_of old)
  unfolding threads_of thread_at
  thread_replaced k th = replaced thread_view no_thread old new k th

  pub thread_removed : (k : ℕ) → k < old.count → Removed k old new → threads_of new ≡ splice k [] (threads_of old)
  unfolding threads_of thread_at
  thread_removed k = removed thread_view no_thread old new k

-- a thread on a line is taken out or kept
module _ (ls : List Line) (th : Spec.Thread) where
  pub settle_nil : {b : Bool} → b ≡ Spec.is_nil (line_at ls th.line) → b ≡ true → Spec.settle ls th ≡ []
  unfolding Spec.settle
  settle_nil e t = rw (sym e ∙ t)

  pub settle_one : {b : Bool} → b ≡ Spec.is_nil (line_at ls th.line) → b ≡ false → Spec.settle ls th ≡ th ∷ []
  unfolding Spec.settle
  settle_one e t = rw (sym e ∙ t)
