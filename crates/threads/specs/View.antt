-- What a thread, and a list of threads, stand for.
-- Assumes nothing.
use Rattle.std.specs.Prelude.{Option, List, [], map, ℕ, get_or}
use Rattle.sets.specs.Lists.{table}
use Rattle.sets.specs.Options.{option_of}
use Rattle.klaim.specs.State as Spec
use Rattle.klaim.specs.declared.Site.{Site}
use Rattle.tables.specs.declared.table.Table.{Table}
use Rattle.threads.specs.declared.Thread.{Thread}

abbrev pub Threads : Type 0
Threads = Table Thread 64

-- what stands where a list of threads ends
abbrev pub no_thread : Thread
no_thread = record { site = record { 0 = 0 }; policy = []; line = 0; bindings = [] }

-- "a site or none for each of 32 variables"
abbrev pub bindings_view : List (Option Site) → Spec.Bindings
bindings_view bs = map (option_of (λ s. s.0)) bs

abbrev pub thread_view : Thread → Spec.Thread
thread_view th = record { site = th.site.0; policy = th.policy; line = th.line; bindings = bindings_view th.bindings }

-- thread k, and the threads that stand in their table
unfoldable pub thread_at : Threads → ℕ → Spec.Thread
thread_at ts k = thread_view (get_or ts.items k no_thread)

unfoldable pub threads_of : Threads → List Spec.Thread
threads_of ts = table ts.count (thread_at ts)

-- the thread with other bindings
abbrev pub rebound : Spec.Thread → Spec.Bindings → Spec.Thread
rebound th e = record { site = th.site; policy = th.policy; line = th.line; bindings = e }
