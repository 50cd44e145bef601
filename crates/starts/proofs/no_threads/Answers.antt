use mathlib.Core.Path.{ap}
use Prim.Native.Nat.{ℕ}
use Rattle.sets.specs.Lists.{table, table_from}
use Rattle.threads.specs.View.{thread_at, threads_of}
use Rattle.starts.proofs.no_threads.Goals as goal

pub returns-clause-list : goal.returns-clause-list
unfolding threads_of table table_from
returns-clause-list c = ap (λ (n : ℕ). table n (thread_at c.empty.result)) c.empty.ensures.count
