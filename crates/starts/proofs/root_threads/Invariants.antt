use mathlib.Core.Path.{◌≡◌}
use Prim.Native.Nat.{◌≤◌}
use Rattle.sets.specs.Lists.{concat, table}
use Rattle.klaim.specs.State.{settle, root_thread}
use Rattle.tables.specs.View.{net_view, lines_of, root_at}
use Rattle.threads.specs.View.{threads_of}
use Rattle.starts.proofs.root_threads.Given as goal

abbrev pub invariant-loop-i : goal.invariant-loop-i
invariant-loop-i l =
    (threads_of l.threads ≡ concat (λ x. settle (lines_of l.net.lines) (root_thread (net_view l.net) x)) (table l.i (root_at l.net.roots)))
    × (l.threads.count ≤ l.i)
