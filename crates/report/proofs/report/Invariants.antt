use mathlib.Core.Path.{◌≡◌}
use Prim.Native.Nat.{◌/◌, ◌%◌}
use Rattle.sets.specs.Lists.{table}
use Rattle.tables.specs.View.{root_at, net_view, estimate_view}
use Rattle.report.proofs.Whole.{so_far}
use Rattle.report.proofs.report.Given as goal

abbrev pub invariant-loop-root : goal.invariant-loop-root
invariant-loop-root l = l.bytes ≡ table 1024 (λ k. so_far (net_view l.net) (estimate_view l.estimate) (table l.root-index (root_at l.net.roots)) (k / 32) (k % 32))
