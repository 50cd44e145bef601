use mathlib.Core.Path.{◌≡◌}
use lib.ListN.{drop}
use Rattle.sets.specs.Lists.{all, table}
use Rattle.tables.specs.View.{root_at}
use Rattle.whole.proofs.Order.{closed_root}
use Rattle.whole.proofs.roots_closed.Given as goal

abbrev pub invariant-loop-i : goal.invariant-loop-i
invariant-loop-i l = all (closed_root l.lines) (table l.roots.count (root_at l.roots)) ≡ all (closed_root l.lines) (drop l.i (table l.roots.count (root_at l.roots)))
