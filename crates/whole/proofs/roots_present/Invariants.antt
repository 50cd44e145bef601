use mathlib.Core.Path.{◌≡◌}
use lib.Dec.{ltb}
use lib.ListN.{drop}
use Rattle.sets.specs.Lists.{all, table}
use Rattle.klaim.specs.Net.{Root}
use Rattle.tables.specs.View.{root_at}
use Rattle.whole.proofs.roots_present.Given as goal

abbrev pub invariant-loop-i : goal.invariant-loop-i
invariant-loop-i l = all (λ (x : Root). ltb x.line l.n) (table l.roots.count (root_at l.roots)) ≡ all (λ (x : Root). ltb x.line l.n) (drop l.i (table l.roots.count (root_at l.roots)))
