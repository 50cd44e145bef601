use mathlib.Core.Path.{◌≡◌}
use lib.ListN.{drop}
use Rattle.sets.specs.Lists.{all, table}
use Rattle.whole.proofs.Order.{fits}
use Rattle.whole.proofs.in_order.Given as goal

abbrev pub invariant-loop-q : goal.invariant-loop-q
invariant-loop-q l = all (fits l.lines) (table l.lines.count (λ j. j)) ≡ all (fits l.lines) (drop l.q (table l.lines.count (λ j. j)))
