use mathlib.Core.Path.{◌≡◌}
use lib.Dec.{eqb}
use lib.ListN.{drop, get_or}
use Rattle.sets.specs.Lists.{all, table}
use Rattle.whole.proofs.all_one.Given as goal

abbrev pub invariant-loop-q : goal.invariant-loop-q
invariant-loop-q l = all (λ q. eqb (get_or l.counts q 0) 1) (table l.n (λ j. j)) ≡ all (λ q. eqb (get_or l.counts q 0) 1) (drop l.q (table l.n (λ j. j)))
