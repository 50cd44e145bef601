use mathlib.Core.Path.{◌≡◌}
use lib.ListN.{get_or}
use Rattle.sets.specs.Lists.{all, below}
use Rattle.sets.specs.Bits.{within}
use Rattle.klaim.specs.Net.{holds}
use Rattle.tables.specs.View.{estimate_view}
use Rattle.rules.proofs.row_holds.Given as goal

abbrev pub invariant-loop-t : goal.invariant-loop-t
invariant-loop-t l = l.ok ≡ all (λ t. within (get_or l.need.rights t 0) (holds (estimate_view l.estimate) l.l t)) (below l.t)
