use mathlib.Core.Path.{◌≡◌}
use Prim.Native.Nat.{◌*◌, ◌≤◌}
use lib.ListN.{get_or}
use Rattle.sets.specs.Lists.{sum, below}
use Rattle.sets.specs.Bits.{size, meet}
use Rattle.klaim.specs.Net.{home}
use Rattle.tables.specs.View.{net_view}
use Rattle.counts.proofs.used_count.Given as goal

-- the usable rights towards the sites below t are counted, at most five each
abbrev pub invariant-loop-t : goal.invariant-loop-t
invariant-loop-t l = (l.count ≤ 5 * l.t) × (l.count ≡ sum (λ u. size (meet (home (net_view l.net) l.s u) (get_or l.usable u 0))) (below l.t))
