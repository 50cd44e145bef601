use mathlib.Core.Path.{◌≡◌}
use Prim.Native.Nat.{◌*◌, ◌≤◌}
use lib.ListN.{take}
use Rattle.sets.specs.Lists.{sum}
use Rattle.sets.specs.Bits.{size}
use Rattle.counts.proofs.reported.Given as goal

-- the rights of the bytes before this one are counted, at most five each
abbrev pub invariant-loop-rights : goal.invariant-loop-rights
invariant-loop-rights l = (l.count ≤ 5 * l.rights-index) × (l.count ≡ sum size (take l.rights-index l.report))
