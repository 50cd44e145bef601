use mathlib.Core.Path.{◌≡◌}
use lib.Dec.{eqb}
use lib.ListN.{take}
use Rattle.sets.specs.Lists.{any}
use Rattle.repeats.proofs.has_key.Given as goal

abbrev pub invariant-loop-key : goal.invariant-loop-key
invariant-loop-key l = l.found ≡ any (λ x. eqb x l.k) (take l.key-index l.key-items)
