use mathlib.Core.Path.{◌≡◌}
use mathlib.Core.List.{map}
use Prim.Native.Nat.{min}
use lib.ListN.{take, drop}
use Rattle.sets.specs.Lists.{product}
use Rattle.sets.specs.Bits.{sites}
use Rattle.matching.proofs.choices.Given as goal

abbrev pub invariant-loop-j : goal.invariant-loop-j
invariant-loop-j l = l.p ≡ min (product (drop l.j (map sites (take l.m l.reaches)))) 257
