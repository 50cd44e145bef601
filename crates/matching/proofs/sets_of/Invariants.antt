use mathlib.Core.Path.{◌≡◌}
use mathlib.Core.List.{◌∷◌, map}
use Prim.Native.Nat.{ℕ, ◌+◌}
use lib.ListN.{length, take}
use Rattle.klaim.specs.Fields.{items}
use Rattle.matching.proofs.sets_of.Given as goal

abbrev pub invariant-loop-j : goal.invariant-loop-j
invariant-loop-j g l =
    (length l.sets ≡ 5)
    × ((f : _ → ℕ) → ((x : _) (y : ℕ) → goal.F-post g l.set x y → y ≡ f x) → take (l.j + 1) l.sets ≡ l.first ∷ map f (take l.j (items l.fields)))
