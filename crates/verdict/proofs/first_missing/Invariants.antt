use mathlib.Core.Path.{◌≡◌}
use mathlib.Core.Bool.{true}
use Prim.Native.Nat.{ℕ, ◌<◌}
use Rattle.tables.specs.View.{row_at}
use Rattle.klaim.specs.Net.{Estimate}
use Rattle.klaim.specs.Analysis.{stands}
use Rattle.rules.specs.Masks.{IndexOf}
use Rattle.verdict.proofs.first_missing.Given as goal

abbrev pub invariant-loop-i : goal.invariant-loop-i
invariant-loop-i l = (E : Estimate) → IndexOf E l.index.sets → (k : ℕ) → k < l.i → stands E (row_at l.tuples k) ≡ true
