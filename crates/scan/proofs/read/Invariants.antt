use Prim.Native.Nat.{◌-◌, ◌≤◌}
use mathlib.Core.List.{[]}
use lib.ListN.{length}
use Rattle.klaim.specs.Reader.{Text}
use Rattle.scan.specs.Progress.{Progress}
use Rattle.scan.proofs.read.Given as goal

abbrev pub invariant-loop-at : goal.invariant-loop-at
invariant-loop-at g l =
    (l.count ≤ l.at) × ((t : Text) → g.R.Reader.holds t [] l.initial.reader → Progress t (λ rows. g.R.Reader.holds t rows l.reader) l.s l.at l.count)

abbrev pub decreases-loop-at : goal.decreases-loop-at
decreases-loop-at g l = length l.s - l.at
