use Rattle.std.proofs.Common.{◌-◌, ◌≤◌, length}
use Rattle.frames.proofs.each_case.Given as goal

abbrev pub invariant-loop-at : goal.invariant-loop-at
invariant-loop-at g l = (l.at ≤ length l.input) × (l.k ≤ l.at) × goal.F-IsAlwaysCallable g l.work

abbrev pub decreases-loop-at : goal.decreases-loop-at
decreases-loop-at g l = length l.input - l.at
