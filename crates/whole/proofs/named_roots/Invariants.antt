use Rattle.whole.specs.Counted.{Counted}
use Rattle.whole.proofs.Counts.{root_lines}
use Rattle.whole.proofs.named_roots.Given as goal

abbrev pub invariant-loop-i : goal.invariant-loop-i
invariant-loop-i l = Counted (root_lines l.i l.roots) l.counts
