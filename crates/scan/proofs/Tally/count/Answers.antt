use mathlib.Core.Path.{refl}
use Rattle.scan.proofs.Tallies.{and_both, counted_other}
use Rattle.scan.proofs.Tally.count.Goals as goal

pub returns-in-N : goal.returns-in-N
returns-in-N c = rw (c.group.ensures, c.in-N.is) refl

pub returns-in-Q : goal.returns-in-Q
returns-in-Q c = rw (c.group.ensures, c.in-Q.is, c.from.ensures, and_both) refl

pub returns-in_default : goal.returns-in_default
returns-in_default c = rw c.group.ensures (counted_other _ _ _ c.in_default.not-N c.in_default.not-Q)
