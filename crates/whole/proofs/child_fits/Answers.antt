use native.Mathlib.Omega.{arith}
use borrow.Author.Tests.{lt-ltb, le-ltb}
use Rattle.sets.specs.Lists.{◌&◌}
use Rattle.whole.proofs.child_fits.Goals as goal

pub returns-then-q-child : goal.returns-then-q-child
unfolding ◌&◌
returns-then-q-child c = rw (c.from-child.ensures, lt-ltb c.args.q c.args.child (omega (arith, c.from-child.ensures)))

pub returns-else-q-child : goal.returns-else-q-child
unfolding ◌&◌
returns-else-q-child c = rw (c.from-child.ensures, le-ltb c.args.q c.args.child (omega (arith, c.from-child.ensures)))
