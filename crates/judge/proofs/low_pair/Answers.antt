use mathlib.Core.Path.{refl, sym}
use borrow.Author.Tests.{lt-ltb, le-ltb}
use Rattle.sets.specs.Lists.{all, ◌&◌}
use Rattle.sets.proofs.Lists.{and_true}
use Rattle.judge.proofs.low_pair.Goals as goal

pub returns-then-pair-n : goal.returns-then-pair-n
unfolding all ◌&◌
returns-then-pair-n c = rw (lt-ltb _ _ c.if-pair-n.true) (sym (and_true _))

pub returns-else-pair-n : goal.returns-else-pair-n
unfolding all ◌&◌
returns-else-pair-n c = rw (le-ltb _ _ c.if-pair-n.false) refl
