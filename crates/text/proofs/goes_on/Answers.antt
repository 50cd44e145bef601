use mathlib.Core.Path.{refl}
use borrow.Author.Tests.{lt-ltb, le-ltb}
use Rattle.sets.specs.Lists.{◌&◌}
use Rattle.text.specs.Pieces.{comma_at}
use Rattle.text.proofs.goes_on.Goals as goal

pub returns-then-i-s : goal.returns-then-i-s
unfolding comma_at ◌&◌
returns-then-i-s c = rw (lt-ltb _ _ c.if-i-s.true) refl

pub returns-else-i-s : goal.returns-else-i-s
unfolding comma_at ◌&◌
returns-else-i-s c = rw (le-ltb _ _ c.if-i-s.false) refl
