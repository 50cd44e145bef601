use Rattle.sets.specs.Bits.{grant}
use Rattle.sets.proofs.granted.Goals as goal

pub returns-then-has_site : goal.returns-then-has_site
unfolding grant
returns-then-has_site c = rw (← c.has_site.ensures, c.if-has_site.true)

pub returns-else-has_site : goal.returns-else-has_site
unfolding grant
returns-else-has_site c = rw (← c.has_site.ensures, c.if-has_site.false)
