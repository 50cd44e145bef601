use Rattle.sets.specs.Lists.{◌&◌}
use Rattle.parts.proofs.parted_at.Goals as goal

pub returns-then-begins_at : goal.returns-then-begins_at
unfolding ◌&◌
returns-then-begins_at c = rw (← c.begins_at.ensures, c.if-begins_at.true) c.dot_at.ensures

pub returns : goal.returns
unfolding ◌&◌
returns c = rw (← c.begins_at.ensures, c.if-begins_at.false)
