use native.Mathlib.Omega.{arith}
use Rattle.ready.specs.Runs.{standing}
use Rattle.ready.proofs.stands.Goals as goal

pub returns-then-is_nil : goal.returns-then-is_nil
unfolding standing
returns-then-is_nil c = (omega arith, rw (← c.is_nil.ensures, c.if-is_nil.true))

pub returns-else-is_nil : goal.returns-else-is_nil
unfolding standing
returns-else-is_nil c = (omega arith, rw (← c.is_nil.ensures, c.if-is_nil.false))
