use mathlib.Core.Path.{refl}
use borrow.Author.Tests.{eq-eqb, ne_eqb}
use Rattle.sets.specs.Lists.{◌&◌}
use Rattle.script_rows.specs.Window.{dot_row}
use Rattle.script_rows.proofs.Incoming.is_dot.Goals as goal

pub returns-else-w-eq2 : goal.returns-else-w-eq2
unfolding dot_row ◌&◌
returns-else-w-eq2 g c = rw (ne_eqb _ _ c.if-w-eq2.false) refl

pub returns-then-w-eq2 : goal.returns-then-w-eq2
unfolding dot_row ◌&◌
returns-then-w-eq2 g c = rw (eq-eqb _ _ c.if-w-eq2.true) refl
