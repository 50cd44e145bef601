use mathlib.Core.Path.{refl}
use native.Mathlib.Omega.{arith}
use borrow.Author.Tests.{eq-eqb, ne_eqb, lt-leb}
use Rattle.sets.specs.Lists.{either}
use Rattle.text.proofs.ends.Goals as goal

pub returns-then-b-eq-COMMA : goal.returns-then-b-eq-COMMA
unfolding either
returns-then-b-eq-COMMA c = rw (eq-eqb _ _ c.if-b-eq-COMMA.true) refl

pub returns-else-b-eq-COMMA : goal.returns-else-b-eq-COMMA
unfolding either
returns-else-b-eq-COMMA c = rw (ne_eqb _ _ c.if-b-eq-COMMA.false) refl

pub returns-else-b-le-COMMA : goal.returns-else-b-le-COMMA
unfolding either
returns-else-b-le-COMMA c = rw (lt-leb c.args.b 44 c.if-b-le-COMMA.false, ne_eqb c.args.b 44 (λ e. omega arith), ne_eqb c.args.b 10 (λ e. omega arith)) refl
