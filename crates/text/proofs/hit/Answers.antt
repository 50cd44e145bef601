use mathlib.Core.Path.{refl}
use native.Mathlib.Omega.{arith}
use borrow.Author.Tests.{lt-ltb, le-ltb, eq-eqb, ne_eqb}
use Rattle.sets.specs.Lists.{◌&◌}
use Rattle.text.specs.Fields.{hit_at}
use Rattle.text.proofs.hit.Goals as goal
use Rattle.text.proofs.hit.Goals.{else-i-f-via-then-i-f+else-f-i, else-i-f-via-else-i-f}

pub returns-then-f-i : goal.returns-then-f-i
unfolding hit_at ◌&◌
returns-then-f-i c = rw (lt-ltb _ _ c.if-i-f.true, eq-eqb _ _ c.if-f-i.true) (refl, omega arith)

pub returns : goal.returns
unfolding hit_at ◌&◌
returns c =
    elim c.else-i-f.branch [
      | else-i-f-via-then-i-f+else-f-i w ↦ rw (lt-ltb _ _ w.if-i-f.true, ne_eqb _ _ w.if-f-i.false) (refl, omega arith)
      | else-i-f-via-else-i-f w ↦ rw (le-ltb _ _ w.if-i-f.false) (refl, omega arith)
    ]
