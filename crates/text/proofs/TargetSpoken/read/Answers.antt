use mathlib.Core.Path.{refl}
use Rattle.klaim.specs.Rows.{loc_field, given, otherwise, ◌>>=◌}
use Rattle.text.specs.Fields.{loc}
use Rattle.text.proofs.TargetSpoken.read.Goals as goal

pub returns-in-Some : goal.returns-in-Some
unfolding loc_field loc given otherwise ◌>>=◌
returns-in-Some c = rw (← c.in-Some.ensures) refl

pub returns-then-is_self : goal.returns-then-is_self
unfolding loc_field loc given otherwise ◌>>=◌
returns-then-is_self c = rw (← c.in_default.ensures, ← c.if-is_self.ensures) refl

pub returns-in_err-variable : goal.returns-in_err-variable
unfolding loc_field loc given otherwise ◌>>=◌
returns-in_err-variable c = rw (c.from_residual.ensures, ← c.in_default.ensures, ← c.if-is_self.ensures, ← c.in_err-variable.ensures) refl

pub returns : goal.returns
unfolding loc_field loc given otherwise ◌>>=◌
returns c = rw (← c.in_default.ensures, ← c.if-is_self.ensures, ← c.in_ok-variable.ensures) refl
