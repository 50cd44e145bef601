use mathlib.Core.Path.{refl}
use Rattle.klaim.specs.Rows.{towards, given, otherwise, ◌>>=◌}
use Rattle.text.specs.Fields.{sites_to}
use Rattle.text.proofs.Toward.read.Goals as goal

pub returns-in-Some : goal.returns-in-Some
unfolding towards sites_to given otherwise ◌>>=◌
returns-in-Some c = rw (← c.in-Some.ensures) refl

pub returns-then-is_self : goal.returns-then-is_self
unfolding towards sites_to given otherwise ◌>>=◌
returns-then-is_self c = rw (← c.in_default.ensures, ← c.if-is_self.ensures) refl

pub returns : goal.returns
unfolding towards sites_to given otherwise ◌>>=◌
returns c = rw (← c.in_default.ensures, ← c.if-is_self.ensures) refl
