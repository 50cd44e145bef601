use mathlib.Core.Path.{refl}
use Rattle.klaim.specs.Rows.{slot_field, given, otherwise, ◌>>=◌}
use Rattle.text.specs.Fields.{slot}
use Rattle.text.proofs.FieldSpoken.read.Goals as goal

pub returns-in-Some : goal.returns-in-Some
unfolding slot_field slot given otherwise ◌>>=◌
returns-in-Some c = rw (← c.in-Some.ensures) refl

pub returns-then-is_wildcard : goal.returns-then-is_wildcard
unfolding slot_field slot given otherwise ◌>>=◌
returns-then-is_wildcard c = rw (← c.in_default.ensures, ← c.if-is_wildcard.ensures) refl

pub returns-in_err-read : goal.returns-in_err-read
unfolding slot_field slot given otherwise ◌>>=◌
returns-in_err-read c = rw (c.from_residual.ensures, ← c.in_default.ensures, ← c.if-is_wildcard.ensures, ← c.in_err-read.ensures) refl

pub returns : goal.returns
unfolding slot_field slot given otherwise ◌>>=◌
returns c = rw (← c.in_default.ensures, ← c.if-is_wildcard.ensures, ← c.in_ok-read.ensures) refl
