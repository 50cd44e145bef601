use mathlib.Core.Path.{refl, sym}
use Rattle.sets.specs.Lists.{all, ◌⧺◌}
use Rattle.sets.proofs.Lists.{and_true}
use Rattle.klaim.specs.Process.{sites_in, used_in, bound_in}
use Rattle.text.specs.Fields.{loc, slot}
use Rattle.judge.proofs.FieldNumbered.low_variable.Goals as goal

pub returns-in-Value : goal.returns-in-Value
unfolding all loc slot sites_in used_in bound_in ◌⧺◌
returns-in-Value c = rw c.in-Value.is c.low_variable.ensures

pub returns-in-Binder : goal.returns-in-Binder
unfolding all loc slot sites_in used_in bound_in ◌⧺◌
returns-in-Binder c = rw c.in-Binder.is (sym (and_true _))

pub returns-in-Wildcard : goal.returns-in-Wildcard
unfolding all loc slot sites_in used_in bound_in ◌⧺◌
returns-in-Wildcard c = rw c.in-Wildcard.is refl
