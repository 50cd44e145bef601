use mathlib.Core.Path.{refl, sym}
use Rattle.sets.specs.Lists.{all, ◌⧺◌}
use Rattle.sets.proofs.Lists.{and_true}
use Rattle.klaim.specs.Process.{sites_in, used_in, bound_in}
use Rattle.text.specs.Fields.{loc, slot}
use Rattle.judge.proofs.TargetNumbered.low_variable.Goals as goal

pub returns-in-Site : goal.returns-in-Site
unfolding all loc slot sites_in used_in bound_in ◌⧺◌
returns-in-Site c = rw c.in-Site.is refl

pub returns-in-Here : goal.returns-in-Here
unfolding all loc slot sites_in used_in bound_in ◌⧺◌
returns-in-Here c = rw c.in-Here.is refl

pub returns-in-Variable : goal.returns-in-Variable
unfolding all loc slot sites_in used_in bound_in ◌⧺◌
returns-in-Variable c = rw c.in-Variable.is (sym (and_true _))
