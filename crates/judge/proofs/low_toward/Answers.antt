use mathlib.Core.Path.{refl, sym}
use Rattle.sets.specs.Lists.{all}
use Rattle.sets.proofs.Lists.{and_true}
use Rattle.text.specs.Fields.{sites_to}
use Rattle.judge.proofs.low_toward.Goals as goal

pub returns-in-Site : goal.returns-in-Site
unfolding all sites_to
returns-in-Site c = rw c.in-Site.is (sym (and_true _))

pub returns-in-Own : goal.returns-in-Own
unfolding all sites_to
returns-in-Own c = rw c.in-Own.is refl
