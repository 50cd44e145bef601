use mathlib.Core.Path.{refl}
use Rattle.text.specs.Fields.{sites_to}
use Rattle.stores.proofs.column.Goals as goal

pub returns-in-Site : goal.returns-in-Site
unfolding sites_to
returns-in-Site c = rw (c.in-Site.is, c.from.ensures) refl

pub returns-in-Own : goal.returns-in-Own
unfolding sites_to
returns-in-Own c = rw c.in-Own.is refl
