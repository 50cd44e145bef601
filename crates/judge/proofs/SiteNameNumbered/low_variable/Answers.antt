use mathlib.Core.Path.{refl}
use Rattle.sets.specs.Lists.{all, ◌⧺◌}
use Rattle.klaim.specs.Process.{sites_in, used_in, bound_in}
use Rattle.text.specs.Fields.{loc, slot}
use Rattle.judge.proofs.SiteNameNumbered.low_variable.Goals as goal

pub returns : goal.returns
unfolding all loc slot sites_in used_in bound_in ◌⧺◌
returns c = refl
