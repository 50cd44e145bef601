use mathlib.Core.Path.{refl}
use Rattle.sets.specs.Bits.{within, meet}
use Rattle.rules.proofs.within.Goals as goal

pub returns : goal.returns
unfolding within meet
returns c = refl
