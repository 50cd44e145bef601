use mathlib.Core.Path.{refl}
use Rattle.sets.specs.Bits.{meet, less}
use Rattle.report.proofs.less.Goals as goal

pub returns : goal.returns
unfolding less meet
returns c = refl
