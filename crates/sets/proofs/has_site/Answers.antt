use Rattle.std.proofs.Common.{refl}
use Rattle.sets.specs.Bits.{has}
use Rattle.sets.proofs.has_site.Goals as goal

pub returns : goal.returns
unfolding has
returns c = refl
