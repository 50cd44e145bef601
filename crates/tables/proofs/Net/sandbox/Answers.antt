use mathlib.Core.Path.{refl}
use Rattle.klaim.specs.Net.{box}
use Rattle.tables.proofs.Net.sandbox.Goals as goal

pub returns : goal.returns
unfolding box
returns c = rw (c.from.ensures, c.from-2.ensures) refl
