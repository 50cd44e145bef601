use mathlib.Core.Path.{refl}
use Rattle.klaim.specs.Reader.{pair_place}
use Rattle.forms.specs.Forms.{pair_data}
use Rattle.stores.proofs.pair_place.Goals as goal

pub returns-clause-place : goal.returns-clause-place
unfolding pair_place pair_data
returns-clause-place c = λ g. rw (c.from.ensures, c.from-2.ensures) refl
