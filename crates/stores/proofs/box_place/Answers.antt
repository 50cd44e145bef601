use mathlib.Core.Path.{refl}
use Rattle.klaim.specs.Reader.{box_place}
use Rattle.forms.specs.Forms.{box_data}
use Rattle.stores.proofs.box_place.Goals as goal

pub returns-clause-place : goal.returns-clause-place
unfolding box_place box_data
returns-clause-place c = rw (c.from.ensures, c.column.ensures) refl
