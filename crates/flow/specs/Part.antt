-- The eight actions by what they add to a use map.
-- Assumes nothing.
use Rattle.sets.specs.Bits.{out_bit, in_bit, read_bit, eval_bit}
use Rattle.tables.specs.declared.Action.{Action}
use Rattle.tables.specs.declared.Action.TheVariants.{Nil, Par, Rep, Out, In, Read, Eval, Accept}
use Rattle.flow.specs.declared.Part.{Part}
use Rattle.flow.specs.declared.Part.TheVariants.{Nothing, Both, Same, Acts, Accepts}

-- what an action adds
unfoldable pub part_of : Action → Part
part_of Nil = Nothing
part_of (Par a b) = Both a b
part_of (Rep a) = Same a
part_of (Out a g fs) = Acts a out_bit g
part_of (In a g fs) = Acts a in_bit g
part_of (Read a g fs) = Acts a read_bit g
part_of (Eval a g b k) = Acts a eval_bit g
part_of (Accept a k) = Accepts a k
