-- What a line names is below its limits.
-- Assumes nothing.
use Rattle.std.specs.Prelude.{Bool, true, ◌<◌, ltb}
use Rattle.sets.specs.Lists.{◌&◌, all, All}
use Rattle.klaim.specs.Fields.{items}
use Rattle.klaim.specs.declared.Loc.{Loc}
use Rattle.klaim.specs.declared.Loc.TheVariants.{At, Here, Use}
use Rattle.klaim.specs.declared.Slot.{Slot}
use Rattle.klaim.specs.declared.Slot.TheVariants.{Value, Bind, Wildcard}
use Rattle.tables.specs.declared.Action.{Action}
use Rattle.tables.specs.declared.Action.TheVariants.{Nil, Par, Rep, Out, In, Read, Eval, Accept}

-- the number in a target or field is below 32
abbrev pub low_loc : Loc → Bool
low_loc (At s) = ltb s.0 32
low_loc Here = true
low_loc (Use u) = ltb u.0 32

abbrev pub low_slot : Slot → Bool
low_slot (Value x) = low_loc x
low_slot (Bind u) = ltb u.0 32
low_slot Wildcard = true

-- the sites, variables and sandboxes of an action are
abbrev pub low_action : Action → Bool
low_action Nil = true
low_action (Par a b) = true
low_action (Rep a) = true
low_action (Out a g fs) = low_loc g & all low_loc (items fs)
low_action (In a g fs) = low_loc g & all low_slot (items fs)
low_action (Read a g fs) = low_loc g & all low_slot (items fs)
low_action (Eval a g b k) = low_loc g & ltb k 32
low_action (Accept a k) = ltb k 32

-- the same as facts
abbrev pub LowLoc : Loc → Type 0
LowLoc (At s) = s.0 < 32
LowLoc Here = Unit {0}
LowLoc (Use u) = u.0 < 32

abbrev pub LowSlot : Slot → Type 0
LowSlot (Value x) = LowLoc x
LowSlot (Bind u) = u.0 < 32
LowSlot Wildcard = Unit {0}

abbrev pub LowAction : Action → Type 0
LowAction Nil = Unit {0}
LowAction (Par a b) = Unit {0}
LowAction (Rep a) = Unit {0}
LowAction (Out a g fs) = LowLoc g × All LowLoc (items fs)
LowAction (In a g fs) = LowLoc g × All LowSlot (items fs)
LowAction (Read a g fs) = LowLoc g × All LowSlot (items fs)
LowAction (Eval a g b k) = LowLoc g × (k < 32)
LowAction (Accept a k) = k < 32
