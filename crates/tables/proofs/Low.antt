-- What is tested below its limits is below them.
-- Assumes nothing.
use mathlib.Core.Path.{◌≡◌}
use mathlib.Core.Bool.{Bool, true}
use mathlib.Core.List.{List, [], ◌∷◌}
use Rattle.sets.specs.Lists.{All, done, more, all}
use Rattle.sets.proofs.Lists.{ltb_lt, and_l, and_r}
use Rattle.klaim.specs.Fields.{items}
use Rattle.klaim.specs.declared.Loc.{Loc}
use Rattle.klaim.specs.declared.Loc.TheVariants.{At, Here, Use}
use Rattle.klaim.specs.declared.Slot.{Slot}
use Rattle.klaim.specs.declared.Slot.TheVariants.{Value, Bind, Wildcard}
use Rattle.tables.specs.declared.Action.{Action}
use Rattle.tables.specs.declared.Action.TheVariants.{Nil, Par, Rep, Out, In, Read, Eval, Accept}
use Rattle.tables.specs.Low.{low_loc, low_slot, low_action, LowLoc, LowSlot, LowAction}

pub loc_is_low : (x : Loc) → low_loc x ≡ true → LowLoc x
loc_is_low (At s) h = ltb_lt s.0 32 h
loc_is_low Here h = tt
loc_is_low (Use u) h = ltb_lt u.0 32 h

pub slot_is_low : (x : Slot) → low_slot x ≡ true → LowSlot x
slot_is_low (Value x) h = loc_is_low x h
slot_is_low (Bind u) h = ltb_lt u.0 32 h
slot_is_low Wildcard h = tt

each_low : {A : Type 0} (test : A → Bool) (P : A → Type 0) → ((x : A) → test x ≡ true → P x) → (xs : List A) → all test xs ≡ true → All P xs
unfolding all
each_low test P f [] h = done
each_low test P f (x ∷ xs) h = more (f x (and_l _ _ h)) (each_low test P f xs (and_r _ _ h))

pub action_is_low : (x : Action) → low_action x ≡ true → LowAction x
action_is_low Nil h = tt
action_is_low (Par a b) h = tt
action_is_low (Rep a) h = tt
action_is_low (Out a g fs) h = (loc_is_low g (and_l _ _ h), each_low low_loc LowLoc loc_is_low (items fs) (and_r _ _ h))
action_is_low (In a g fs) h = (loc_is_low g (and_l _ _ h), each_low low_slot LowSlot slot_is_low (items fs) (and_r _ _ h))
action_is_low (Read a g fs) h = (loc_is_low g (and_l _ _ h), each_low low_slot LowSlot slot_is_low (items fs) (and_r _ _ h))
action_is_low (Eval a g b k) h = (loc_is_low g (and_l _ _ h), ltb_lt k 32 (and_r _ _ h))
action_is_low (Accept a k) h = ltb_lt k 32 h
