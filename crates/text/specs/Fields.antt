-- What the answers of the field readers stand for.
-- Assumes nothing.
use Rattle.std.specs.Prelude.{List, [], ◌∷◌, ℕ, ◌-◌, Bool, not, cond, eqb, leb, ltb, length, get_or}
use Rattle.std.proofs.Math.Option.{Option, some}
use Prim.Native.Char.{code}
use Rattle.sets.specs.Lists.{◌&◌, either}
use Rattle.sets.specs.Bits.{every_bit}
use Rattle.klaim.specs.declared.Loc.{Loc}
use Rattle.klaim.specs.declared.Loc.TheVariants.{At, Here, Use}
use Rattle.klaim.specs.declared.Slot.{Slot}
use Rattle.klaim.specs.declared.Slot.TheVariants as Slots
use Rattle.klaim.specs.declared.Slot.TheVariants.{Bind}
use Rattle.klaim.specs.Rows.{digit, given}
use Rattle.text.specs.declared.Target.{Target}
use Rattle.text.specs.declared.Target.TheVariants as Targets
use Rattle.text.specs.declared.Field.{Field}
use Rattle.text.specs.declared.Field.TheVariants as Fields
use Rattle.text.specs.declared.Toward.{Toward}
use Rattle.text.specs.declared.Toward.TheVariants as Towards

-- the length and the first digit of a number
unfoldable pub shape_of : List ℕ → Bool
shape_of f = leb 1 (length f) & leb (length f) 3 & either (eqb (length f) 1) (not (eqb (get_or f 0 0) (code "0")))

-- the digit that a byte says
unfoldable pub digit_field : ℕ → Option ℕ
digit_field b = given (digit b) (some (b - code "0"))

-- 1 if byte i of a field is the letter, else 0
unfoldable pub hit_at : ℕ → List ℕ → ℕ → ℕ
hit_at letter f i = cond (ltb i (length f) & eqb (get_or f i 0) letter) 1 0

-- no right, and each right
abbrev pub bits : List ℕ
bits = 0 ∷ every_bit

-- what stands in the table of the sandboxes where no row says rights: 0 is the empty set there
abbrev pub unsaid : ℕ
unsaid = 128

-- `!u`
abbrev pub bind : ℕ → Slot
bind u = Bind (record { 0 = u })

-- a target, or a field of `out`
unfoldable pub loc : Target → Loc
loc (Targets.Site s) = At (record { 0 = s })
loc Targets.Here = Here
loc (Targets.Variable u) = Use (record { 0 = u })

-- a field of `in` and `read`
unfoldable pub slot : Field → Slot
slot (Fields.Value x) = Slots.Value (loc x)
slot (Fields.Binder u) = bind u
slot Fields.Wildcard = Slots.Wildcard

-- the sites of the t of a D row
unfoldable pub sites_to : Toward → List ℕ
sites_to (Towards.Site s) = s ∷ []
sites_to Towards.Own = []
