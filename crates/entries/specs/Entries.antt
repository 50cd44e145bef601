-- Names whose numbers are cut to a byte.
-- Assumes nothing.
use Rattle.std.specs.Prelude.{map, ◌%◌}
use Rattle.klaim.specs.declared.Loc.{Loc}
use Rattle.klaim.specs.declared.Loc.TheVariants.{At, Here, Use}
use Rattle.klaim.specs.declared.Slot.{Slot}
use Rattle.klaim.specs.declared.Slot.TheVariants.{Value, Bind, Wildcard}
use Rattle.klaim.specs.Process.{Line, Nil, Par, Rep, Out, In, Read, Eval, Accept}

-- a target, its number modulo 256: no number within its limit changes
abbrev pub cut_loc : Loc → Loc
cut_loc (At s) = At (record { 0 = s.0 % 256 })
cut_loc Here = Here
cut_loc (Use u) = Use (record { 0 = u.0 % 256 })

-- a field, likewise
abbrev pub cut_slot : Slot → Slot
cut_slot (Value x) = Value (cut_loc x)
cut_slot (Bind u) = Bind (record { 0 = u.0 % 256 })
cut_slot Wildcard = Wildcard

-- a line, each number in it modulo 256
abbrev pub cut_line : Line → Line
cut_line Nil = Nil
cut_line (Par a b) = Par (a % 256) (b % 256)
cut_line (Rep a) = Rep (a % 256)
cut_line (Out a g fs) = Out (a % 256) (cut_loc g) (map cut_loc fs)
cut_line (In a g fs) = In (a % 256) (cut_loc g) (map cut_slot fs)
cut_line (Read a g fs) = Read (a % 256) (cut_loc g) (map cut_slot fs)
cut_line (Eval a g b k) = Eval (a % 256) (cut_loc g) (b % 256) (k % 256)
cut_line (Accept a k) = Accept (a % 256) (k % 256)
