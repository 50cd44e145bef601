-- How often a template names a variable.
-- Assumes nothing.
use Rattle.std.specs.Prelude.{Bool, true, false, List, ℕ, eqb, leb, count_by}
use Rattle.text.specs.declared.Target.TheVariants.{Site, Here, Variable}
use Rattle.text.specs.declared.Field.{Field}
use Rattle.text.specs.declared.Field.TheVariants.{Value, Binder, Wildcard}

-- whether a field is u or `!u`
abbrev pub names : ℕ → Field → Bool
names u (Value (Site s)) = false
names u (Value Here) = false
names u (Value (Variable v)) = eqb u v
names u (Binder v) = eqb u v
names u Wildcard = false

-- a field that is no binder, or whose variable the fields name once
abbrev pub single : List Field → Field → Bool
single fs (Value x) = true
single fs (Binder u) = leb (count_by (names u) fs) 1
single fs Wildcard = true
