-- The fields of a tuple or a template as a list.
-- Assumes nothing.
use Rattle.std.specs.Prelude.{List}
use Rattle.klaim.specs.declared.Fields.{Fields}
use Rattle.klaim.specs.declared.Fields.TheVariants.{One, Two, Three, Four}

-- one to four, in order
abbrev pub items : {T : Type 0} → Fields T → List T
items (One xs) = xs
items (Two xs) = xs
items (Three xs) = xs
items (Four xs) = xs
