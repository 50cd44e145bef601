-- An option of the code as the definitions have it.
-- Assumes nothing.
use Rattle.std.specs.Prelude.{Option, None, Some}
use Rattle.std.proofs.Math.Option as Math
use Rattle.std.proofs.Math.Option.{none, some}

-- what it holds, seen by `view`
abbrev pub option_of : {A B : Type 0} → (A → B) → Option A → Math.Option B
option_of view None = none
option_of view (Some x) = some (view x)
