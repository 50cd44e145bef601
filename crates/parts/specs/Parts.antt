-- Where a row begins, and where the row `.` stands.
-- Assumes nothing.
use Rattle.std.specs.Prelude.{Bool, List, [], ◌∷◌, ℕ, ◌-◌, eqb, take, drop, get_or}
use Prim.Native.Char.{code}
use Rattle.sets.specs.Lists.{either, same}
use Rattle.klaim.specs.Rows.{newline}

-- a row begins at place i
unfoldable pub begins : List ℕ → ℕ → Bool
begins bytes i = either (eqb i 0) (eqb (get_or bytes (i - 1) 0) newline)

-- the two bytes from place i on are those of a row `.`
unfoldable pub dot_at : List ℕ → ℕ → Bool
dot_at bytes i = same (take 2 (drop i bytes)) (code "." ∷ newline ∷ [])
