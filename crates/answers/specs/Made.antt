-- The bytes of a row that is put together.
-- Assumes nothing.
use Rattle.std.specs.Prelude.{◌≡◌, ℕ, ◌+◌, List, ◌++◌, length, take}
use Rattle.answers.specs.declared.Row.{Row}

-- the bytes that are there
unfoldable pub made : {N : ℕ} → Row N → List ℕ
made row = take row.end row.bytes

-- bytes were put behind those that were there
pub record Adds {N : ℕ} (old new : Row N) (bytes : List ℕ) : Type 0 where
  pub made_is : made new ≡ made old ++ bytes
  pub ends : new.end ≡ old.end + length bytes
