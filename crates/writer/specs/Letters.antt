-- The table of letters. No. 4 is a request of document 02.
-- Assumes nothing.
use Rattle.std.specs.Prelude.{List, ℕ, ◌-◌, length, replicate}
use Prim.Native.Char.{code}
use Rattle.sets.specs.Lists.{◌⧺◌, table}
use Rattle.sets.specs.Bits.{right_count, set_count}
use Rattle.klaim.specs.Listing.{letters}

-- what stands in an entry behind the last letter
abbrev pub dot : ℕ
dot = code "."

-- letters, and dots up to the length of an entry: a place for each right
unfoldable pub padded : List ℕ → List ℕ
padded xs = xs ⧺ replicate (right_count - length xs) dot

-- No. 4: "a table of the 32 sets ..: each entry has the letters of its set's bits, in the order `oirea`, and no other"
unfoldable pub letter_table : List (List ℕ)
letter_table = table set_count (λ m. padded (letters m))
