-- The rows that an engine script prints.
-- Assumes nothing.
use Rattle.std.specs.Prelude.{List, [], ◌∷◌, ℕ, min}
use Rattle.sets.specs.Lists.{◌⧺◌}
use Rattle.klaim.specs.Rows.{text, newline}
use Rattle.klaim.specs.Listing.{numeral, letters, row}

-- a number as it is printed: one that does not fit in 32 bits is as good as the largest that does
abbrev pub shown : ℕ → List ℕ
shown n = numeral (min n 4294967295)

-- a word with its comma, and a number
unfoldable pub count_row : List ℕ → ℕ → List ℕ
count_row word n = word ⧺ (shown n ⧺ (newline ∷ []))

-- `refused`, the number, and the row
unfoldable pub refused_row : ℕ → ℕ → List ℕ
refused_row number line = row "refused" (shown number ∷ shown line ∷ [])

-- `performed`, the site of the thread, the target, and the right
unfoldable pub performed_row : ℕ → ℕ → ℕ → List ℕ
performed_row site target right = row "performed" ((text "s" ⧺ shown site) ∷ (text "s" ⧺ shown target) ∷ letters right ∷ [])
