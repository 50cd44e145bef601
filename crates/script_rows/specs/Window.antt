-- What of an input is in a buffer, and what was found there of a row.
-- Assumes nothing.
use Rattle.std.specs.Prelude.{◌≡◌, Bool, true, List, ℕ, zero, suc, ◌+◌, ◌-◌, ◌<◌, ◌≤◌, Result, Ok, Err, eqb, length, get_or}
use Rattle.std.specs.declared.io.Error.{Error}
use Prim.Native.Char.{code}
use Rattle.sets.specs.Lists.{◌&◌}
use Rattle.klaim.specs.Rows.{newline}
use Rattle.script_rows.specs.declared.Find.TheVariants.{Row, End, Full, Long, Failed, More}
use Rattle.script_rows.specs.declared.Window.{Window}

-- a read failed
abbrev pub HasFailed : Window → Type 0
HasFailed w = (why : Error) × (w.found ≡ Failed why)

-- the places of a window lie within the buffer, in their order
abbrev pub Within : Window → List ℕ → Type 0
Within w buf = (w.from ≤ w.row) × (w.row ≤ w.next) × (w.next ≤ w.to) × (w.to ≤ length buf)

-- the bytes that stood from `from` to `to` stand from `at` on
abbrev pub Kept : ℕ → ℕ → List ℕ → ℕ → List ℕ → Type 0
Kept from to old at new = (i : ℕ) → from + i < to → get_or new (at + i) 0 ≡ get_or old (from + i) 0

-- no row ends from place a to place b
abbrev pub Unended : List ℕ → ℕ → ℕ → Type 0
Unended buf a b = (i : ℕ) → a ≤ i → i < b → get_or buf i 0 ≡ newline → ⊥

-- the bytes from `row` to `next` are a row: a newline ends them, and none stands before it
pub record IsRow (w : Window) (buf : List ℕ) : Type 0 where
  pub some : w.row < w.next
  pub ended : get_or buf (w.next - 1) 0 ≡ newline
  pub one : Unended buf w.row (w.next - 1)

-- What was found of the row that begins at `next`, where the bytes from `from` to `to` were there and are kept, and `coming` says whether
-- more may come. Where the row is there, it is a whole row; else no row ends in what is there. Only the end of the input ends it.
pub record Found (from next to : ℕ) (coming : Bool) (old : List ℕ) (w : Window) (buf : List ℕ) : Type 0 where
  pub within : Within w buf
  pub kept : Kept from to old w.from buf
  pub all : to + w.from ≤ w.to + from
  pub row : w.found ≡ Row → (w.row + from ≡ next + w.from) × IsRow w buf
  pub none : (w.found ≡ Row → ⊥) → Unended buf (next + w.from - from) w.to
  pub end : w.found ≡ End → w.row ≡ w.to
  pub full : w.found ≡ Full → (w.from ≡ 0) × (w.to ≡ length buf)
  pub goes_on : (w.found ≡ End → ⊥) → w.more ≡ coming
  pub long : length buf ≡ length old

-- the next row, kept alone, unless it was passed over or a read failed
abbrev pub Alone : Window → List ℕ → Window → List ℕ → Type 0
Alone last old w buf = Within w buf × ((w.found ≡ Long → ⊥) → ¬ HasFailed w → Found last.next last.next last.to last.more old w buf)

-- a row that was passed over to where w is: it is long, unless a read failed there
pub record LongRow (w r : Window) : Type 0 where
  pub places : (r.from ≡ w.from) × (r.row ≡ w.row) × (r.next ≡ w.next) × (r.to ≡ w.to)
  pub long : ¬ HasFailed w → r.found ≡ Long
  pub failed : (why : Error) → w.found ≡ Failed why → r.found ≡ Failed why

-- the row that was found is `.`
unfoldable pub dot_row : Window → List ℕ → Bool
dot_row w buf = eqb (w.next - w.row) 2 & eqb (get_or buf w.row 0) (code ".")

-- a row `.`, and the bytes before it from `from` on, as they were where they were there
pub record Dotted (last : Window) (old : List ℕ) (w : Window) (buf : List ℕ) : Type 0 where
  pub within : Within w buf
  pub kept : Kept last.from last.to old w.from buf
  pub all : last.to + w.from ≤ w.to + last.from
  pub row : w.found ≡ Row → IsRow w buf × (dot_row w buf ≡ true)

-- the search for the end of a row: none was found before `next`
pub record Seeks (w : Window) (buf : List ℕ) : Type 0 where
  pub within : Within w buf
  pub unended : Unended buf w.row w.next

-- one turn of it: there is more to look at, or something was found
pub record Turned (last : Window) (old : List ℕ) (w : Window) (buf : List ℕ) : Type 0 where
  pub more : w.found ≡ More → Seeks w buf × (w.row + last.from ≡ last.row + w.from) × (last.to + w.from < w.to + last.from) × Kept last.from last.to old w.from buf × (w.more ≡ last.more)
  pub long : length buf ≡ length old
  pub found : (w.found ≡ More → ⊥) → Found last.from last.row last.to last.more old w buf

-- the same window with room behind it, unless what is kept fills the buffer
pub record Roomy (last : Window) (old : List ℕ) (w : Window) (buf : List ℕ) : Type 0 where
  pub within : Within w buf
  pub kept : Kept last.from last.to old w.from buf
  pub row : w.row + last.from ≡ last.row + w.from
  pub next : w.next + last.from ≡ last.next + w.from
  pub to : w.to + last.from ≡ last.to + w.from
  pub room : w.to ≡ length buf → w.from ≡ 0
  pub coming : w.more ≡ last.more
  pub long : length buf ≡ length old

-- what a read of n bytes gave, or one that failed: a failure is not the end of the input
abbrev pub Given : Window → Result ℕ Error → Window → Type 0
Given last (Ok zero) w = (w.found ≡ End) × (w.from ≡ last.from) × (w.row ≡ last.to) × (w.next ≡ last.to) × (w.to ≡ last.to)
Given last (Ok (suc n)) w = (w.found ≡ More) × (w.from ≡ last.from) × (w.row ≡ last.row) × (w.next ≡ last.next) × (w.to ≡ last.to + suc n) × (w.more ≡ last.more)
Given last (Err why) w = (w.found ≡ Failed why) × (w.from ≡ last.from) × (w.row ≡ last.row) × (w.next ≡ last.next) × (w.to ≡ last.to) × (w.more ≡ last.more)

-- what a read behind what is there gave
pub record Read (last : Window) (old : List ℕ) (w : Window) (buf : List ℕ) : Type 0 where
  pub within : Within w buf
  pub long : length buf ≡ length old
  pub same : (i : ℕ) → i < last.to → get_or buf i 0 ≡ get_or old i 0
  pub from : w.from ≡ last.from
  pub no_row : w.found ≡ Row → ⊥
  pub more : w.found ≡ More → (w.row ≡ last.row) × (w.next ≡ last.next) × (last.to < w.to)
  pub stop : (w.found ≡ More → ⊥) → w.to ≡ last.to
  pub end : w.found ≡ End → w.row ≡ w.to
  pub full : w.found ≡ Full → w.to ≡ length buf
  pub coming : (w.found ≡ End → ⊥) → w.more ≡ last.more
