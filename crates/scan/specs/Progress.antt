-- How far a text is read.
-- Assumes nothing.
use Rattle.std.specs.Prelude.{◌≡◌, List, ℕ, length, drop, Result, Ok, Err}
use Rattle.std.proofs.Math.Option.{Option, some}
use Rattle.klaim.specs.Rows.{Row, split, newline, rows_from}
use Rattle.klaim.specs.Reader.{refused, gives, bad, good, Text, judge, scan, read_rows}
use Rattle.klaim.specs.Refusals.{number_of}
use Rattle.klaim.specs.declared.Reason.{Reason}
use Rattle.klaim.specs.declared.Refusal.{Refusal}

-- the rows that begin at byte `at` or behind it
abbrev pub rows_left : List ℕ → ℕ → List (Option Row)
rows_left bytes at = rows_from (split newline (drop at bytes))

-- what stands below the rows above is a row that is let through, and then this holds of it; or it is refused
abbrev pub Taken : Text → List Row → Option Row → Result (Unit {0}) Reason → (Row → Type 0) → Type 0
Taken t above o (Ok x) then = (r : Row) × (o ≡ some r) × (judge t above o ≡ good r) × then r
Taken t above o (Err why) then = judge t above o ≡ bad (number_of why)

-- a text is read up to byte `at`: the rows above have the property P, and none of them is refused
pub record Progress (t : Text) (P : List Row → Type 0) (bytes : List ℕ) (at count : ℕ) : Type 0 where
  pub above : List Row
  pub many : length above ≡ count
  pub held : P above
  pub rest : read_rows t bytes ≡ scan t above (rows_left bytes at)

-- all rows are read and have the property P, or one is refused
abbrev pub RowsRead : Text → List ℕ → (List Row → Type 0) → Result (Unit {0}) Refusal → Type 0
RowsRead t bytes P (Ok x) = (rows : List Row) × (read_rows t bytes ≡ gives rows) × P rows
RowsRead t bytes P (Err e) = read_rows t bytes ≡ refused (number_of e.why) e.row
