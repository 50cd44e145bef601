-- An index of a table of rows: for each column and each number the set of the rows that have it there.
-- Assumes nothing.
use Rattle.std.specs.Prelude.{◌≡◌, Bool, true, List, ℕ, zero, suc, ◌+◌, ◌*◌, ◌/◌, ◌%◌, ◌<◌, eqb, ltb, length, get_or}
use Rattle.sets.specs.Lists.{◌&◌, either, all}
use Rattle.sets.specs.Bits.{mem}
use Rattle.klaim.specs.Invariant.{all_below}
use Rattle.tables.specs.View.{Tuples, row_at, tuples_of}

-- what a row has in column c: in column 0 how many sites, then its sites in order, 0 past its end
unfoldable pub in_column : List ℕ → ℕ → ℕ
in_column row zero = length row
in_column row (suc j) = get_or row j 0 % 32

-- whether a set of rows, as numbers of 64 bits, has row i
unfoldable pub in_rows : List ℕ → ℕ → Bool
in_rows r i = mem (i % 64) (get_or r (i / 64) 0)

-- whether row i is among those that the index t has for column c and number v
unfoldable pub in_index : List ℕ → ℕ → ℕ → ℕ → Bool
in_index t c v i = mem (i % 64) (get_or t (128 * c + 4 * v + i / 64) 0)

-- t is the index of the first n rows
abbrev pub IndexedTo : Tuples → ℕ → List ℕ → Type 0
IndexedTo rows n t = (c v i : ℕ) → c < 6 → v < 32 → i < 256 → in_index t c v i ≡ (ltb i n & eqb (in_column (row_at rows i) c) v)

-- t is the index of the rows
abbrev pub Indexed : Tuples → List ℕ → Type 0
Indexed rows t = IndexedTo rows rows.count t

-- t is s with a row put into the first j columns, as row i
pub record Entered (row : List ℕ) (i j : ℕ) (s t : List ℕ) : Type 0 where
  pub long : length t ≡ length s
  pub tells : (c v k : ℕ) → c < 6 → v < 32 → k < 256 → in_index t c v k ≡ either (ltb c j & (eqb k i & eqb (in_column row c) v)) (in_index s c v k)

-- the rows have sites below 32
abbrev pub Low : Tuples → Type 0
Low rows = all (all_below 32) (tuples_of rows) ≡ true

-- the rows of a set are among the rows, and have m sites
abbrev pub Long : Tuples → ℕ → List ℕ → Type 0
Long rows m r = (i : ℕ) → i < 256 → in_rows r i ≡ true → (i < rows.count) × (length (row_at rows i) ≡ m)
