-- Where rows and fields begin and end.
-- Assumes nothing.
use Rattle.std.specs.Prelude.{◌≡◌, ◌⊎◌, Bool, List, ℕ, zero, suc, ◌+◌, ◌<◌, ◌≤◌, length, get_or, drop, eqb, ltb}
use Rattle.sets.specs.Lists.{◌&◌}
use Rattle.klaim.specs.Rows.{split, comma, newline, at}

-- the piece of s that begins at `from`, and where it ends
abbrev pub piece_at : ℕ → List ℕ → ℕ → List ℕ
piece_at b s from = at (split b (drop from s)) 0

abbrev pub end_of : ℕ → List ℕ → ℕ → ℕ
end_of b s from = from + length (piece_at b s from)

-- where field k begins: behind the fields before it, each with its comma
unfoldable pub edge : List (List ℕ) → ℕ → ℕ
edge fs zero = 0
edge fs (suc k) = edge fs k + length (at fs k) + 1

-- no row form has more than 9 fields: where each begins, and one past the end of the last
abbrev pub edge_limit : ℕ
edge_limit = 10

-- a row of n fields, and the edges of its first 9
pub record Cut (row edges : List ℕ) (n : ℕ) : Type 0 where
  pub count : n ≡ length (split comma row)
  pub long : length edges ≡ edge_limit
  pub edge_at : (k : ℕ) → k ≤ n → k < edge_limit → get_or edges k 0 ≡ edge (split comma row) k

-- the field that begins at `from` ends at r, by its comma or with its row
pub record Mark (s : List ℕ) (from r : ℕ) : Type 0 where
  pub low : from ≤ r
  pub row : end_of newline s from ≡ end_of newline s r
  pub field : end_of comma s from ≡ end_of comma s r
  pub stop : (end_of comma s r ≡ r) ⊎ (end_of newline s r ≡ r)

unfoldable pub comma_at : List ℕ → ℕ → Bool
comma_at s i = ltb i (length s) & eqb (get_or s i 0) comma
