-- Laws for a loop over the rows of a text.
-- Assumes nothing.
use mathlib.Core.Path.{◌≡◌, refl}
use mathlib.Core.List.{List, [], ◌∷◌}
use mathlib.Core.Option.{none}
use Prim.Native.Nat.{ℕ, ◌+◌, ◌≤◌, ◌<◌, ◌-◌}
use native.Mathlib.Nat.{not-suc-le-zero}
use native.Mathlib.Omega.{arith}
use lib.ListN.{length, take, drop, drop_of_length-le}
use lib.Seq.{drop-cons}
use Rattle.klaim.specs.Rows.{split, newline, row_of, rows_from}
use Rattle.text.specs.Pieces.{end_of}
use Rattle.text.proofs.Pieces.{some_piece, pieces_next, pieces_last}

-- a piece with others behind it is a row
row_first : (piece : List ℕ) (ps : List (List ℕ)) → 0 < length ps → rows_from (piece ∷ ps) ≡ row_of piece ∷ rows_from ps
unfolding rows_from
row_first piece [] h = absurd (not-suc-le-zero h)
row_first [] (p ∷ ps) h = refl
row_first (b ∷ piece) (p ∷ ps) h = refl

-- the rows from `from` on, where the first of them ends at e
module _ (s : List ℕ) (from e : ℕ) (q : e ≡ end_of newline s from) where
  pub rows_next : from ≤ length s → e < length s → rows_from (split newline (drop from s)) ≡ row_of (take (e - from) (drop from s)) ∷ rows_from (split newline (drop (e + 1) s))
  rows_next h m = rw (pieces_next newline s from h (rw q at m), q) (row_first (take (end_of newline s from - from) (drop from s)) (split newline (drop (end_of newline s from + 1) s)) (some_piece newline (drop (end_of newline s from + 1) s)))

  -- bytes left behind the last row
  pub rows_left_lem : from < length s → length s ≤ e → rows_from (split newline (drop from s)) ≡ none ∷ []
  unfolding rows_from
  rows_left_lem h m = rw (pieces_last newline s from (omega arith) (rw q at m), drop-cons s from 0)

pub rows_end : (s : List ℕ) (from : ℕ) → length s ≤ from → rows_from (split newline (drop from s)) ≡ []
unfolding rows_from split
rows_end s from h = rw drop_of_length-le
