-- Laws of the tuples in their table: the one at a place, one more, one taken out.
-- Assumes nothing.
use mathlib.Core.Path.{◌≡◌, ap, ◌∙◌}
use mathlib.Core.List.{List, [], ◌∷◌, ◌++◌}
use mathlib.Core.Option.{none, some}
use Prim.Native.Nat.{ℕ, ◌+◌, ◌<◌, ◌≤◌}
use native.Mathlib.Omega.{arith}
use lib.ListN.{length, get_elem?, set}
use Rattle.sets.specs.Lists.{splice}
use Rattle.sets.proofs.Splice.{get_some, get_none}
use Rattle.sets.proofs.Tables.{get_or_table, length_table}
use Rattle.tables.specs.declared.Tuple.{Tuple}
use Rattle.tables.specs.Entries.{Removed}
use Rattle.tables.specs.View.{Tuples, no_tuple, tuple_view, row_at, tuples_of}
use Rattle.tables.proofs.Entries.{pushed, removed}

-- how many tuples, and the one at place k
pub rows_long : (ts : Tuples) → length (tuples_of ts) ≡ ts.count
unfolding tuples_of
rows_long ts = length_table ts.count (row_at ts)

pub row_some : (ts : Tuples) (k : ℕ) → k < ts.count → get_elem? (tuples_of ts) k ≡ some (row_at ts k)
unfolding tuples_of
row_some ts k h = get_some [] (tuples_of ts) k (omega (arith, h, rows_long ts)) ∙ ap (λ (r : List ℕ). some r) (get_or_table ts.count (row_at ts) k [] h)

pub row_none : (ts : Tuples) (k : ℕ) → ts.count ≤ k → get_elem? (tuples_of ts) k ≡ none
row_none ts k h = get_none (tuples_of ts) k (omega (arith, rows_long ts))

-- one more, and one taken out
module _ (old new : Tuples) where
  pub tuple_pushed : (t : Tuple) → old.count < 256 → new.items ≡ set old.items old.count t → new.count ≡ old.count + 1 →
      tuples_of new ≡ tuples_of old ++ (tuple_view t ∷ [])
  unfolding tuples_of row_at
  tuple_pushed t = pushed tuple_view no_tuple old new t

  pub tuple_removed : (k : ℕ) → k < old.count → Removed k old new → tuples_of new ≡ splice k [] (tuples_of old)
  unfolding tuples_of row_at
  tuple_removed k = removed tuple_view no_tuple old new k
