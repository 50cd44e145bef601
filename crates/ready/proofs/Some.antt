-- Whether one of the entries of a table passes a test, as a chain over them or over their places answers it.
-- Assumes nothing.
use mathlib.Core.Path.{◌≡◌, refl, ap, ◌∙◌}
use mathlib.Core.Bool.{Bool, true, false, ◌||◌}
use mathlib.Core.List.{List, [], ◌∷◌, map}
use Prim.Native.Nat.{ℕ, zero, suc, ◌+◌}
use native.Mathlib.Omega.{arith}
use lib.ListN.{get_or}
use Rattle.std.specs.List.{list_any, range_with_len}
use Rattle.sets.specs.Lists.{either, any, table, table_from}
use Rattle.sets.proofs.Tables.{list_table, map_table}
use Rattle.tables.specs.declared.table.Table.{Table}
use Rattle.tables.specs.Entries.{entries}

either_as : (a b : Bool) → (a || b) ≡ either a b
unfolding either
either_as true b = refl
either_as false b = refl

module _ {A B : Type 0} (f : B → Bool) where
  any_map : (v : A → B) (xs : List A) → list_any (λ x. f (v x)) xs ≡ any f (map v xs)
  unfolding any
  any_map v [] = refl
  any_map v (x ∷ xs) = either_as (f (v x)) _ ∙ ap (either (f (v x))) (any_map v xs)

  pub any_entries : {N : ℕ} (v : A → B) (d : A) (t : Table A N) → list_any (λ x. f (v x)) (entries t) ≡ any f (table t.count (λ k. v (get_or t.items k d)))
  any_entries v d t =
      any_map v (entries t)
      ∙ ap (λ (xs : List A). any f (map v xs)) (list_table d t.count t.items (omega (arith, t.few, t.long)))
      ∙ ap (any f) (map_table v t.count (λ k. get_or t.items k d))

module _ {B : Type 0} (f : B → Bool) (g : ℕ → B) where
  any_from : (n i : ℕ) → list_any (λ k. f (g k)) (range_with_len i n) ≡ any f (table_from n i g)
  unfolding any table_from
  any_from zero i = refl
  any_from (suc n) i = either_as (f (g i)) _ ∙ ap (either (f (g i))) (any_from n (i + 1) ∙ ap (λ (j : ℕ). any f (table_from n j g)) (omega arith))

  pub any_places : (n : ℕ) → list_any (λ k. f (g k)) (range_with_len 0 n) ≡ any f (table n g)
  unfolding table
  any_places n = any_from n 0
