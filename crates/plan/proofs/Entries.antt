-- The entries of a table lent as a slice.
-- Assumes nothing.
use mathlib.Core.Path.{◌≡◌, ap, ◌∙◌}
use mathlib.Core.List.{List}
use Prim.Native.Nat.{ℕ, ◌<◌}
use native.Mathlib.Omega.{arith}
use lib.ListN.{length, get_or}
use lib.Seq.{length-take-le, get_or-take}
use Rattle.std.proofs.lemmas.List.{get_or_default}
use Rattle.tables.specs.declared.table.Table.{Table}
use Rattle.tables.specs.Entries.{entries}

module _ {A : Type 0} {N : ℕ} (t : Table A N) where
  pub entries_long : length (entries t) ≡ t.count
  entries_long = length-take-le t.count t.items (omega (arith, t.few, t.long))

  pub entry_at : (k : ℕ) (d : A) → k < t.count → get_or (entries t) k d ≡ get_or t.items k d
  entry_at k d h = get_or-take t.count t.items k d h

  -- what a slice of them gives at a place
  pub entry_read : (k : ℕ) (z d : A) {s : List A} {x : A} → s ≡ entries t → k < t.count → x ≡ get_or s k z → x ≡ get_or t.items k d
  entry_read k z d p h e = e ∙ ap (λ (s : List A). get_or s k z) p ∙ entry_at k z h ∙ get_or_default t.items k z d (omega (arith, h, t.few, t.long))
