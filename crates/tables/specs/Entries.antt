-- The entries of a table.
-- Assumes nothing.
use Rattle.std.specs.Prelude.{◌≡◌, List, ℕ, suc, ◌+◌, ◌<◌, ◌≤◌, get_or, take}
use Rattle.tables.specs.declared.table.Table.{Table}

-- the entries that stand in a table
abbrev pub entries : {T : Type 0} {N : ℕ} → Table T N → List T
entries t = take t.count t.items

-- entry k is taken out: those behind it have moved up; those before it, and what lies behind the last, are as they were
pub record Removed {T : Type 0} {N : ℕ} (k : ℕ) (old new : Table T N) : Type 0 where
  pub count : new.count + 1 ≡ old.count
  pub before : (j : ℕ) (d : T) → j < k → get_or new.items j d ≡ get_or old.items j d
  pub moved : (j : ℕ) (d : T) → k ≤ j → j < new.count → get_or new.items j d ≡ get_or old.items (suc j) d
  pub behind : (j : ℕ) (d : T) → new.count ≤ j → get_or new.items j d ≡ get_or old.items j d
