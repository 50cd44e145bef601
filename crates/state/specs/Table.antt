-- The table of tuples behind a step, entry by entry.
-- Assumes nothing.
use Rattle.std.specs.Prelude.{◌≡◌, ℕ, ◌+◌, ◌<◌, ◌≤◌, get_or}
use Rattle.tables.specs.Entries.{Removed}
use Rattle.tables.specs.View.{Tuples, no_tuple}

-- the table behind a step: m is the tuple that may have been taken out
pub record TableAfter (old : Tuples) (m : ℕ) (new : Tuples) : Type 0 where
  -- as many: every entry is as it was
  pub same : new.count ≡ old.count → new.items ≡ old.items
  -- one more: the entries before it, and what lies behind it, are as they were
  pub before : new.count ≡ old.count + 1 → (j : ℕ) → j < old.count → get_or new.items j no_tuple ≡ get_or old.items j no_tuple
  pub behind : new.count ≡ old.count + 1 → (j : ℕ) → new.count ≤ j → get_or new.items j no_tuple ≡ get_or old.items j no_tuple
  -- tuple m taken out: those behind it have moved up; those before it, and what lies behind the last, are as they were
  pub taken : old.count ≡ new.count + 1 → Removed m old new
