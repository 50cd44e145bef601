-- What roots and lines must meet for the report, and one row of it.
-- Assumes nothing.
use Rattle.std.specs.Prelude.{◌≡◌, true, List, ℕ, ◌+◌, ◌*◌, ◌<◌, ◌≤◌, length, get_or}
use Rattle.sets.specs.Bits.{mem, join, grant}
use Rattle.klaim.specs.Process.{ordered}
use Rattle.tables.specs.View.{Lines, Roots, lines_of, root_at}

-- roots over lines: each at a site, on a line
pub record Rooted (ls : Lines) (rs : Roots) : Type 0 where
  pub in_order : ordered (lines_of ls) ≡ true
  pub placed : (i : ℕ) → i < rs.count → (root_at rs i).site < 32
  pub present : (i : ℕ) → i < rs.count → (root_at rs i).line < ls.count

-- a subject's row of the report with the rights added, if the subject is in the set; every other byte kept
pub record RowAdded (set subject : ℕ) (rights old new : List ℕ) : Type 0 where
  pub long : length new ≡ length old
  pub row : (t : ℕ) → t < 32 → get_or new (32 * subject + t) 0 ≡ join (get_or old (32 * subject + t) 0) (grant (mem subject set) (get_or rights t 0))
  pub above : (k : ℕ) → k < 32 * subject → get_or new k 0 ≡ get_or old k 0
  pub behind : (k : ℕ) → 32 * subject + 32 ≤ k → get_or new k 0 ≡ get_or old k 0
