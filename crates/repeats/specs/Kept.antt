-- The rows above the one that is read.
-- Assumes nothing.
use Rattle.std.specs.Prelude.{◌≡◌, Bool, true, List, [], ◌∷◌, map, ℕ, ◌+◌, ◌*◌, eqb, replicate}
use Rattle.sets.specs.Lists.{◌&◌}
use Rattle.klaim.specs.Limits.{boxes_size}
use Rattle.klaim.specs.Rows.{Row}
use Rattle.klaim.specs.Net.{Root}
use Rattle.klaim.specs.Reader.{in_limits, of_group}
use Rattle.text.specs.Fields.{unsaid}
use Rattle.tables.specs.declared.table.Table.{Table}
use Rattle.tables.specs.Entries.{entries}
use Rattle.forms.specs.declared.rows.Row as Form
use Rattle.forms.specs.Forms.{row_data}

-- a row that stands above: it was of good form and within limits
pub record Kept (r : Row) : Type 0 where
  pub row : Form.Row
  pub is : row_data row ≡ r
  pub low : in_limits r ≡ true

-- the sandboxes' table with no row put into it: no place says rights
abbrev pub unsaid_boxes : List ℕ
unsaid_boxes = replicate boxes_size unsaid

-- the root is line q at site s
unfoldable pub root_same : ℕ → ℕ → Root → Bool
root_same s q x = eqb x.site s & eqb x.line q

-- the sites of a tuple as one number, 5 bits each, 1 behind them
unfoldable pub tuple_key : List ℕ → ℕ
tuple_key [] = 1
tuple_key (x ∷ xs) = x + 32 * tuple_key xs

-- the keys of the tuples of a group above
abbrev pub Keys : Type 0
Keys = Table ℕ 256

pub record KeysAre (g : ℕ) (above : List Row) (keys : Keys) : Type 0 where
  pub is : entries keys ≡ map (λ r. tuple_key r.sites) (of_group g above)
