-- What a reader of a net keeps of the rows above.
-- Assumes nothing.
use Rattle.std.specs.Prelude.{◌≡◌, Bool, true, cond, List, map, ℕ, eqb, leb, length}
use Rattle.sets.specs.Lists.{All, ◌&◌, imp, below, empty, same}
use Rattle.klaim.specs.Limits.{tuple_limit, thread_limit, line_limit}
use Rattle.klaim.specs.Rows.{Row, group_n, group_r, group_t, group_l, group_q}
use Rattle.klaim.specs.Reader.{Text, a_net, of_group, own, in_order, size_of, root_of, numbers_of, lines_of}
use Rattle.tables.specs.View as View
use Rattle.tables.specs.View.{tuples_of, roots_of}
use Rattle.stores.specs.Sets.{pairs_of, boxes_of}
use Rattle.scan.specs.declared.Tally.{Tally}
use Rattle.scan.specs.Tallies.{last_number}
use Rattle.repeats.specs.Kept.{Kept, KeysAre, unsaid_boxes}
use Rattle.nets.specs.declared.reading.NetReader.{NetReader}

-- the tables hold the rows above
pub record NetTables (above : List Row) (r : NetReader) : Type 0 where
  pub homes_is : r.homes ≡ pairs_of group_r above
  pub boxes_is : r.boxes ≡ boxes_of unsaid_boxes above
  pub tuples_is : tuples_of r.tuples ≡ map (λ r. r.sites) (of_group group_t above)
  pub roots_is : roots_of r.roots ≡ map root_of (of_group group_l above)
  pub lines_is : View.lines_of r.lines ≡ lines_of above
  pub keys_are : KeysAre group_t above r.keys

-- the tally of the rows above
pub record NetTally (above : List Row) (t : Tally) : Type 0 where
  pub kept : All Kept above
  pub owned : All (λ r. own a_net r.group ≡ true) above
  pub size_is : size_of above ≡ t.size
  pub order : (r : Row) → in_order above r ≡ leb (last_number t.last) r.group
  pub turn : same (numbers_of above) (below (length (lines_of above))) ≡ t.turn
  pub first : empty above ≡ eqb (last_number t.last) 0

-- the rows above, of a net, are held
pub record NetHolds (t : Text) (above : List Row) (r : NetReader) : Type 0 where
  pub text : t ≡ a_net
  pub tables : NetTables above r
  pub counts : NetTally above r.tally

-- 2: "row count over its limit"
unfoldable pub full_of : ℕ → NetReader → Bool
full_of g r =
    cond (eqb g group_t) (leb tuple_limit r.tuples.count)
    (cond (eqb g group_l) (leb thread_limit r.roots.count)
    (eqb g group_q & leb line_limit r.lines.count))

-- 3, but for repeats: N first and once, no foreign row, groups in order
unfoldable pub placed_of : ℕ → Tally → Bool
placed_of g t = (imp (eqb (last_number t.last) 0) (eqb g group_n) & imp (eqb g group_n) (eqb (last_number t.last) 0)) & leb g group_q & leb (last_number t.last) g
