-- What a reader of an arrival keeps of the rows above.
-- Assumes nothing.
use Rattle.std.specs.Prelude.{◌≡◌, Bool, true, List, ℕ, ◌+◌, eqb, leb, length}
use Rattle.sets.specs.Lists.{All, ◌&◌, below, same}
use Rattle.klaim.specs.Limits.{line_limit}
use Rattle.klaim.specs.Rows.{Row, group_q}
use Rattle.klaim.specs.Reader.{Text, an_arrival, own, numbers_of, lines_of}
use Rattle.tables.specs.View as View
use Rattle.tables.specs.View.{Lines}
use Rattle.scan.specs.declared.Tally.{Tally}
use Rattle.arrivals.specs.declared.reading.ArrivalReader.{ArrivalReader}

-- the table of lines and the tally of the rows above; n and d, the number of present lines, are given
pub record ArrivalTally (n d : ℕ) (above : List Row) (t : Tally) (lines : Lines) : Type 0 where
  pub owned : All (λ r. own (an_arrival n d) r.group ≡ true) above
  pub lines_is : View.lines_of lines ≡ lines_of above
  pub turn : same (numbers_of above) (below (length (lines_of above))) ≡ t.turn
  pub size_is : t.size ≡ n

-- the rows above, of an arrival behind the lines that are present, are held
pub record ArrivalHolds (t : Text) (above : List Row) (r : ArrivalReader) : Type 0 where
  pub n : ℕ
  pub text : t ≡ an_arrival n r.present
  pub counts : ArrivalTally n r.present above r.tally r.lines

-- 2: "also past 256 lines in all"
unfoldable pub full_of : ℕ → ArrivalReader → Bool
full_of g r = eqb g group_q & leb line_limit (r.present + r.lines.count)
