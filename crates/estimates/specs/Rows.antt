-- What a reader of an estimate keeps of the rows above.
-- Assumes nothing.
use Rattle.std.specs.Prelude.{◌≡◌, Bool, true, List, map, ℕ, eqb, leb}
use Rattle.sets.specs.Lists.{All, ◌&◌}
use Rattle.klaim.specs.Limits.{tuple_limit}
use Rattle.klaim.specs.Rows.{Row, group_b, group_a, group_e}
use Rattle.klaim.specs.Reader.{Text, an_estimate, of_group, own, in_order}
use Rattle.tables.specs.View.{tuples_of}
use Rattle.stores.specs.Sets.{pairs_of, bounds_of}
use Rattle.scan.specs.declared.Tally.{Tally}
use Rattle.scan.specs.Tallies.{last_number}
use Rattle.repeats.specs.Kept.{Kept, KeysAre}
use Rattle.estimates.specs.declared.reading.EstimateReader.{EstimateReader}

-- the tables hold the rows above
pub record EstimateTables (above : List Row) (r : EstimateReader) : Type 0 where
  pub binds_is : r.binds ≡ bounds_of above
  pub stand_is : tuples_of r.stand ≡ map (λ r. r.sites) (of_group group_a above)
  pub hold_is : r.hold ≡ pairs_of group_e above
  pub keys_are : KeysAre group_a above r.keys

-- the tally of the rows above, n given
pub record EstimateTally (n : ℕ) (above : List Row) (t : Tally) : Type 0 where
  pub kept : All Kept above
  pub owned : All (λ r. own (an_estimate n) r.group ≡ true) above
  pub order : (r : Row) → in_order above r ≡ leb (last_number t.last) r.group
  pub size_is : t.size ≡ n

-- the rows above, of an estimate for the n that was given, are held
pub record EstimateHolds (t : Text) (above : List Row) (r : EstimateReader) : Type 0 where
  pub n : ℕ
  pub text : t ≡ an_estimate n
  pub tables : EstimateTables above r
  pub counts : EstimateTally n above r.tally

-- 2: "row count over its limit"
unfoldable pub full_of : ℕ → EstimateReader → Bool
full_of g r = eqb g group_a & leb tuple_limit r.stand.count

-- 3, but for repeats: no foreign row, groups in order
unfoldable pub placed_of : ℕ → Tally → Bool
placed_of g t = leb group_b g & leb (last_number t.last) g
