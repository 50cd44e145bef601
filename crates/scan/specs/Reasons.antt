-- Why a row is refused, if it is.
-- Assumes nothing.
use Rattle.std.specs.Prelude.{◌≡◌, Bool, true, false, not, cond, List, ℕ, Result, Ok, Err}
use Rattle.std.proofs.Math.Option.{Option, none, some}
use Rattle.sets.specs.Lists.{◌&◌, either}
use Rattle.klaim.specs.Process.{template, clash}
use Rattle.klaim.specs.Rows.{Row}
use Rattle.klaim.specs.Reader.{Text, in_limits, headed, own, in_order, absent, Judged, bad, good}
use Rattle.klaim.specs.Refusals.{number_of}
use Rattle.klaim.specs.declared.Reason.{Reason}
use Rattle.klaim.specs.declared.Reason.TheVariants.{Form, Limit, Place, Site, Clash}

-- let through, or refused
abbrev pub Judging : Type 0
Judging = Result (Unit {0}) Reason

-- 2, and of 3 all but repeats
abbrev pub limited_of : Bool → Bool → Bool → Judging
limited_of low full placed = cond (either (not low) full) (Err Limit) (cond placed (Ok tt) (Err Place))

-- 1, and the same of a row that has a form
abbrev pub early_of : Option Row → Bool → Bool → Judging
early_of none full placed = Err Form
early_of (some r) full placed = limited_of (in_limits r) full placed

-- 3, but for repeats: a net's first row N, no foreign row, groups in order
abbrev pub fitting : Text → List Row → Row → Bool
fitting t above r = headed t above r & own t r.group & in_order above r

-- a row that 2 and the order let through
pub record Passed (r : Row) (full fits : Bool) : Type 0 where
  pub low : in_limits r ≡ true
  pub room : full ≡ false
  pub placed : fits ≡ true

-- 4 and 7
abbrev pub late_of : ℕ → Row → Judging
late_of n r = cond (absent n r) (Err Site) (cond (clash (template r.process)) (Err Clash) (Ok tt))

-- in their order, with repeats
abbrev pub judging_of : Judging → Bool → Judging → Judging
judging_of (Ok x) repeated late = cond repeated (Err Place) late
judging_of (Err why) repeated late = Err why

-- what it says of a row
abbrev pub judged_by : Judging → Row → Judged
judged_by (Ok x) r = good r
judged_by (Err why) r = bad (number_of why)
