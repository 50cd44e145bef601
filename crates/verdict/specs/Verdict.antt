-- The code's verdict as the definitions have it, and what is judged.
-- Assumes nothing.
use Rattle.std.specs.Prelude.{◌≡◌, true}
use Rattle.sets.specs.Lists.{all}
use Rattle.klaim.specs.Analysis as Spec
use Rattle.klaim.specs.Invariant.{all_below}
use Rattle.rules.specs.Masks.{Sized}
use Rattle.report.specs.Given.{Rooted}
use Rattle.tables.specs.declared.Net.{Net}
use Rattle.tables.specs.declared.Estimate.{Estimate}
use Rattle.tables.specs.View.{tuples_of}
use Rattle.verdict.specs.declared.Verdict.{Verdict}
use Rattle.verdict.specs.declared.Verdict.TheVariants.{Accepted, BrokenTuple, BrokenLine}

-- the answer's cases
unfoldable pub verdict_view : Verdict → Spec.Verdict
verdict_view Accepted = Spec.accepted
verdict_view (BrokenTuple i) = Spec.broken_t i
verdict_view (BrokenLine q) = Spec.broken_q q

-- what the reader leaves of a net and an estimate that are judged
pub record Judgeable (N : Net) (E : Estimate) : Type 0 where
  pub tuples_low : all (all_below 32) (tuples_of N.tuples) ≡ true
  pub rooted : Rooted N.lines N.roots
  pub sized : Sized E.stand
