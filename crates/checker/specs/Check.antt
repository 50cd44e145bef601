-- What check answers, and what it goes by.
-- Assumes nothing.
use Rattle.std.specs.Prelude.{◌≡◌, List, ℕ, Result}
use Rattle.klaim.specs.Check.{check}
use Rattle.klaim.specs.Refusals.{answer_of}
use Rattle.klaim.specs.WellFormed.{NetOk, EstimateOk}
use Rattle.klaim.specs.declared.Refusal.{Refusal}
use Rattle.verdict.specs.declared.Verdict.{Verdict}
use Rattle.verdict.specs.Verdict.{verdict_view}
use Rattle.worlds.specs.declared.World.{World}
use Rattle.worlds.specs.World.{world_view}

-- check was called: the answer, and the lent buffer behind the call, are those of document 01
pub record Checks (net estimate before : List ℕ) (a : Result Verdict Refusal) (after : List ℕ) : Type 0 where
  pub answer : answer_of verdict_view a ≡ (check net estimate before).answer
  pub buffer : after ≡ (check net estimate before).buffer

-- what was read is well-formed
pub record WellFormed (w : World) : Type 0 where
  pub net : NetOk (world_view w).net
  pub estimate : EstimateOk (world_view w).net.size (world_view w).estimate
