-- A bring undone by a withdrawal (No. 8). The theorem is in proofs/Undone.antt.
-- Assumes nothing.
use Rattle.std.specs.Prelude.{◌≡◌, List, ℕ}
use Rattle.klaim.specs.Reader.{gives}
use Rattle.klaim.specs.State.{State}
use Rattle.klaim.specs.Engine.{Event, brought, withdrawn, bring, withdraw}
use Rattle.klaim.specs.Invariant.{Invariant}

-- bring answered a root's line, a withdrawal directly behind it answers the same line, so that it is not refused, and it "leaves the state
-- equal to the one before"
pub record Undone (st : State) (bytes : List ℕ) : Type 0 where
  pub root : ℕ
  pub came : (bring st bytes).answer ≡ gives (brought root)
  pub went : (withdraw (bring st bytes).state).answer ≡ gives (withdrawn root)
  pub same : (withdraw (bring st bytes).state).state ≡ st

-- so it is with every "bring that was not refused"
abbrev pub Statement : Type 0
Statement = (st : State) (bytes : List ℕ) (e : Event) → Invariant st → (bring st bytes).answer ≡ gives e → Undone st bytes
