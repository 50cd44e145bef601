-- What a bring comes to.
-- Assumes nothing.
use Rattle.std.specs.Prelude.{◌≡◌, List, ℕ}
use Rattle.klaim.specs.Engine as Engine
use Rattle.state.specs.declared.State.{State}
use Rattle.state.specs.View.{state_view, result_view}
use Rattle.state.specs.Fits.{Fits}

-- an arrival was brought, or refused: the answer and the state are those of document 01, and the invariant is kept
pub record Brought (st : State) (rows : List ℕ) (next : State) : Type 0 where
  pub result : result_view next ≡ Engine.bring (state_view st) rows
  pub fits : Fits next
