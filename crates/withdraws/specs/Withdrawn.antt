-- What a withdrawal comes to.
-- Assumes nothing.
use Rattle.std.specs.Prelude.{◌≡◌}
use Rattle.klaim.specs.Engine as Engine
use Rattle.state.specs.declared.State.{State}
use Rattle.state.specs.View.{state_view, result_view}
use Rattle.state.specs.Fits.{Fits}

-- the newest arrival was withdrawn, or that was refused: the answer and the state are those of the definitions, and the invariant is kept
pub record Withdrawn (st next : State) : Type 0 where
  pub result : result_view next ≡ Engine.withdraw (state_view st)
  pub fits : Fits next
