-- What a start comes to.
-- Assumes nothing.
use Rattle.std.specs.Prelude.{◌≡◌, List, ℕ, ◌<◌, IfOk, Result}
use Rattle.klaim.specs.Reader.{gives}
use Rattle.klaim.specs.Refusals.{answer_of}
use Rattle.klaim.specs.State as Spec
use Rattle.klaim.specs.Engine.{silent}
use Rattle.klaim.specs.declared.Refusal.{Refusal}
use Rattle.tables.specs.View.{Roots, root_at}
use Rattle.state.specs.declared.State.{State}
use Rattle.state.specs.View.{state_view, answer_view}
use Rattle.state.specs.Fits.{FitsNet}

-- the engine began: the state or the refusal is that of document 01, and a state has the invariant, its first lines are the net's, and it
-- says of the call behind it that this was silent
pub record Started (net estimate : List ℕ) (begun : Result State Refusal) : Type 0 where
  pub result : answer_of state_view begun ≡ Spec.start net estimate
  pub fits : IfOk begun FitsNet
  pub told : IfOk begun (λ st. answer_view st.told ≡ gives silent)

-- each of the roots stands at one of 32 sites
pub record RootsPlaced (roots : Roots) : Type 0 where
  pub placed : (i : ℕ) → i < roots.count → (root_at roots i).site < 32
