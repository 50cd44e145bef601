-- The invariant of the engine's state as the code has it.
-- Assumes nothing.
use Rattle.std.specs.Prelude.{◌≡◌, Bool, ℕ, ◌<◌, ◌≤◌, get_or, take}
use Rattle.sets.specs.Bits.{mem}
use Rattle.klaim.specs.Process.{tree}
use Rattle.klaim.specs.Invariant.{Invariant}
use Rattle.door.specs.Parts.{sound}
use Rattle.tables.specs.View.{lines_of}
use Rattle.state.specs.declared.State.{State}
use Rattle.state.specs.View.{no_arrival, arrival_root, state_view}

-- "all rules hold for its lines with place set l, .. and each of its eval lines adds nothing to a report": so it is with arrival i
unfoldable pub sound_at : State → ℕ → ℕ → Bool
sound_at st i l = sound (state_view st).net (state_view st).estimate l (tree (state_view st).lines (arrival_root st.arrivals i))

-- there are no more arrivals than lines, the set of each arrival has the sites at which it is sound, and what the state stands for has
-- the invariant
pub record Fits (st : State) : Type 0 where
  pub arrivals_few : st.arrivals.count ≤ st.lines.count
  pub sound_is : (i l : ℕ) → i < st.arrivals.count → l < st.net.size → mem l (get_or st.arrivals.items i no_arrival).sound ≡ sound_at st i l
  pub invariant : Invariant (state_view st)

-- a state with the invariant whose first lines are its net's: start gives such a state, and every call keeps it one
pub record FitsNet (st : State) : Type 0 where
  pub own_first : take st.net.lines.count (lines_of st.lines) ≡ lines_of st.net.lines
  pub fits : Fits st
