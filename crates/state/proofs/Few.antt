-- How much a state with the invariant holds.
-- Assumes nothing.
use mathlib.Core.Path.{◌≡◌}
use Prim.Native.Nat.{◌≤◌}
use native.Mathlib.Omega.{arith}
use lib.ListN.{length}
use Rattle.tables.proofs.LineTable.{lines_long}
use Rattle.threads.proofs.Laws.{threads_long}
use Rattle.state.specs.declared.State.{State}
use Rattle.state.specs.View.{state_view}
use Rattle.state.specs.Fits.{Fits}

pub sites_few : {st : State} → Fits st → st.net.size ≤ 32
unfolding state_view
sites_few f = f.invariant.sites_few

-- the net's lines are among the lines
pub own_few : {st : State} → Fits st → st.net.lines.count ≤ st.lines.count
unfolding state_view
own_few {st} f = omega (arith, lines_long st.net.lines, lines_long st.lines, f.invariant.own_lines)

pub threads_count : (st : State) → length (state_view st).threads ≡ st.threads.count
unfolding state_view
threads_count st = threads_long st.threads
