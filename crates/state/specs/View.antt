-- What the engine's state stands for, and what it says of the call behind it.
-- Assumes nothing.
use Rattle.std.specs.Prelude.{List, ℕ, get_or}
use Rattle.std.specs.Prelude as Prelude
use Rattle.sets.specs.Lists.{table}
use Rattle.klaim.specs.Reader.{Answer}
use Rattle.klaim.specs.Refusals.{answer_of}
use Rattle.klaim.specs.State as Spec
use Rattle.klaim.specs.Engine as Engine
use Rattle.klaim.specs.declared.Refusal.{Refusal}
use Rattle.tables.specs.declared.table.Table.{Table}
use Rattle.tables.specs.View.{Tuples, net_view, estimate_view, lines_of, tuples_of}
use Rattle.threads.specs.View.{Threads, threads_of}
use Rattle.state.specs.declared.Arrival.{Arrival}
use Rattle.state.specs.declared.Event.{Event}
use Rattle.state.specs.declared.Event.TheVariants.{Brought, Withdrawn, Silent, Performed}
use Rattle.state.specs.declared.State.{State}

abbrev pub Arrivals : Type 0
Arrivals = Table Arrival 256

-- what stands where the arrivals end
abbrev pub no_arrival : Arrival
no_arrival = record { root = 0; sound = 0 }

-- the root of arrival i, and the roots of all that stand in their table
abbrev pub arrival_root : Arrivals → ℕ → ℕ
arrival_root t i = (get_or t.items i no_arrival).root

unfoldable pub arrivals_of : Arrivals → List ℕ
arrivals_of t = table t.count (arrival_root t)

-- the state of document 01; what was told is no part of it
unfoldable pub state_view : State → Spec.State
state_view st = record {
  net = net_view st.net;
  estimate = estimate_view st.estimate;
  lines = lines_of st.lines;
  arrivals = arrivals_of st.arrivals;
  threads = threads_of st.threads;
  tuples = tuples_of st.tuples;
}

-- what a call that was not refused did
abbrev pub event_view : Event → Engine.Event
event_view (Brought q) = Engine.brought q
event_view (Withdrawn q) = Engine.withdrawn q
event_view Silent = Engine.silent
event_view (Performed s t right) = Engine.performed s t right

-- the answer of documents 01 and 02: "A refusal returns its number, and its row"
abbrev pub answer_view : Prelude.Result Event Refusal → Answer Engine.Event
answer_view told = answer_of event_view told

-- the answer, and the state behind the call
unfoldable pub result_view : State → Engine.Result
result_view st = record { answer = answer_view st.told; state = state_view st }

-- all that no step changes, other tuples and threads, and another answer
abbrev pub gone_on : State → Tuples → Threads → Prelude.Result Event Refusal → State
gone_on st tuples threads told = record {
  net = st.net;
  estimate = st.estimate;
  lines = st.lines;
  arrivals = st.arrivals;
  tuples = tuples;
  threads = threads;
  told = told;
}
