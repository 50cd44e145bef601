-- What a step promises, and what it finds of a move before it is made.
-- Assumes nothing.
use Rattle.std.specs.Prelude.{◌≡◌, Option, None, Some, Bool, true, not, ℕ, ◌<◌, ◌≤◌, leb, length, get_or}
use Rattle.std.specs.Prelude as Prelude
use Rattle.sets.specs.Lists.{◌&◌, either}
use Rattle.klaim.specs.Limits.{thread_limit, tuple_limit}
use Rattle.klaim.specs.Net.{Net}
use Rattle.klaim.specs.Reader.{gives}
use Rattle.klaim.specs.Refusals.{number_of}
use Rattle.klaim.specs.declared.Reason.{Reason}
use Rattle.klaim.specs.State as Spec
use Rattle.klaim.specs.Engine as Engine
use Rattle.threads.specs.View.{no_thread}
use Rattle.state.specs.declared.State.{State}
use Rattle.state.specs.View.{state_view, answer_view, result_view, gone_on}
use Rattle.state.specs.Fits.{Fits}
use Rattle.plan.specs.declared.Use.{Use}
use Rattle.plan.specs.declared.Move.{Move}
use Rattle.plan.specs.Move.{IsChange, state_after}

-- what a step of a thread at site s answers, by what it uses: "'silent' .. its site, target and right"
abbrev pub event_of : ℕ → Option Use → Engine.Event
event_of s None = Engine.silent
event_of s (Some u) = Engine.performed s u.target u.right

-- 26: "Guarded steps need the right ..; bare ones need neither"
abbrev pub may : Bool → Net → Spec.Thread → Option Use → Bool
may guarded N th None = true
may guarded N th (Some u) = either (not guarded) (Engine.permits N th u.target u.right)

-- 27: "lists after the step would exceed 64 or 256"
abbrev pub room : Spec.State → Bool
room st = leb (length st.threads) thread_limit & leb (length st.tuples) tuple_limit

-- thread k of a state can make this move: the tuple that it takes is one of them, and the lists have room
pub record Movable (st : State) (k m : ℕ) (v : Move) : Type 0 where
  pub present : k < st.threads.count
  pub change : IsChange m st.tuples.count v.change
  pub threads_few : length (state_after (state_view st) k m v).threads ≤ thread_limit
  pub tuples_few : length (state_after (state_view st) k m v).tuples ≤ tuple_limit

-- the site of thread k
abbrev pub site_at : State → ℕ → ℕ
site_at st k = (get_or st.threads.items k no_thread).site.0

-- a step that no test refuses makes this move
pub record Allowed (guarded : Bool) (st : State) (k m r : ℕ) (v : Move) : Type 0 where
  pub movable : Movable st k m v
  pub result : Engine.step guarded (state_view st) k m r ≡ record { answer = gives (event_of (site_at st k) v.uses); state = state_after (state_view st) k m v }

-- what a step comes to by all its tests
abbrev pub Decided : Bool → State → ℕ → ℕ → ℕ → Prelude.Result Move Reason → Type 0
Decided guarded st k m r (Prelude.Ok v) = Allowed guarded st k m r v
Decided guarded st k m r (Prelude.Err why) = Engine.step guarded (state_view st) k m r ≡ Engine.refuse (number_of why) 0 (state_view st)

-- the move is made, and nothing else
pub record Performed (st : State) (k m : ℕ) (v : Move) (next : State) : Type 0 where
  pub kept : next ≡ gone_on st next.tuples next.threads next.told
  pub state : state_view next ≡ state_after (state_view st) k m v
  pub answer : answer_view next.told ≡ gives (event_of (site_at st k) v.uses)

-- a step was made: the answer and the state are those of document 01, and the invariant is kept
pub record Stepped (guarded : Bool) (st : State) (k m r : ℕ) (next : State) : Type 0 where
  pub result : result_view next ≡ Engine.step guarded (state_view st) k m r
  pub fits : Fits next
