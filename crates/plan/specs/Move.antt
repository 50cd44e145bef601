-- What a step comes to, as the code has it.
-- Assumes nothing.
use Rattle.std.specs.Prelude.{◌≡◌, true, false, Option, None, Some, List, [], ◌∷◌, ◌++◌, ℕ, ◌<◌, get_or}
use Rattle.std.specs.Prelude as Prelude
use Rattle.sets.specs.Bits.{mem}
use Rattle.sets.specs.Lists.{splice, among}
use Rattle.klaim.specs.Process.{Line, ordered}
use Rattle.klaim.specs.State as Spec
use Rattle.klaim.specs.Engine.{Plan, stop, quiet, act, after}
use Rattle.klaim.specs.Refusals.{number_of}
use Rattle.klaim.specs.declared.Reason.{Reason}
use Rattle.tables.specs.View.{tuple_view, lines_of}
use Rattle.threads.specs.View.{thread_view}
use Rattle.threads.specs.declared.Thread.{Thread}
use Rattle.state.specs.declared.State.{State}
use Rattle.state.specs.View.{Arrivals, no_arrival, arrival_root, arrivals_of}
use Rattle.state.specs.Fits.{sound_at}
use Rattle.plan.specs.declared.Use.{Use}
use Rattle.plan.specs.declared.Change.{Change}
use Rattle.plan.specs.declared.Change.TheVariants.{Kept, Appended, Taken}
use Rattle.plan.specs.declared.Move.{Move}

-- the tuples behind a step: all as they are, one appended, or tuple m taken out
abbrev pub tuples_after : List (List ℕ) → ℕ → Change → List (List ℕ)
tuples_after ts m Kept = ts
tuples_after ts m (Appended t) = ts ++ (tuple_view t ∷ [])
tuples_after ts m Taken = splice m [] ts

-- the thread that is added, settled
abbrev pub added_after : List Line → Option Thread → List Spec.Thread
added_after ls None = []
added_after ls (Some th) = Spec.settle ls (thread_view th)

-- the state behind a step
abbrev pub state_after : Spec.State → ℕ → ℕ → Move → Spec.State
state_after st k m v = after st k (thread_view v.thread) (added_after st.lines v.added) (tuples_after st.tuples m v.change)

-- a silent step, or one that uses a right
abbrev pub plan_by : Option Use → Spec.State → Plan
plan_by None new = quiet new
plan_by (Some u) new = act u.target u.right new

abbrev pub move_view : Spec.State → ℕ → ℕ → Move → Plan
move_view st k m v = plan_by v.uses (state_after st k m v)

-- what a step comes to by the tests before 26
abbrev pub plan_view : Spec.State → ℕ → ℕ → Prelude.Result Move Reason → Plan
plan_view st k m (Prelude.Ok v) = move_view st k m v
plan_view st k m (Prelude.Err why) = stop (number_of why)

-- what is used is a right
abbrev pub IsUse : Option Use → Type 0
IsUse None = Unit {0}
IsUse (Some u) = 0 < u.right

-- of n tuples m can be taken out
abbrev pub IsChange : ℕ → ℕ → Change → Type 0
IsChange m n Kept = Unit {0}
IsChange m n (Appended t) = Unit {0}
IsChange m n Taken = m < n

pub record Possible (m n : ℕ) (v : Move) : Type 0 where
  pub uses : IsUse v.uses
  pub change : IsChange m n v.change

-- where root r stands among the roots of the arrivals
abbrev pub Placed : Arrivals → ℕ → Option ℕ → Type 0
Placed t r None = among (arrivals_of t) r ≡ false
Placed t r (Some i) = (i < t.count) × (arrival_root t i ≡ r) × (among (arrivals_of t) r ≡ true)

-- the lines are in order, and the roots of the arrivals are lines
pub record Admits (st : State) : Type 0 where
  pub in_order : ordered (lines_of st.lines) ≡ true
  pub roots_present : (i : ℕ) → i < st.arrivals.count → arrival_root st.arrivals i < st.lines.count

-- the set of each arrival says whether it is sound at site l
abbrev pub SoundAt : State → ℕ → Type 0
SoundAt st l = (i : ℕ) → i < st.arrivals.count → mem l (get_or st.arrivals.items i no_arrival).sound ≡ sound_at st i l

-- and a thread that can act
pub record Plannable (st : State) (th : Thread) : Type 0 where
  pub admits : Admits st
  pub present : th.line < st.lines.count
  pub placed : th.site.0 < 32
