-- What the state's invariant gives of its arrivals and of a thread.
-- Assumes nothing.
use mathlib.Core.Path.{◌≡◌, sym, ap, ◌∙◌}
use mathlib.Core.Bool.{Bool, true, false}
use mathlib.Core.Option.{some}
use Prim.Native.Nat.{ℕ, ◌<◌}
use native.Mathlib.Omega.{arith}
use lib.ListN.{get_or, get_elem?}
use Rattle.sets.specs.Bits.{mem}
use Rattle.sets.proofs.Lists.{All-in, All-get}
use Rattle.sets.proofs.Tables.{table_in}
use Rattle.klaim.specs.Invariant.{ThreadOk}
use Rattle.klaim.specs.Process.{line_at, tree}
use Rattle.klaim.specs.Report.{door}
use Rattle.klaim.specs.Engine.{Plan, plan}
use Rattle.door.specs.Parts.{uses_fit}
use Rattle.door.proofs.Laws.{door_parts}
use Rattle.tables.specs.declared.Action.{Action}
use Rattle.tables.specs.View.{lines_of, action_line, InForm, ActionAt}
use Rattle.tables.proofs.LineTable.{lines_long, line_at_lem}
use Rattle.threads.specs.View.{no_thread, thread_view}
use Rattle.threads.specs.declared.Thread.{Thread}
use Rattle.threads.proofs.Laws.{thread_some}
use Rattle.state.specs.declared.State.{State}
use Rattle.state.specs.View.{no_arrival, arrival_root, arrivals_of, state_view}
use Rattle.state.specs.Fits.{sound_at, Fits}
use Rattle.state.proofs.Few.{sites_few}
use Rattle.plan.specs.Move.{Admits, SoundAt, Plannable}
use Rattle.plan.proofs.Laws.{fits_sound, not_sound}

module _ {st : State} (f : Fits st) where
  -- the root at a place is a line
  root_present : (i : ℕ) → i < st.arrivals.count → arrival_root st.arrivals i < st.lines.count
  unfolding state_view arrivals_of
  root_present i h = omega (arith, (All-in f.invariant.arrivals_ok (table_in st.arrivals.count (arrival_root st.arrivals) i h)).present, lines_long st.lines)

  pub admits : Admits st
  unfolding state_view
  admits = record { in_order = f.invariant.lines_ordered; roots_present = root_present }

  pub sound_here : (l : ℕ) → l < st.net.size → SoundAt st l
  sound_here l k i h = f.sound_is i l h k

  -- thread k can act
  module _ (k : ℕ) (h : k < st.threads.count) where
    pub thread_here : get_elem? (state_view st).threads k ≡ some (thread_view (get_or st.threads.items k no_thread))
    unfolding state_view
    thread_here = thread_some st.threads k h

    thread_ok : ThreadOk st.net.size (lines_of st.lines) (thread_view (get_or st.threads.items k no_thread))
    unfolding state_view
    thread_ok = All-get k f.invariant.threads_ok thread_here

    pub plannable : Plannable st (get_or st.threads.items k no_thread)
    plannable = record { admits = admits; present = omega (arith, thread_ok.present, lines_long st.lines); placed = omega (arith, thread_ok.placed, sites_few f) }

    pub thread_sound : SoundAt st (get_or st.threads.items k no_thread).site.0
    thread_sound = sound_here _ thread_ok.placed

-- the root of an arrival, as a line
pub root_form : {st : State} → Admits st → (i : ℕ) → i < st.arrivals.count → InForm st.lines (arrival_root st.arrivals i)
root_form a i h = record { in_order = a.in_order; present = a.roots_present i h }

-- the tests of the door, as the code makes them
module _ (st : State) (l d : ℕ) (s : SoundAt st l) (i : ℕ) (h : i < st.arrivals.count) {m : Bool} (e : m ≡ mem l (get_or st.arrivals.items i no_arrival).sound) where
  pub arrival_sound : m ≡ true → {p : Bool} → p ≡ uses_fit (state_view st).net (state_view st).estimate d l (tree (state_view st).lines (arrival_root st.arrivals i)) → p ≡ door (state_view st).net (state_view st).estimate d l (tree (state_view st).lines (arrival_root st.arrivals i))
  unfolding sound_at
  arrival_sound t u =
      u ∙ fits_sound _ _ (sym (s i h) ∙ sym e ∙ t) ∙ door_parts (state_view st).net (state_view st).estimate d l (tree (state_view st).lines (arrival_root st.arrivals i))

  pub arrival_unsound : m ≡ false → false ≡ door (state_view st).net (state_view st).estimate d l (tree (state_view st).lines (arrival_root st.arrivals i))
  unfolding sound_at
  arrival_unsound t =
      not_sound _ _ (sym (s i h) ∙ sym e ∙ t) ∙ door_parts (state_view st).net (state_view st).estimate d l (tree (state_view st).lines (arrival_root st.arrivals i))

-- the line that a thread stands on, from its action; and the plan for that line, from that for the action
module _ {st : State} {th : Thread} (p : Plannable st th) {r : Action} (d : ActionAt st.lines th.line r) {x : Action} (e : r ≡ x) where
  pub line_here : line_at (state_view st).lines th.line ≡ action_line x
  unfolding state_view
  line_here = line_at_lem st.lines th.line p.present ∙ sym d.line ∙ ap action_line e

  pub plan_at : (k m s : ℕ) {X : Plan} → X ≡ plan (state_view st) k (thread_view th) m s (action_line x) → X ≡ plan (state_view st) k (thread_view th) m s (line_at (state_view st).lines th.line)
  plan_at k m s h = h ∙ sym (ap (plan (state_view st) k (thread_view th) m s) line_here)
