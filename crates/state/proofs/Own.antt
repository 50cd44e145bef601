-- The net's lines are the first of a state's lines, and no call changes that.
-- Assumes nothing.
use mathlib.Core.Path.{◌≡◌, refl, sym, ap, subst, ◌∙◌}
use mathlib.Core.Bool.{Bool, true, false, not}
use mathlib.Core.List.{List, []}
use mathlib.Core.Option.{Option, none, some}
use Prim.Native.Nat.{ℕ}
use lib.Dec.{leb}
use lib.ListN.{length, get_elem?, take}
use lib.Seq.{take-append-le, take-take}
use Rattle.sets.specs.Lists.{◌&◌, either, splice}
use Rattle.sets.specs.Bits.{in_bit, read_bit}
use Rattle.sets.proofs.Lists.{cond_at}
use Rattle.klaim.specs.declared.Loc.{Loc}
use Rattle.klaim.specs.declared.Slot.{Slot}
use Rattle.klaim.specs.Process.{Line, Nil, Par, Rep, Out, In, Read, Eval, Accept, line_at}
use Rattle.klaim.specs.Reader.{Answer, refused, gives}
use Rattle.klaim.specs.State as Spec
use Rattle.klaim.specs.Engine.{Event, silent, Result, joined, bring_read, bring, newest, occupied, freed, withdraw_root, withdraw, agrees, after, Plan, stop, quiet, act, get_plan, accept_plan, plan, permits, limit, finish, step_of, step}
use Rattle.klaim.specs.Invariant.{Invariant}
use Rattle.klaim.specs.Demand3.{Call, bringing, withdrawing, bare, guarded, call}
use Rattle.klaim.proofs.Invariant.{newest_ok}
use Rattle.tables.specs.View.{lines_of}
use Rattle.tables.proofs.LineTable.{lines_long}
use Rattle.state.specs.declared.State.{State}
use Rattle.state.specs.View.{state_view, result_view}
use Rattle.state.specs.Fits.{Fits, FitsNet}

-- the net's lines are the first of the lines of a state of document 01
abbrev pub OwnFirst : Spec.State → Type 0
OwnFirst s = take (length s.net.lines) s.lines ≡ s.net.lines

-- the same of a state of the code, and of what it stands for
module _ (st : State) where
  pub own_view : take st.net.lines.count (lines_of st.lines) ≡ lines_of st.net.lines → OwnFirst (state_view st)
  unfolding state_view
  own_view o = rw (lines_long st.net.lines) o

  pub view_own : OwnFirst (state_view st) → take st.net.lines.count (lines_of st.lines) ≡ lines_of st.net.lines
  unfolding state_view
  view_own o = ap (λ (n : ℕ). take n (lines_of st.lines)) (sym (lines_long st.net.lines)) ∙ o

-- bring and withdraw leave the first lines as they are
module _ (s : Spec.State) (i : Invariant s) (o : OwnFirst s) where
  read_own : (x : Answer (List Line)) → OwnFirst (bring_read s x).state
  unfolding bring_read joined
  read_own (refused n row) = o
  read_own (gives ls) = take-append-le (length s.net.lines) s.lines _ i.own_lines ∙ o

  root_own : (x : Option ℕ) → newest s.arrivals ≡ x → OwnFirst (withdraw_root s x).state
  unfolding withdraw_root freed
  root_own none e = o
  root_own (some r) e = cond_at (λ (x : Result). OwnFirst x.state) (occupied s r) (λ b. o) (λ b. take-take (length s.net.lines) r s.lines (newest_ok s i r e).behind ∙ o)

-- a step leaves the net and the lines as they are
module _ (s : Spec.State) (o : OwnFirst s) where
  after_own : (k : ℕ) (th : Spec.Thread) (more : List Spec.Thread) (ts : List (List ℕ)) → OwnFirst (after s k th more ts)
  unfolding after
  after_own k th more ts = o

  abbrev PlanOwn : Plan → Type 0
  PlanOwn (stop n) = Unit {0}
  PlanOwn (quiet new) = OwnFirst new
  PlanOwn (act t right new) = OwnFirst new

  module _ (k m r : ℕ) (th : Spec.Thread) where
    get_own : (right a : ℕ) (g : Loc) (ss : List Slot) (rest : List (List ℕ)) (x : Option (List ℕ)) → PlanOwn (get_plan s k th right a g ss rest x)
    unfolding get_plan
    get_own right a g ss rest none = tt
    get_own right a g ss rest (some t) = cond_at PlanOwn (agrees th g ss t) (λ b. after_own k _ _ _) (λ b. tt)

    accept_own : (a d : ℕ) (b c : Bool) → PlanOwn (accept_plan s k th r a d b c)
    unfolding accept_plan
    accept_own a d false c = tt
    accept_own a d true false = tt
    accept_own a d true true = after_own k _ _ _

    plan_own : (l : Line) → PlanOwn (plan s k th m r l)
    unfolding plan
    plan_own Nil = tt
    plan_own (Par a b) = after_own k _ _ _
    plan_own (Rep a) = after_own k _ _ _
    plan_own (Out a g fs) = after_own k _ _ _
    plan_own (In a g ss) = get_own in_bit a g ss (splice m [] s.tuples) (get_elem? s.tuples m)
    plan_own (Read a g ss) = get_own read_bit a g ss s.tuples (get_elem? s.tuples m)
    plan_own (Eval a g b d) = after_own k _ _ _
    plan_own (Accept a d) = accept_own a d _ _

    limit_own : (e : Event) (new : Spec.State) → OwnFirst new → OwnFirst (limit s e new).state
    unfolding limit
    limit_own e new n = cond_at (λ (x : Result). OwnFirst x.state) (leb (length new.threads) 64 & leb (length new.tuples) 256) (λ b. n) (λ b. o)

    finish_own : (g : Bool) (p : Plan) → PlanOwn p → OwnFirst (finish g s th p).state
    unfolding finish
    finish_own g (stop n) h = o
    finish_own g (quiet new) h = limit_own silent new h
    finish_own g (act t right new) h = cond_at (λ (x : Result). OwnFirst x.state) (either (not g) (permits s.net th t right)) (λ b. limit_own _ new h) (λ b. o)

  step_own : (g : Bool) (k m r : ℕ) (x : Option Spec.Thread) → OwnFirst (step_of g s k m r x).state
  unfolding step_of
  step_own g k m r none = o
  step_own g k m r (some th) = finish_own k m r th g _ (plan_own k m r th (line_at s.lines th.line))

-- every call keeps it
pub call_own : (s : Spec.State) → Invariant s → OwnFirst s → (c : Call) → OwnFirst (call s c).state
unfolding call bring withdraw step
call_own s i o (bringing bytes) = read_own s i o _
call_own s i o withdrawing = root_own s i o _ refl
call_own s i o (bare k m r) = step_own s o false k m r _
call_own s i o (guarded k m r) = step_own s o true k m r _

-- so it is of the state behind a call
module _ {st next : State} (f : FitsNet st) (g : Fits next) where
  pub call_net : (c : Call) → result_view next ≡ call (state_view st) c → FitsNet next
  unfolding result_view
  call_net c e = record {
    own_first = view_own next (subst OwnFirst (sym (ap (λ (x : Result). x.state) e)) (call_own (state_view st) f.fits.invariant (own_view st f.own_first) c));
    fits = g;
  }

  pub bring_net : (rows : List ℕ) → result_view next ≡ bring (state_view st) rows → FitsNet next
  unfolding call
  bring_net rows e = call_net (bringing rows) e

  pub withdraw_net : result_view next ≡ withdraw (state_view st) → FitsNet next
  unfolding call
  withdraw_net e = call_net withdrawing e

  pub step_net : (g : Bool) (k m r : ℕ) → result_view next ≡ step g (state_view st) k m r → FitsNet next
  unfolding call
  step_net false k m r e = call_net (bare k m r) e
  step_net true k m r e = call_net (guarded k m r) e
