-- Laws of a step: its tests, and the state behind it.
-- Assumes nothing.
use mathlib.Core.Path.{◌≡◌, refl, sym, ap, ap₂, subst, ◌∙◌}
use mathlib.Core.Bool.{Bool, true, false, cond}
use mathlib.Core.List.{List, [], ◌∷◌, ◌++◌}
use Prim.Native.Nat.{ℕ, ◌+◌, ◌-◌, ◌/◌, ◌<◌, ◌≤◌}
use native.Mathlib.Omega.{arith}
use native.Mathlib.Nat.{div-eq_of_lt}
use lib.ListN.{length, get_or, get_or-eq_default, length-append}
use Rattle.std.specs.Prelude as Prelude
use Rattle.sets.specs.Lists.{◌&◌, splice}
use Rattle.sets.specs.Bits.{has}
use Rattle.sets.proofs.Lists.{and_l, and_r, leb_le}
use Rattle.klaim.specs.declared.Reason.{Reason}
use Rattle.klaim.specs.declared.Refusal.{Refusal}
use Rattle.klaim.specs.Net.{Net}
use Rattle.klaim.specs.Process.{line_at}
use Rattle.klaim.specs.Reader.{Answer, refused}
use Rattle.klaim.specs.Refusals.{number_of}
use Rattle.klaim.specs.Engine.{Event, Result, Plan, after, plan, permits, refuse, limit, finish, step_of, step}
use Rattle.klaim.specs.Invariant.{Invariant}
use Rattle.klaim.specs.State as Spec
use Rattle.klaim.proofs.Invariant.{step_keeps}
use Rattle.tables.specs.declared.Tuple.{Tuple}
use Rattle.tables.specs.View.{Tuples, tuple_view, tuples_of}
use Rattle.tuples.proofs.Rows.{rows_long}
use Rattle.threads.specs.View.{Threads, no_thread, thread_view, threads_of}
use Rattle.threads.proofs.Laws.{thread_none}
use Rattle.sets.proofs.Splice.{splice_long}
use Rattle.state.specs.declared.Event.{Event as Outcome}
use Rattle.state.specs.declared.State.{State}
use Rattle.state.specs.View.{state_view, result_view, gone_on}
use Rattle.state.specs.Fits.{Fits}
use Rattle.state.proofs.On.{fits_on, answering_fits}
use Rattle.state.proofs.Few.{threads_count}
use Rattle.plan.specs.declared.Use.{Use}
use Rattle.plan.specs.declared.Change.{Change}
use Rattle.plan.specs.declared.Change.TheVariants.{Appended}
use Rattle.plan.specs.declared.Move.{Move}
use Rattle.plan.specs.Move.{IsChange, added_after, tuples_after, state_after, plan_by, plan_view, move_view}
use Rattle.plan.proofs.Fitted.{thread_here}
use Rattle.step.specs.Stepped.{event_of, may, room, Allowed, Performed, Stepped}

-- where the policy ends, it has no right
none_has : (right : ℕ) → 0 < right → has 0 right ≡ false
unfolding has
none_has right h = let e : 0 / right ≡ 0 = div-eq_of_lt h in rw e

pub permits_past : (N : Net) (th : Spec.Thread) (t right : ℕ) → length th.policy ≤ t → 0 < right → false ≡ permits N th t right
unfolding permits ◌&◌
permits_past N th t right h p = rw (get_or-eq_default th.policy 0 {n = t} h, none_has right p)

-- one tuple fewer
pub taken_less : {n : ℕ} (m : ℕ) (ts : List (List ℕ)) → length ts ≡ n → m < n → n - 1 ≡ length (splice m [] ts)
taken_less {n} m ts l h = omega (arith, splice_long m [] ts (omega (arith, l, h)), l)

-- there is room for the tuple that is appended
pub room_more : (ts : Tuples) (m : ℕ) {c : Change} (t : Tuple) → c ≡ Appended t → length (tuples_after (tuples_of ts) m c) ≤ 256 → ts.count < 256
room_more ts m t e h =
    let more : length (tuples_of ts ++ (tuple_view t ∷ [])) ≤ 256 = subst (λ (x : Change). length (tuples_after (tuples_of ts) m x) ≤ 256) e h in
    omega (arith, more, length-append (tuples_of ts) (tuple_view t ∷ []), rows_long ts)

-- how many threads there are behind a move
pub threads_long : (st : State) (k m : ℕ) (v : Move) → k < st.threads.count → st.threads.count - 1 + length (Spec.settle (state_view st).lines (thread_view v.thread)) + length (added_after (state_view st).lines v.added) ≡ length (state_after (state_view st) k m v).threads
unfolding after
threads_long st k m v h =
    let ts = (state_view st).threads in
    omega (arith, length-append (splice k (Spec.settle (state_view st).lines (thread_view v.thread)) ts) (added_after (state_view st).lines v.added), splice_long k (Spec.settle (state_view st).lines (thread_view v.thread)) ts (omega (arith, threads_count st)), threads_count st)

-- a step by its tests
module _ (guarded : Bool) {st : State} (f : Fits st) (k m r : ℕ) where
  pub step_none : st.threads.count ≤ k → step guarded (state_view st) k m r ≡ refuse 21 0 (state_view st)
  unfolding step step_of state_view
  step_none h = rw (thread_none st.threads k h)

  module _ (h : k < st.threads.count) where
    abbrev th : Spec.Thread
    th = thread_view (get_or st.threads.items k no_thread)

    from_plan : {x : Plan} → x ≡ plan (state_view st) k th m r (line_at (state_view st).lines th.line) → step guarded (state_view st) k m r ≡ finish guarded (state_view st) th x
    unfolding step step_of
    from_plan p = rw (thread_here f k h, p)

    pub step_stops : {o : Prelude.Result Move Reason} {why : Reason} → o ≡ Prelude.Err why → ((k : ℕ) → plan_view (state_view st) k m o ≡ plan (state_view st) k th m r (line_at (state_view st).lines th.line)) → step guarded (state_view st) k m r ≡ refuse (number_of why) 0 (state_view st)
    unfolding finish
    step_stops e p = from_plan (sym (ap (plan_view (state_view st) k m) e) ∙ p k)

    module _ (v : Move) (p : move_view (state_view st) k m v ≡ plan (state_view st) k th m r (line_at (state_view st).lines th.line)) where
      by_use : (u : Prelude.Option Use) (new : Spec.State) → finish guarded (state_view st) th (plan_by u new) ≡ cond (may guarded (state_view st).net th u) (limit (state_view st) (event_of th.site u) new) (refuse 26 0 (state_view st))
      unfolding finish
      by_use Prelude.None new = refl
      by_use (Prelude.Some u) new = refl

      by_tests : step guarded (state_view st) k m r ≡ cond (may guarded (state_view st).net th v.uses) (limit (state_view st) (event_of th.site v.uses) (state_after (state_view st) k m v)) (refuse 26 0 (state_view st))
      by_tests = from_plan p ∙ by_use v.uses (state_after (state_view st) k m v)

      pub step_lacks : may guarded (state_view st).net th v.uses ≡ false → step guarded (state_view st) k m r ≡ refuse 26 0 (state_view st)
      step_lacks e = by_tests ∙ rw e

      pub step_full : may guarded (state_view st).net th v.uses ≡ true → room (state_after (state_view st) k m v) ≡ false → step guarded (state_view st) k m r ≡ refuse 27 0 (state_view st)
      unfolding limit
      step_full e q = by_tests ∙ rw (e, q)

      pub step_allowed : may guarded (state_view st).net th v.uses ≡ true → room (state_after (state_view st) k m v) ≡ true → IsChange m st.tuples.count v.change → Allowed guarded st k m r v
      unfolding limit
      step_allowed e q c = record {
        movable = record {
          present = h;
          change = c;
          threads_few = leb_le _ 64 (and_l _ _ q);
          tuples_few = leb_le _ 256 (and_r _ _ q);
        };
        result = by_tests ∙ rw (e, q);
      }

-- the state with the threads and the tuples behind a move
pub moved_state : (st : State) (k m : ℕ) (v : Move) (tuples : Tuples) (threads : Threads) (told : Prelude.Result Outcome Refusal) → threads_of threads ≡ splice k (Spec.settle (state_view st).lines (thread_view v.thread)) (threads_of st.threads) ++ added_after (state_view st).lines v.added → tuples_of tuples ≡ tuples_after (tuples_of st.tuples) m v.change → state_view (gone_on st tuples threads told) ≡ state_after (state_view st) k m v
unfolding state_view after
moved_state st k m v tuples threads told p q =
    ap₂ (λ (xs : List Spec.Thread) (ys : List (List ℕ)). record { net = (state_view st).net; estimate = (state_view st).estimate; lines = (state_view st).lines; arrivals = (state_view st).arrivals; threads = xs; tuples = ys }) p q

-- a step that is refused
pub stepped_no : {guarded : Bool} {st : State} (f : Fits st) {k m r : ℕ} {why : Reason} {e : Refusal} → step guarded (state_view st) k m r ≡ refuse (number_of why) 0 (state_view st) → e ≡ record { why = why; row = 0 } → Stepped guarded st k m r (gone_on st st.tuples st.threads (Prelude.Err e))
unfolding result_view state_view
stepped_no {st = st} f {e = e} p q = record {
  result = ap (λ (x : Refusal). record { answer = refused (number_of x.why) x.row; state = state_view st }) q ∙ sym p;
  fits = answering_fits st f (Prelude.Err e);
}

-- a step that is not
pub stepped_yes : {guarded : Bool} {st : State} (f : Fits st) {k m r : ℕ} {v : Move} {next : State} → Allowed guarded st k m r v → Performed st k m v next → Stepped guarded st k m r next
unfolding result_view
stepped_yes {guarded} {st} f {k} {m} {r} {v} {next} a p = record {
  result = ap₂ (λ (x : Answer Event) (s : Spec.State). record { answer = x; state = s }) p.answer p.state ∙ sym a.result;
  fits = subst Fits (sym p.kept)
      (fits_on st next.tuples next.threads next.told f
      (subst (λ (x : State). Invariant (state_view x)) p.kept (subst Invariant (ap (λ (x : Result). x.state) a.result ∙ sym p.state) (step_keeps guarded (state_view st) k m r f.invariant))));
}
