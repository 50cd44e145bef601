-- Laws of the state behind a withdrawal, and of its refusals.
-- Assumes nothing.
use mathlib.Core.Path.{◌≡◌, refl, sym, ap, subst, ◌∙◌}
use mathlib.Core.Bool.{Bool, true, false, cond}
use mathlib.Core.List.{List, [], ◌∷◌, ◌++◌, map}
use mathlib.Core.Option.{some}
use Prim.Native.Nat.{ℕ, ◌-◌, ◌<◌, ◌≤◌}
use native.Mathlib.Omega.{arith}
use lib.Dec.{leb}
use lib.ListN.{length, get_or, take}
use lib.Seq.{length-take-le, get_or-take, take_all}
use Rattle.sets.specs.Lists.{Elem, either, any, table, table_from}
use Rattle.sets.specs.Bits.{mem}
use Rattle.sets.proofs.Lists.{in_get_or}
use Rattle.sets.proofs.Tables.{get_or_table, length_table}
use Rattle.klaim.specs.Process as Process
use Rattle.klaim.specs.Process.{tree}
use Rattle.klaim.specs.Reader.{refused, gives}
use Rattle.std.specs.Prelude.{◌||◌, Ok, Err}
use Rattle.std.specs.List.{list_any}
use Rattle.klaim.specs.State as Spec
use Rattle.threads.specs.declared.Thread.{Thread}
use Rattle.threads.specs.View.{thread_view, threads_of}
use Rattle.klaim.specs.Refusals.{number_of}
use Rattle.klaim.specs.Engine.{Result, refuse, withdrawn, newest, older, occupied, freed, withdraw_root, withdraw}
use Rattle.klaim.specs.Invariant.{Invariant, ArrivalOk, rising}
use Rattle.klaim.proofs.Newest.{newest_take, older_take, rising_few, rising_less}
use Rattle.klaim.proofs.Invariant.{withdraw_keeps, newest_ok, rises, kept_tree}
use Rattle.klaim.specs.declared.Reason.{Reason}
use Rattle.klaim.specs.declared.Refusal.{Refusal}
use Rattle.tables.specs.declared.line.Line.{Line}
use Rattle.tables.specs.View.{Lines, no_line, action_line, line_of, lines_of, net_view, estimate_view}
use Rattle.tables.proofs.Entries.{truncated}
use Rattle.tables.proofs.LineTable.{lines_long}
use Rattle.door.specs.Parts.{sound}
use Rattle.state.specs.declared.Arrival.{Arrival}
use Rattle.state.specs.declared.Event.TheVariants.{Withdrawn as Went}
use Rattle.state.specs.declared.State.{State}
use Rattle.state.specs.View.{Arrivals, no_arrival, arrival_root, arrivals_of, state_view, result_view}
use Rattle.state.specs.Fits.{sound_at, Fits}
use Rattle.state.proofs.On.{answering, answering_fits}
use Rattle.withdraws.specs.Withdrawn.{Withdrawn}

either_as : (a b : Bool) → (a || b) ≡ either a b
unfolding either
either_as true b = refl
either_as false b = refl

-- a test of threads, as the code has them
pub any_seen : (p : Spec.Thread → Bool) (ths : List Thread) → list_any (λ th. p (thread_view th)) ths ≡ any p (map thread_view ths)
unfolding any
any_seen p [] = refl
any_seen p (th ∷ ths) = either_as (p (thread_view th)) _ ∙ ap (either (p (thread_view th))) (any_seen p ths)

module _ {st : State} (f : Fits st) where
  -- a refusal leaves the state as it is
  pub refused_withdrawn : {why : Reason} {e : Refusal} → withdraw (state_view st) ≡ refuse (number_of why) 0 (state_view st) → e ≡ record { why = why; row = 0 } → Withdrawn st (answering st (Err e))
  unfolding result_view state_view
  refused_withdrawn {e = e} p q = record {
    result = ap (λ (x : Refusal). record { answer = refused (number_of x.why) x.row; state = state_view st }) q ∙ sym p;
    fits = answering_fits st f (Err e);
  }

  -- the roots of the arrivals
  abbrev roots : List ℕ
  roots = arrivals_of st.arrivals

  roots_long : length roots ≡ st.arrivals.count
  unfolding arrivals_of
  roots_long = length_table st.arrivals.count (arrival_root st.arrivals)

  all_roots : take st.arrivals.count roots ≡ roots
  all_roots = take_all st.arrivals.count roots (omega (arith, roots_long))

  root_at : (i : ℕ) → i < st.arrivals.count → get_or roots i 0 ≡ arrival_root st.arrivals i
  unfolding arrivals_of
  root_at i h = get_or_table st.arrivals.count (arrival_root st.arrivals) i 0 h

  -- 35
  pub none_refused : st.arrivals.count ≡ 0 → withdraw (state_view st) ≡ refuse 35 0 (state_view st)
  unfolding withdraw withdraw_root state_view newest arrivals_of table table_from
  none_refused z = ap (λ (n : ℕ). withdraw_root (state_view st) (newest (table n (arrival_root st.arrivals)))) z

  -- a thread stands on line r or on one behind it, as the code finds it
  abbrev pub standing : ℕ → Bool
  standing r = any (λ th. leb r th.line) (threads_of st.threads)

  module _ (h : 0 < st.arrivals.count) where
    -- how many older arrivals there are
    abbrev left : ℕ
    left = st.arrivals.count - 1

    -- the root of the newest arrival
    abbrev root : ℕ
    root = arrival_root st.arrivals left

    few : st.arrivals.count ≤ length roots
    few = omega (arith, roots_long)

    left_long : length (take left roots) ≡ left
    left_long = length-take-le left roots (omega (arith, few))

    newest_root : newest roots ≡ some root
    newest_root =
        ap newest (sym all_roots) ∙ newest_take roots st.arrivals.count h few ∙ ap (λ (r : ℕ). some r) (root_at left (omega arith))

    root_newest : newest (state_view st).arrivals ≡ some root
    unfolding state_view
    root_newest = newest_root

    older_roots : older roots ≡ take left roots
    older_roots = ap older (sym all_roots) ∙ older_take roots st.arrivals.count h few

    root_ok : ArrivalOk (length (state_view st).net.lines) (state_view st).lines root
    root_ok = newest_ok (state_view st) f.invariant root root_newest

    roots_rise : rising (take left roots ++ (root ∷ [])) ≡ true
    unfolding state_view
    roots_rise = subst (λ (rs : List ℕ). rising (rs ++ (root ∷ [])) ≡ true) older_roots (rises (state_view st) f.invariant root root_newest)

    -- withdraw, by whether a thread stands on one of the arrival's lines
    by_threads : (b : Bool) → standing root ≡ b → withdraw (state_view st) ≡ cond b (refuse 36 0 (state_view st)) (record { answer = gives (withdrawn root); state = freed (state_view st) root })
    unfolding withdraw withdraw_root occupied state_view
    by_threads b o =
        ap (withdraw_root (state_view st)) newest_root
        ∙ ap (λ (x : Bool). cond x (refuse 36 0 (state_view st)) (record { answer = gives (withdrawn root); state = freed (state_view st) root })) o

    -- 36
    pub occupied_refused : standing root ≡ true → withdraw (state_view st) ≡ refuse 36 0 (state_view st)
    occupied_refused o = by_threads true o

    pub root_low : root ≤ st.lines.count
    unfolding state_view
    root_low = omega (arith, root_ok.present, lines_long st.lines)

    left_few : left ≤ root
    left_few = omega (arith, left_long, rising_few (take left roots) root roots_rise)

    -- the older arrivals stand before the root
    older_low : (i : ℕ) → i < left → arrival_root st.arrivals i < root
    older_low i l = rising_less (take left roots) root roots_rise (arrival_root st.arrivals i) older_in
      where
        older_in : Elem (arrival_root st.arrivals i) (take left roots)
        older_in = subst (λ (r : ℕ). Elem r (take left roots)) (get_or-take left roots i 0 l ∙ root_at i (omega arith)) (in_get_or 0 (take left roots) i (omega (arith, left_long)))

    -- the state behind a withdrawal: the lines before the root, and the older arrivals
    module _ (lines : Lines) (arrivals : Arrivals) (li : lines.items ≡ st.lines.items) (lc : lines.count ≡ root) (ai : arrivals.items ≡ st.arrivals.items) (ac : arrivals.count ≡ left) where
      abbrev behind : State
      behind = record {
        net = st.net;
        estimate = st.estimate;
        lines = lines;
        arrivals = arrivals;
        tuples = st.tuples;
        threads = st.threads;
        told = Ok (Went root);
      }

      lines_kept : lines_of lines ≡ take root (lines_of st.lines)
      unfolding lines_of line_of
      lines_kept = truncated (λ (l : Line). action_line l.action) no_line st.lines lines li (omega (arith, lc, root_low)) ∙ ap (λ (n : ℕ). take n (lines_of st.lines)) lc

      arrivals_kept : arrivals_of arrivals ≡ take left roots
      unfolding arrivals_of
      arrivals_kept = truncated (λ (a : Arrival). a.root) no_arrival st.arrivals arrivals ai (omega (arith, ac)) ∙ ap (λ (n : ℕ). take n roots) ac

      behind_view : state_view behind ≡ freed (state_view st) root
      unfolding state_view freed
      behind_view = rw (lines_kept, arrivals_kept, older_roots)

      -- the older arrivals are sound where they were
      sound_kept : (i l : ℕ) → i < left → sound_at behind i l ≡ sound_at st i l
      unfolding sound_at state_view
      sound_kept i l k =
          ap (λ (xs : List Arrival). sound (net_view st.net) (estimate_view st.estimate) l (tree (lines_of lines) (get_or xs i no_arrival).root)) ai
          ∙ ap (sound (net_view st.net) (estimate_view st.estimate) l)
          (ap (λ (ls : List Process.Line). tree ls (arrival_root st.arrivals i)) lines_kept
          ∙ kept_tree (state_view st) f.invariant root root_newest (arrival_root st.arrivals i) (older_low i k))

      pub kept_withdrawn : standing root ≡ false → Withdrawn st behind
      unfolding result_view
      kept_withdrawn o = record {
        result = rw behind_view (sym (by_threads false o));
        fits = record {
          arrivals_few = omega (arith, left_few, lc, ac);
          sound_is = λ i l k n.
              ap (λ (xs : List Arrival). mem l (get_or xs i no_arrival).sound) ai ∙ f.sound_is i l (omega (arith, k, ac)) n ∙ sym (sound_kept i l (omega (arith, k, ac)));
          invariant = subst Invariant (ap (λ (r : Result). r.state) (by_threads false o) ∙ sym behind_view) (withdraw_keeps (state_view st) f.invariant);
        };
      }
