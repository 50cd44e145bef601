-- What the analysis says of a state, and that bring and both steps keep it.
-- Assumes nothing.
use mathlib.Core.Path.{◌≡◌, refl, sym, ap, subst, ◌∙◌}
use mathlib.Core.Logic.{◌⊎◌, inl, inr}
use mathlib.Core.Bool.{Bool, true, false, not, cond, false≢true}
use mathlib.Core.List.{List, [], ◌∷◌}
use mathlib.Core.Option.{Option, none, some}
use Prim.Native.Nat.{ℕ, ◌+◌, ◌*◌, ◌/◌, ◌%◌, ◌<◌, ◌^◌}
use native.Mathlib.Omega.{arith}
use lib.Dec.{leb}
use lib.ListN.{length, get_or, get_elem?, replicate}
use Rattle.sets.specs.Lists.{Elem, first, All, done, more, ◌&◌, either, splice, among}
use Rattle.sets.specs.Bits.{has}
use Rattle.sets.proofs.Lists.{all_get, in_map, All-get, All-append, All-splice, All-turn, All-in, In-All, All-concat-in, cond_at, get_or_same}
use Rattle.sets.proofs.Tables.{get_or_table}
use Rattle.sets.proofs.Bits.{has_none, in_sites}
use Rattle.klaim.specs.declared.Loc.{Loc}
use Rattle.klaim.specs.declared.Slot.{Slot}
use Rattle.klaim.specs.declared.Slot.TheVariants.{Value}
use Rattle.klaim.specs.Process.{Line, Nil, Par, Rep, Out, In, Read, Eval, Accept, line_at, slots_of, Tree, get_t, accept_t, node, tree}
use Rattle.klaim.specs.Net.{Root, Net, Estimate, home}
use Rattle.klaim.specs.Reader.{gives, World}
use Rattle.klaim.specs.Analysis.{accepted, verdict}
use Rattle.klaim.specs.Report.{report_at, report, door}
use Rattle.klaim.specs.State.{Thread, State, unbound, is_nil, settle, root_thread, begin}
use Rattle.klaim.specs.Engine.{Event, silent, performed, Result, refuse, joined, newest, occupied, freed, value, agrees, to, under, after, Plan, stop, quiet, act, get_plan, accept_plan, plan, permits, limit, finish, step_of, step}
use Rattle.klaim.specs.Invariant.{all_below, Invariant}
use Rattle.klaim.specs.Demand3.{listed, forbids, Permitted, Within}
use Rattle.klaim.proofs.Process.{tree_node, tree_old}
use Rattle.klaim.proofs.Invariant.{Standing, standing, loc_ok, binds_low, unoccupied, kept_tree}
use Rattle.klaim.proofs.Bindings.{LocOk, BindsLow}
use Rattle.klaim.proofs.Flow.{Fine, Used, Good, good_par_l, good_par_r, good_rep, good_out, good_eval, good_accept, good_get, out_stands, out_used, get_used, eval_used, accept_used, good_body, good_arrival, good_root, root_lawful, tuple_stands}

-- what the guard tests is that neither policy forbids the right
pub permits_allows : (N : Net) (th : Thread) (t right : ℕ) → permits N th t right ≡ true → forbids N th t right ≡ false
unfolding permits forbids ◌&◌ either
permits_allows N th t right h = both (has (get_or th.policy t 0) right) (has (home N th.site t) right) h
  where
    both : (a b : Bool) → a & b ≡ true → either (not a) (not b) ≡ false
    both true true h = refl
    both true false h = sym h
    both false b h = sym h

-- thread th among the lines ls is as the analysis of N and E says
abbrev pub Sound : Net → Estimate → List Line → Thread → Type 0
Sound N E ls th = Good N E th.site th.policy th.bindings (tree ls th.line)

-- a state of the net N and the estimate E, as their analysis says
pub record Tracked (N : Net) (E : Estimate) (st : State) : Type 0 where
  pub same_net : st.net ≡ N
  pub same_estimate : st.estimate ≡ E
  pub tuples_in : All (λ t. Elem t E.stand) st.tuples
  pub threads_sound : All (Sound N E st.lines) st.threads

pub tracked_within : (N : Net) (E : Estimate) (st : State) → Tracked N E st → Within E st
tracked_within N E st t = record { tuples_in = t.tuples_in; bindings_in = All-turn (λ th g u s e. (in_sites _ _ (g.inside u s e)).1) t.threads_sound }

-- 'sound' does not ask whether a thread stands on `nil`
settle_sound : (N : Net) (E : Estimate) (ls : List Line) (th : Thread) → Sound N E ls th → All (Sound N E ls) (settle ls th)
unfolding settle
settle_sound N E ls th g = cond_at (All (Sound N E ls)) (is_nil (line_at ls th.line)) (λ t. done) (λ t. more g done)

module _ (st : State) (i : Invariant st) where
  abbrev N : Net
  N = st.net

  abbrev E : Estimate
  E = st.estimate

  module _ (tuples_in : All (λ t. Elem t E.stand) st.tuples) (threads_sound : All (Sound N E st.lines) st.threads) where
    after_tracked : (k : ℕ) (th : Thread) (new : List Thread) (ts : List (List ℕ)) → Sound N E st.lines th → All (Sound N E st.lines) new → All (λ t. Elem t E.stand) ts → Tracked N E (after st k th new ts)
    unfolding after
    after_tracked k th new ts s n t = record { same_net = refl; same_estimate = refl; tuples_in = t; threads_sound = All-append (All-splice k (settle_sound N E st.lines th s) threads_sound) n }

    -- what a step plans is tracked, and the right that it uses is fine
    abbrev PlanSafe : Thread → Plan → Type 0
    PlanSafe th (stop n) = Unit {0}
    PlanSafe th (quiet new) = Tracked N E new
    PlanSafe th (act t right new) = Tracked N E new × Used N E th.site th.policy t right

    module _ (k m r : ℕ) (th : Thread) (o : Standing N.size st.lines th) where
      abbrev At : Tree → Type 0
      At t = Good N E th.site th.policy th.bindings t

      ok : (l : Line) → line_at st.lines th.line ≡ l → (x : Loc) → Elem (Value x) (slots_of l) → LocOk N.size th.bindings x
      ok l e = loc_ok st i th o l e

      get_safe : (l : Line) → line_at st.lines th.line ≡ l → (j a : ℕ) (g : Loc) (ss : List Slot) (rest : List (List ℕ)) (x : Option (List ℕ)) → slots_of l ≡ Value g ∷ ss → get_elem? st.tuples m ≡ x → All (λ t. Elem t E.stand) rest → {q : ℕ} → At (get_t q (2 ^ j) g ss (tree st.lines a)) → PlanSafe th (get_plan st k th (2 ^ j) a g ss rest x)
      unfolding get_plan agrees
      get_safe l e j a g ss rest none s q u h = tt
      get_safe l e j a g ss rest (some t) s q u h =
          cond_at (PlanSafe th) (agrees th g ss t)
          (λ c. (
            after_tracked k _ [] rest
                (good_get N E i.sites_few t h fields o.bindings_long (subst (BindsLow 32) s (binds_low st i th o l e)) (All-get m tuples_in q) (all_get (all_below N.size) st.tuples m i.tuples_fit q) c)
                done u,
            get_used N E i.sites_few j h (fields g (first refl)),
          ))
          (λ c. tt)
        where
          fields : (y : Loc) → Elem (Value y) (Value g ∷ ss) → LocOk N.size th.bindings y
          fields y w = ok l e y (subst (Elem (Value y)) (sym s) w)

      accept_safe : (a d : ℕ) (b c : Bool) → among st.arrivals r ≡ b → door N E d th.site (tree st.lines r) ≡ c → At (accept_t d (tree st.lines a)) → PlanSafe th (accept_plan st k th r a d b c)
      unfolding accept_plan to under
      accept_safe a d false c p q h = tt
      accept_safe a d true false p q h = tt
      accept_safe a d true true p q h = (
        after_tracked k (to th a) _ st.tuples (good_accept N E h)
            (settle_sound N E st.lines (under N d th.site r unbound) (good_arrival N E (tree st.lines r) h q)) tuples_in,
        accept_used N E h,
      )

      plan_line : (l : Line) → line_at st.lines th.line ≡ l → At (node (tree st.lines) th.line l) → At (tree st.lines th.line) → PlanSafe th (plan st k th m r l)
      unfolding plan node to under slots_of
      plan_line Nil e h h₀ = tt
      plan_line (Par a b) e h h₀ =
          after_tracked k (to th a) _ st.tuples (good_par_l N E h)
          (settle_sound N E st.lines (to th b) (good_par_r N E h)) tuples_in
      plan_line (Rep a) e h h₀ =
          after_tracked k th _ st.tuples h₀
          (settle_sound N E st.lines (to th a) (good_rep N E h)) tuples_in
      plan_line (Out a g fs) e h h₀ = (
        after_tracked k (to th a) [] _ (good_out N E h) done
            (All-append tuples_in (more (out_stands N E i.sites_few h (λ y w. ok _ e y (in_map Value w))) done)),
        out_used N E i.sites_few h (ok _ e g (first refl)),
      )
      plan_line (In a g ss) e h h₀ = get_safe _ e 1 a g ss (splice m [] st.tuples) _ refl refl (All-splice m done tuples_in) h
      plan_line (Read a g ss) e h h₀ = get_safe _ e 2 a g ss st.tuples _ refl refl tuples_in h
      plan_line (Eval a g b d) e h h₀ = (
        after_tracked k (to th a) _ st.tuples (good_eval N E h)
            (settle_sound N E st.lines (under N d (value th.site th.bindings g) b th.bindings) (good_body N E i.sites_few h (ok _ e g (first refl)))) tuples_in,
        eval_used N E i.sites_few h (ok _ e g (first refl)),
      )
      plan_line (Accept a d) e h h₀ = accept_safe a d _ _ refl refl h

    plan_safe : (k m r : ℕ) (th : Thread) → get_elem? st.threads k ≡ some th → PlanSafe th (plan st k th m r (line_at st.lines th.line))
    plan_safe k m r th e =
        let g = All-get k threads_sound e in
        plan_line k m r th (standing (All-get k i.threads_ok e)) _ refl (subst (Good N E th.site th.policy th.bindings) (tree_node st.lines th.line i.lines_ordered) g) g

    limit_tracked : (e : Event) (new : State) → Tracked N E st → Tracked N E new → Tracked N E (limit st e new).state
    unfolding limit
    limit_tracked e new t n = cond_at (λ (x : Result). Tracked N E x.state) (leb (length new.threads) 64 & leb (length new.tuples) 256) (λ b. n) (λ b. t)

    finish_tracked : (guarded : Bool) (th : Thread) (pl : Plan) → Tracked N E st → PlanSafe th pl → Tracked N E (finish guarded st th pl).state
    unfolding finish
    finish_tracked guarded th (stop n) t p = t
    finish_tracked guarded th (quiet new) t p = limit_tracked silent new t p
    finish_tracked guarded th (act s right new) t p = cond_at (λ (x : Result). Tracked N E x.state) (either (not guarded) (permits N th s right)) (λ b. limit_tracked _ new t p.0) (λ b. t)

    -- the byte of the report
    listed_at : (s t right : ℕ) → s < 32 → t < 32 → has (report_at N E s t) right ≡ true → listed (report N E) s t right ≡ true
    unfolding listed report
    listed_at s t right p q h =
        ap (λ (b : ℕ). has b right) (get_or_table 1024 (λ i. report_at N E (i / 32) (i % 32)) (32 * s + t) 0 (omega arith) ∙ ap (λ (x : ℕ). report_at N E x ((32 * s + t) % 32)) subject ∙ ap (report_at N E s) object) ∙ h
      where
        subject : (32 * s + t) / 32 ≡ s
        subject = omega arith

        object : (32 * s + t) % 32 ≡ t
        object = omega arith

    -- a fine right: both policies have it, or the report lists it
    used_cases : (th : Thread) (t right : ℕ) → Used N E th.site th.policy t right → (permits N th t right ≡ true) ⊎ (listed (report N E) th.site t right ≡ true)
    unfolding permits
    used_cases th t right u = go u.fine
      where
        go : Fine N E th.site th.policy t u.bit → (has (get_or th.policy t 0) right & has (home N th.site t) right ≡ true) ⊎ (listed (report N E) th.site t right ≡ true)
        go (inl h) = inl (ap (λ (x : ℕ). has (get_or th.policy t 0) x & has (home N th.site t) x) u.is_bit ∙ h)
        go (inr h) = inr (listed_at th.site t right u.here_low u.there_low (ap (has (report_at N E th.site t)) u.is_bit ∙ h))

    used_permitted : (th : Thread) (t right : ℕ) → Used N E th.site th.policy t right → Permitted N (report N E) (some th) (gives (performed th.site t right))
    used_permitted th t right u e = go (used_cases th t right u)
      where
        go : (permits N th t right ≡ true) ⊎ (listed (report N E) th.site t right ≡ true) → listed (report N E) th.site t right ≡ true
        go (inl h) = absurd (false≢true (sym (permits_allows N th t right h) ∙ e))
        go (inr h) = h

    -- where the report is empty, both policies have it
    used_permits : report N E ≡ replicate 1024 0 → (th : Thread) (t right : ℕ) → Used N E th.site th.policy t right → permits N th t right ≡ true
    unfolding listed
    used_permits z th t right u = go (used_cases th t right u)
      where
        zero_byte : get_or (report N E) (32 * th.site + t) 0 ≡ 0
        zero_byte = ap (λ (l : List ℕ). get_or l (32 * th.site + t) 0) z ∙ get_or_same 0 1024 (32 * th.site + t)

        go : (permits N th t right ≡ true) ⊎ (has (get_or (report N E) (32 * th.site + t) 0) right ≡ true) → permits N th t right ≡ true
        go (inl h) = h
        go (inr h) = absurd (false≢true (sym (has_none u.bit) ∙ ap (has 0) (sym u.is_bit) ∙ ap (λ (b : ℕ). has b right) (sym zero_byte) ∙ h))

    limit_permitted : (th : Thread) (e : Event) (new : State) → Permitted N (report N E) (some th) (gives e) → Permitted N (report N E) (some th) (limit st e new).answer
    unfolding limit
    limit_permitted th e new p = cond_at (λ (x : Result). Permitted N (report N E) (some th) x.answer) (leb (length new.threads) 64 & leb (length new.tuples) 256) (λ b. p) (λ b. tt)

    finish_permitted : (guarded : Bool) (th : Thread) (pl : Plan) → PlanSafe th pl → Permitted N (report N E) (some th) (finish guarded st th pl).answer
    unfolding finish
    finish_permitted guarded th (stop n) p = tt
    finish_permitted guarded th (quiet new) p = limit_permitted th silent new tt
    finish_permitted guarded th (act t right new) p = cond_at (λ (x : Result). Permitted N (report N E) (some th) x.answer) (either (not guarded) (permits N th t right)) (λ b. limit_permitted th (performed th.site t right) new (used_permitted th t right p.1)) (λ b. tt)

    finish_same : report N E ≡ replicate 1024 0 → (th : Thread) (pl : Plan) → PlanSafe th pl → finish true st th pl ≡ finish false st th pl
    unfolding finish either
    finish_same z th (stop n) p = refl
    finish_same z th (quiet new) p = refl
    finish_same z th (act t right new) p = ap (λ (b : Bool). cond b (limit st (performed th.site t right) new) (refuse 26 0 st)) (used_permits z th t right p.1)

    -- the three facts of a step
    module _ (k m r : ℕ) where
      step_of_tracked : (guarded : Bool) (x : Option Thread) → get_elem? st.threads k ≡ x → Tracked N E st → Tracked N E (step_of guarded st k m r x).state
      unfolding step_of
      step_of_tracked guarded none e t = t
      step_of_tracked guarded (some th) e t = finish_tracked guarded th _ t (plan_safe k m r th e)

      step_of_permitted : (guarded : Bool) (x : Option Thread) → get_elem? st.threads k ≡ x → Permitted N (report N E) x (step_of guarded st k m r x).answer
      unfolding step_of
      step_of_permitted guarded none e = tt
      step_of_permitted guarded (some th) e = finish_permitted guarded th _ (plan_safe k m r th e)

      step_of_same : report N E ≡ replicate 1024 0 → (x : Option Thread) → get_elem? st.threads k ≡ x → step_of true st k m r x ≡ step_of false st k m r x
      unfolding step_of
      step_of_same z none e = refl
      step_of_same z (some th) e = finish_same z th _ (plan_safe k m r th e)

      own_tracked : (guarded : Bool) → Tracked N E (step guarded st k m r).state
      unfolding step
      own_tracked guarded = step_of_tracked guarded _ refl (record { same_net = refl; same_estimate = refl; tuples_in = tuples_in; threads_sound = threads_sound })

      own_permitted : (guarded : Bool) → Permitted N (report N E) (get_elem? st.threads k) (step guarded st k m r).answer
      unfolding step
      own_permitted guarded = step_of_permitted guarded _ refl

      own_same : report N E ≡ replicate 1024 0 → step true st k m r ≡ step false st k m r
      unfolding step
      own_same z = step_of_same z _ refl

-- the same, said of the net and the estimate of the start
module _ (N : Net) (E : Estimate) (st : State) (i : Invariant st) (t : Tracked N E st) where
  own_tuples : All (λ t. Elem t st.estimate.stand) st.tuples
  own_tuples = subst (λ (e : Estimate). All (λ t. Elem t e.stand) st.tuples) (sym t.same_estimate) t.tuples_in

  own_threads : All (Sound st.net st.estimate st.lines) st.threads
  own_threads = subst (λ (e : Estimate). All (Sound st.net e st.lines) st.threads) (sym t.same_estimate) (subst (λ (n : Net). All (Sound n E st.lines) st.threads) (sym t.same_net) t.threads_sound)

  -- a fact of the state's own net and estimate
  at_start : (P : Net → Estimate → Type 0) → P st.net st.estimate → P N E
  at_start P p = subst (P N) t.same_estimate (subst (λ (n : Net). P n st.estimate) t.same_net p)

  module _ (k m r : ℕ) where
    pub step_tracked : (guarded : Bool) → Tracked N E (step guarded st k m r).state
    step_tracked guarded = at_start (λ n e. Tracked n e (step guarded st k m r).state) (own_tracked st i own_tuples own_threads k m r guarded)

    pub step_permitted : (guarded : Bool) → Permitted N (report N E) (get_elem? st.threads k) (step guarded st k m r).answer
    step_permitted guarded = at_start (λ n e. Permitted n (report n e) (get_elem? st.threads k) (step guarded st k m r).answer) (own_permitted st i own_tuples own_threads k m r guarded)

    pub step_same : report N E ≡ replicate 1024 0 → step true st k m r ≡ step false st k m r
    step_same = at_start (λ n e. report n e ≡ replicate 1024 0 → step true st k m r ≡ step false st k m r) (own_same st i own_tuples own_threads k m r)

  -- bring puts lines behind, which leaves the process of each thread
  pub joined_tracked : (ms : List Line) → Tracked N E (joined st ms)
  unfolding joined
  joined_tracked ms = record {
    same_net = t.same_net;
    same_estimate = t.same_estimate;
    tuples_in = t.tuples_in;
    threads_sound = In-All st.threads (λ th j. subst (Good N E th.site th.policy th.bindings) (sym (tree_old st.lines _ th.line i.lines_ordered (All-in i.threads_ok j).present)) (All-in t.threads_sound j));
  }

  -- withdraw takes lines away that no thread stands on, which leaves it too
  pub freed_tracked : (r : ℕ) → newest st.arrivals ≡ some r → occupied st r ≡ false → Tracked N E (freed st r)
  unfolding freed
  freed_tracked r e free = record {
    same_net = t.same_net;
    same_estimate = t.same_estimate;
    tuples_in = t.tuples_in;
    threads_sound = In-All st.threads (λ th j. subst (Good N E th.site th.policy th.bindings) (sym (kept_tree st i r e th.line (unoccupied st r free th j))) (All-in t.threads_sound j));
  }

-- the start
pub begin_tracked : (w : World) → ((r : Root) → Elem r w.net.roots → r.site < 32) → verdict w.net w.estimate ≡ accepted → Tracked w.net w.estimate (begin w)
unfolding begin root_thread
begin_tracked w low a = record {
  same_net = refl;
  same_estimate = refl;
  tuples_in = In-All w.net.tuples (tuple_stands w.net w.estimate a);
  threads_sound = All-concat-in (λ r. settle w.net.lines (root_thread w.net r)) w.net.roots (λ r j. settle_sound w.net w.estimate w.net.lines (root_thread w.net r) (good_root w.net w.estimate r (low r j) j (root_lawful w.net w.estimate a r j)));
}
