-- Every start gives the invariant, and every call keeps it.
-- Assumes nothing.
use mathlib.Core.Path.{◌≡◌, refl, sym, ap, subst, ◌∙◌}
use mathlib.Core.Logic.{◌⊎◌, inl, inr}
use mathlib.Core.Bool.{Bool, true, false, not, false≢true}
use mathlib.Core.List.{List, [], ◌∷◌, ◌++◌, map}
use mathlib.Core.Option.{Option, none, some}
use Prim.Native.Nat.{ℕ, ◌+◌, ◌<◌, ◌≤◌}
use native.Mathlib.Omega.{arith}
use lib.Dec.{leb, ltb}
use lib.ListN.{length, get_elem?, take, drop, take-append-drop, length-append, length-map, length-replicate, get_or-append}
use lib.Seq.{length-take-le, get_or-take, take-take, take-append-le, take-append_seam}
use Rattle.sets.specs.Lists.{Elem, first, later, All, done, more, ◌&◌, either, all, empty, splice, concat, among, ◌⧺◌}
use Rattle.sets.specs.Bits.{in_bit, read_bit}
use Rattle.sets.proofs.Lists.{and_l, and_r, in_none, all_at, all_i, all_none, all_turn, all_snoc, all_append, all_map, all_splice, all_get, among_in, empty_none, All-get, All-append, All-splice, All-turn, All-in, All-concat, ltb_lt, lt-ltb, leb_le, in_concat, in_right, in_map, cond_at, concat_short, in_get_or, In-All, any_none, nleb_lt, all_front, in_front, in_last}
use Rattle.sets.proofs.Tables.{length_table}
use Rattle.klaim.specs.Limits.{thread_limit, tuple_limit, line_limit}
use Rattle.klaim.specs.declared.Loc.{Loc}
use Rattle.klaim.specs.declared.Slot.{Slot}
use Rattle.klaim.specs.declared.Slot.TheVariants.{Value}
use Rattle.klaim.specs.Process.{Line, Nil, Par, Rep, Out, In, Read, Eval, Accept, line_at, children, boxes_of, slots_of, template, sites_in, used_in, bound_in, Tree, node, tree, ordered, free, move}
use Rattle.klaim.specs.Net.{Root, Net}
use Rattle.klaim.specs.Reader.{Answer, refused, gives, World, read_both}
use Rattle.klaim.specs.State.{Bindings, Thread, State, unbound, is_nil, settle, home_policy, box_policy, root_thread, begin, start}
use Rattle.klaim.specs.Engine.{Event, silent, Result, joined, bring_read, bring, newest, older, occupied, freed, withdraw_root, withdraw, value, bind_all, agrees, to, under, after, Plan, stop, quiet, act, get_plan, accept_plan, plan, permits, limit, finish, step_of, step}
use Rattle.klaim.specs.Invariant.{all_below, line_fits, rising, ArrivalOk, ThreadOk, Invariant}
use Rattle.klaim.specs.WellFormed.{RootOk, NetOk, EstimateOk, ArrivalRead}
use Rattle.klaim.proofs.Reader.{then_gives, arrival_read, both_read}
use Rattle.klaim.proofs.Process.{child_line, tree_node, tree_old, tree_first, free_new, ordered_join, used_free, child_free}
use Rattle.klaim.proofs.Newest.{newest_last, rising_snoc, rising_front, rising_less}
use Rattle.klaim.proofs.Bindings.{BoundTo, Holds, unbound_holds, BindsLow, bind_long, bind_holds, bind_kept, bind_new, each_all, LocOk, value_low}

-- a thread on any line
pub record Standing (n : ℕ) (ls : List Line) (th : Thread) : Type 0 where
  pub placed : th.site < n
  pub policy_long : length th.policy ≡ 32
  pub present : th.line < length ls
  pub bindings_long : length th.bindings ≡ 32
  pub bindings_low : Holds (λ u s. s < n) th.bindings
  pub free_bound : (u : ℕ) → Elem u (free (tree ls th.line)) → BoundTo th.bindings u

pub standing : {n : ℕ} {ls : List Line} {th : Thread} → ThreadOk n ls th → Standing n ls th
standing o = record { placed = o.placed; policy_long = o.policy_long; present = o.present; bindings_long = o.bindings_long; bindings_low = o.bindings_low; free_bound = o.free_bound }

settle_ok : (n : ℕ) (ls : List Line) (th : Thread) → Standing n ls th → All (ThreadOk n ls) (settle ls th)
unfolding settle
settle_ok n ls th o =
    cond_at (All (ThreadOk n ls)) (is_nil (line_at ls th.line)) (λ t. done)
    (λ t. more (record { placed = o.placed; policy_long = o.policy_long; present = o.present; running = t; bindings_long = o.bindings_long; bindings_low = o.bindings_low; free_bound = o.free_bound }) done)

-- the invariant, if the lists that a step makes are short enough
abbrev pub Loose : State → Type 0
Loose st = length st.threads ≤ thread_limit → length st.tuples ≤ tuple_limit → Invariant st

after_ok : (st : State) (k : ℕ) (th : Thread) (new : List Thread) (ts : List (List ℕ)) → Invariant st → Standing st.net.size st.lines th → All (ThreadOk st.net.size st.lines) new → all (all_below st.net.size) ts ≡ true → Loose (after st k th new ts)
unfolding after
after_ok st k th new ts i s n t few short = record {
  sites_some = i.sites_some;
  sites_few = i.sites_few;
  lines_few = i.lines_few;
  threads_few = few;
  tuples_few = short;
  lines_ordered = i.lines_ordered;
  lines_fit = i.lines_fit;
  stand_fit = i.stand_fit;
  stand_few = i.stand_few;
  stand_distinct = i.stand_distinct;
  tuples_fit = t;
  own_lines = i.own_lines;
  arrivals_ok = i.arrivals_ok;
  arrivals_rise = i.arrivals_rise;
  threads_ok = All-append (All-splice k (settle_ok st.net.size st.lines th s) i.threads_ok) n;
}

-- what a step plans keeps the invariant, and its target is a site
abbrev pub PlanOk : ℕ → Plan → Type 0
PlanOk n (stop m) = Unit {0}
PlanOk n (quiet new) = Loose new
PlanOk n (act t right new) = Loose new × (t < n)

all_part : {A : Type 0} (f : ℕ → Bool) (g : A → List ℕ) {xs : List A} {x : A} → all f (concat g xs) ≡ true → Elem x xs → all f (g x) ≡ true
all_part f g {x = x} t i = all_i f (g x) (λ y j. all_at f (in_concat g i j) t)

all_right : (f : ℕ → Bool) (xs ys : List ℕ) → all f (xs ⧺ ys) ≡ true → all f ys ≡ true
all_right f xs ys t = all_i f ys (λ y j. all_at f (in_right xs j) t)

no_binder : {u : ℕ} (ss : List Slot) → empty ss ≡ true → Elem u (concat bound_in ss) → ⊥
unfolding empty concat
no_binder [] t h = in_none h
no_binder (s ∷ ss) t h = false≢true t

-- thread th of st, on line l
module _ (st : State) (i : Invariant st) (th : Thread) (o : Standing st.net.size st.lines th) where
  abbrev n : ℕ
  n = st.net.size

  module _ (l : Line) (e : line_at st.lines th.line ≡ l) where
    fits : line_fits n l ≡ true
    fits = subst (λ (x : Line). line_fits n x ≡ true) e (all_at (line_fits n) (in_get_or Nil st.lines th.line o.present) i.lines_fit)

    free_here : (u : ℕ) → Elem u (free (node (tree st.lines) th.line l)) → BoundTo th.bindings u
    free_here u h = o.free_bound u (subst (λ (t : Tree). Elem u (free t)) (sym (tree_node st.lines th.line i.lines_ordered ∙ ap (node (tree st.lines) th.line) e)) h)

    pub loc_ok : (x : Loc) → Elem (Value x) (slots_of l) → LocOk n th.bindings x
    unfolding line_fits all_below
    loc_ok x j = record { sites_low = all_part _ sites_in (and_l _ _ fits) j; used_bound = λ u h. free_here u (used_free (tree st.lines) th.line l j h) }

    loc_low : (x : Loc) → Elem (Value x) (slots_of l) → value th.site th.bindings x < n
    loc_low x j = value_low th.site x (loc_ok x j) o.placed o.bindings_low

    pub binds_low : BindsLow 32 (slots_of l)
    unfolding line_fits all_below
    binds_low = all_right _ (concat used_in (slots_of l)) _ (and_l _ _ (and_r _ _ fits))

    pub child_present : (c : ℕ) → Elem c (children l) → c < length st.lines
    child_present c h = child_line st.lines th.line i.lines_ordered c (subst (λ (x : Line). Elem c (children x)) (sym e) h)

    -- a free variable of a child is bound, if what the template binds is
    child_bound : (c : ℕ) → Elem c (children l) → (b : Bindings) → ((u : ℕ) → BoundTo th.bindings u → BoundTo b u) → ((u : ℕ) → Elem u (concat bound_in (template l)) → BoundTo b u) → (u : ℕ) → Elem u (free (tree st.lines c)) → BoundTo b u
    child_bound c j b kept new u h = go (child_free (tree st.lines) th.line l j h)
      where
        go : (Elem u (free (node (tree st.lines) th.line l)) ⊎ Elem u (concat bound_in (template l))) → BoundTo b u
        go (inl k) = kept u (free_here u k)
        go (inr k) = new u k

    -- a child at a site, under a policy, with the same bindings
    child_stands : (c s : ℕ) (p : List ℕ) → Elem c (children l) → empty (template l) ≡ true → s < n → length p ≡ 32 → Standing n st.lines (record { site = s; policy = p; line = c; bindings = th.bindings })
    child_stands c s p j plain low long = record {
      placed = low;
      policy_long = long;
      present = child_present c j;
      bindings_long = o.bindings_long;
      bindings_low = o.bindings_low;
      free_bound = child_bound c j th.bindings (λ u b. b) (λ u h. absurd (no_binder (template l) plain h));
    }

    to_stands : (c : ℕ) → Elem c (children l) → empty (template l) ≡ true → Standing n st.lines (to th c)
    unfolding to
    to_stands c j plain = child_stands c th.site th.policy j plain o.placed o.policy_long

    -- `in` and `read`: the next line, with the new bindings
    get_stands : (a : ℕ) (g : Loc) (ss : List Slot) (t : List ℕ) → children l ≡ a ∷ [] → template l ≡ ss → slots_of l ≡ Value g ∷ ss → all (λ v. ltb v n) t ≡ true → agrees th g ss t ≡ true → Standing n st.lines (record { site = th.site; policy = th.policy; line = a; bindings = bind_all (Value g ∷ ss) t th.bindings })
    unfolding agrees concat bound_in ◌⧺◌
    get_stands a g ss t c m s low ok = record {
      placed = o.placed;
      policy_long = o.policy_long;
      present = child_present a (subst (Elem a) (sym c) (first refl));
      bindings_long = bind_long (Value g ∷ ss) t th.bindings ∙ o.bindings_long;
      bindings_low = bind_holds 32 (λ u v. v < n) (Value g ∷ ss) t th.bindings o.bindings_long binds (each_all (λ u v. v < n) (λ v. ltb v n) (λ u v h. ltb_lt v n h) (Value g ∷ ss) t low) o.bindings_low;
      free_bound = child_bound a (subst (Elem a) (sym c) (first refl)) (bind_all (Value g ∷ ss) t th.bindings)
          (λ u b. bind_kept 32 (Value g ∷ ss) t th.bindings o.bindings_long binds u b)
          (λ u h. bind_new 32 _ (Value g ∷ ss) t th.bindings o.bindings_long binds ok u (subst (λ (fs : List Slot). Elem u (concat bound_in fs)) m h));
    }
      where
        binds : BindsLow 32 (Value g ∷ ss)
        binds = subst (BindsLow 32) s binds_low

  module _ (k m r : ℕ) where
    get_ok : (l : Line) → line_at st.lines th.line ≡ l → (right a : ℕ) (g : Loc) (ss : List Slot) (rest : List (List ℕ)) (x : Option (List ℕ)) → children l ≡ a ∷ [] → template l ≡ ss → slots_of l ≡ Value g ∷ ss → get_elem? st.tuples m ≡ x → all (all_below n) rest ≡ true → PlanOk n (get_plan st k th right a g ss rest x)
    unfolding get_plan all_below
    get_ok l e right a g ss rest none c w s q h = tt
    get_ok l e right a g ss rest (some t) c w s q h =
        cond_at (PlanOk n) (agrees th g ss t)
        (λ ok. (
          after_ok st k _ [] rest i (get_stands l e a g ss t c w s (all_get (all_below n) st.tuples m i.tuples_fit q) ok) done h,
          loc_low l e g (subst (Elem (Value g)) (sym s) (first refl)),
        ))
        (λ no. tt)

    accept_ok : (a d : ℕ) (b c : Bool) → line_at st.lines th.line ≡ Accept a d → among st.arrivals r ≡ b → PlanOk n (accept_plan st k th r a d b c)
    unfolding accept_plan children template empty under box_policy
    accept_ok a d false c e p = tt
    accept_ok a d true false e p = tt
    accept_ok a d true true e p = (
      after_ok st k (to th a) _ st.tuples i (to_stands (Accept a d) e a (first refl) refl)
          (settle_ok n st.lines _ guest) i.tuples_fit,
      o.placed,
    )
      where
        root : ArrivalOk (length st.net.lines) st.lines r
        root = All-in i.arrivals_ok (among_in st.arrivals r p)

        guest : Standing n st.lines (under st.net d th.site r unbound)
        guest = record {
          placed = o.placed;
          policy_long = length_table 32 _;
          present = root.present;
          bindings_long = length-replicate {A = Option ℕ} 32 none;
          bindings_low = unbound_holds (λ u s. s < n);
          free_bound = λ u h. absurd (empty_none h root.closed);
        }

    out_low : (a : ℕ) (g : Loc) (fs : List Loc) → line_at st.lines th.line ≡ Out a g fs → all_below n (map (value th.site th.bindings) (g ∷ fs)) ≡ true
    unfolding all_below slots_of
    out_low a g fs e = all_map (λ v. ltb v n) (value th.site th.bindings) (g ∷ fs) ∙ (all_i _ (g ∷ fs) (λ x j. lt-ltb _ n (loc_low (Out a g fs) e x (in_map Value j))))

    plan_line : (l : Line) → line_at st.lines th.line ≡ l → PlanOk n (plan st k th m r l)
    unfolding plan children template slots_of empty under box_policy
    plan_line Nil e = tt
    plan_line (Par a b) e =
        after_ok st k (to th a) _ st.tuples i (to_stands (Par a b) e a (first refl) refl)
        (settle_ok n st.lines (to th b) (to_stands (Par a b) e b (later (first refl)) refl)) i.tuples_fit
    plan_line (Rep a) e =
        after_ok st k th _ st.tuples i o
        (settle_ok n st.lines (to th a) (to_stands (Rep a) e a (first refl) refl)) i.tuples_fit
    plan_line (Out a g fs) e = (
      after_ok st k (to th a) [] _ i (to_stands (Out a g fs) e a (first refl) refl) done
          (all_snoc (all_below n) st.tuples _ i.tuples_fit (out_low a g fs e)),
      loc_low (Out a g fs) e g (first refl),
    )
    plan_line (In a g ss) e = get_ok (In a g ss) e in_bit a g ss (splice m [] st.tuples) _ refl refl refl refl (all_splice (all_below n) m [] st.tuples (all_none (all_below n)) i.tuples_fit)
    plan_line (Read a g ss) e = get_ok (Read a g ss) e read_bit a g ss st.tuples _ refl refl refl refl i.tuples_fit
    plan_line (Eval a g b d) e =
        let low = loc_low (Eval a g b d) e g (first refl) in (
          after_ok st k (to th a) _ st.tuples i (to_stands (Eval a g b d) e a (first refl) refl)
              (settle_ok n st.lines _ (child_stands (Eval a g b d) e b _ _ (later (first refl)) refl low (length_table 32 _))) i.tuples_fit,
          low,
        )
    plan_line (Accept a d) e = accept_ok a d _ _ e refl

    pub plan_ok : PlanOk n (plan st k th m r (line_at st.lines th.line))
    plan_ok = plan_line _ refl

limit_ok : (st : State) (e : Event) (new : State) → Invariant st → Loose new → Invariant (limit st e new).state
unfolding limit
limit_ok st e new i o =
    cond_at (λ (x : Result). Invariant x.state) (leb (length new.threads) 64 & leb (length new.tuples) 256)
    (λ t. o (leb_le _ _ (and_l _ _ t)) (leb_le _ _ (and_r _ _ t)))
    (λ t. i)

finish_ok : (guarded : Bool) (st : State) (th : Thread) (pl : Plan) → Invariant st → PlanOk st.net.size pl → Invariant (finish guarded st th pl).state
unfolding finish
finish_ok guarded st th (stop n) i p = i
finish_ok guarded st th (quiet new) i p = limit_ok st silent new i p
finish_ok guarded st th (act t right new) i p =
    cond_at (λ (x : Result). Invariant x.state) (either (not guarded) (permits st.net th t right)) (λ b. limit_ok st _ new i p.0) (λ b. i)

step_of_ok : (guarded : Bool) (st : State) (k m r : ℕ) (x : Option Thread) → get_elem? st.threads k ≡ x → Invariant st → Invariant (step_of guarded st k m r x).state
unfolding step_of
step_of_ok guarded st k m r none e i = i
step_of_ok guarded st k m r (some th) e i = finish_ok guarded st th _ i (plan_ok st i th (standing (All-get k i.threads_ok e)) k m r)

-- both steps keep the invariant
pub step_keeps : (guarded : Bool) (st : State) (k m r : ℕ) → Invariant st → Invariant (step guarded st k m r).state
unfolding step
step_keeps guarded st k m r i = step_of_ok guarded st k m r _ refl i

fits_move : (n d : ℕ) (l : Line) → line_fits n (move d l) ≡ line_fits n l
unfolding line_fits move slots_of boxes_of
fits_move n d Nil = refl
fits_move n d (Par a b) = refl
fits_move n d (Rep a) = refl
fits_move n d (Out a g fs) = refl
fits_move n d (In a g fs) = refl
fits_move n d (Read a g fs) = refl
fits_move n d (Eval a g b k) = refl
fits_move n d (Accept a k) = refl

-- lines put behind leave an arrival and a thread as they are
arrival_old : (own : ℕ) (ls ms : List Line) → ordered ls ≡ true → (r : ℕ) → ArrivalOk own ls r → ArrivalOk own (ls ++ ms) r
arrival_old own ls ms f r o = record {
  present = omega (arith, o.present, length-append ls ms);
  closed = subst (λ (t : Tree). empty (free t) ≡ true) (sym (tree_old ls ms r f o.present)) o.closed;
  behind = o.behind;
  apart = subst (λ (l : List Line). ordered l ≡ true) (sym (take-append-le r ls ms (omega (arith, o.present)))) o.apart;
}

thread_old : (n : ℕ) (ls ms : List Line) → ordered ls ≡ true → (th : Thread) → ThreadOk n ls th → ThreadOk n (ls ++ ms) th
thread_old n ls ms f th o = record {
  placed = o.placed;
  policy_long = o.policy_long;
  present = omega (arith, o.present, length-append ls ms);
  running = ap is_nil (get_or-append ls ms Nil th.line o.present) ∙ o.running;
  bindings_long = o.bindings_long;
  bindings_low = o.bindings_low;
  free_bound = λ u h. o.free_bound u (subst (λ (t : Tree). Elem u (free t)) (tree_old ls ms th.line f o.present) h);
}

joined_ok : (st : State) (ms : List Line) → Invariant st → ArrivalRead st.net.size (length st.lines) ms → Invariant (joined st ms)
unfolding joined
joined_ok st ms i a = record {
  sites_some = i.sites_some;
  sites_few = i.sites_few;
  lines_few = omega (arith, a.few, total);
  threads_few = i.threads_few;
  tuples_few = i.tuples_few;
  lines_ordered = ordered_join st.lines ms i.lines_ordered a.lines_ordered;
  lines_fit = all_append (line_fits n) st.lines moved i.lines_fit (all_map (line_fits n) (move d) ms ∙ (all_turn (line_fits n) _ ms (λ l t. fits_move n d l ∙ t) a.lines_fit));
  stand_fit = i.stand_fit;
  stand_few = i.stand_few;
  stand_distinct = i.stand_distinct;
  tuples_fit = i.tuples_fit;
  own_lines = omega (arith, i.own_lines, total);
  arrivals_ok = All-append (All-turn (arrival_old own st.lines moved i.lines_ordered) i.arrivals_ok) (more new done);
  arrivals_rise = rising_snoc st.arrivals d i.arrivals_rise (all_i _ st.arrivals (λ s j. lt-ltb s d (All-in i.arrivals_ok j).present));
  threads_ok = All-turn (thread_old n st.lines moved i.lines_ordered) i.threads_ok;
}
  where
    n : ℕ
    n = st.net.size

    d : ℕ
    d = length st.lines

    own : ℕ
    own = length st.net.lines

    moved : List Line
    moved = map (move d) ms

    total : length (st.lines ++ moved) ≡ d + length ms
    total = length-append st.lines moved ∙ ap (λ (j : ℕ). d + j) (length-map ms (move d))

    new : ArrivalOk own (st.lines ++ moved) d
    new = record {
      present = omega (arith, a.some_line, total);
      closed = subst (λ (us : List ℕ). empty us ≡ true) (sym (free_new st.lines ms i.lines_ordered)) a.closed;
      behind = i.own_lines;
      apart = subst (λ (l : List Line). ordered l ≡ true) (sym (take-append_seam st.lines moved)) i.lines_ordered;
    }

bring_read_ok : (st : State) (x : Answer (List Line)) → ((ls : List Line) → x ≡ gives ls → ArrivalRead st.net.size (length st.lines) ls) → Invariant st → Invariant (bring_read st x).state
unfolding bring_read
bring_read_ok st (refused n row) h i = i
bring_read_ok st (gives ls) h i = joined_ok st ls i (h ls refl)

-- bring keeps the invariant
pub bring_keeps : (st : State) (bytes : List ℕ) → Invariant st → Invariant (bring st bytes).state
unfolding bring
bring_keeps st bytes i = bring_read_ok st _ (λ ls e. arrival_read _ _ bytes ls i.lines_few e) i

-- the first r lines, which name none behind them
module _ (ls : List Line) (r : ℕ) (few : r ≤ length ls) (t : ordered (take r ls) ≡ true) where
  first_long : length (take r ls) ≡ r
  first_long = length-take-le r ls few

  first_most : (n : ℕ) → length ls ≤ n → length (take r ls) ≤ n
  first_most n h = omega (arith, first_long)

  first_least : (n : ℕ) → n ≤ r → n ≤ length (take r ls)
  first_least n h = omega (arith, first_long)

  -- are enough for an arrival and a thread that stand on them
  arrival_first : (own s : ℕ) → s < r → ArrivalOk own ls s → ArrivalOk own (take r ls) s
  arrival_first own s h o = record {
    present = omega (arith, first_long);
    closed = subst (λ (t : Tree). empty (free t) ≡ true) (sym (tree_first ls r few t s h)) o.closed;
    behind = o.behind;
    apart = subst (λ (l : List Line). ordered l ≡ true) (sym (take-take s r ls (omega arith))) o.apart;
  }

  thread_first : (n : ℕ) (th : Thread) → th.line < r → ThreadOk n ls th → ThreadOk n (take r ls) th
  thread_first n th h o = record {
    placed = o.placed;
    policy_long = o.policy_long;
    present = omega (arith, first_long);
    running = ap is_nil (get_or-take r ls th.line Nil h) ∙ o.running;
    bindings_long = o.bindings_long;
    bindings_low = o.bindings_low;
    free_bound = λ u k. o.free_bound u (subst (λ (t : Tree). Elem u (free t)) (tree_first ls r few t th.line h) k);
  }

-- no thread stands on the lines from r on
pub unoccupied : (st : State) (r : ℕ) → occupied st r ≡ false → (th : Thread) → Elem th st.threads → th.line < r
unfolding occupied
unoccupied st r e th j = nleb_lt r th.line (any_none (λ x. leb r x.line) e j)

-- the newest arrival is an arrival, and the others have lesser roots
module _ (st : State) (i : Invariant st) (r : ℕ) (e : newest st.arrivals ≡ some r) where
  pub newest_ok : ArrivalOk (length st.net.lines) st.lines r
  newest_ok = All-in (subst (All (ArrivalOk (length st.net.lines) st.lines)) (newest_last st.arrivals e) i.arrivals_ok) (in_last (older st.arrivals) r)

  pub rises : rising (older st.arrivals ++ (r ∷ [])) ≡ true
  rises = subst (λ (rs : List ℕ). rising rs ≡ true) (newest_last st.arrivals e) i.arrivals_rise

  -- a line before its root stands for the process that it stood for
  pub kept_tree : (q : ℕ) → q < r → tree (take r st.lines) q ≡ tree st.lines q
  kept_tree = tree_first st.lines r (omega (arith, newest_ok.present)) newest_ok.apart

  freed_ok : occupied st r ≡ false → Invariant (freed st r)
  unfolding freed
  freed_ok free = record {
    sites_some = i.sites_some;
    sites_few = i.sites_few;
    lines_few = first_most st.lines r few newest_ok.apart line_limit i.lines_few;
    threads_few = i.threads_few;
    tuples_few = i.tuples_few;
    lines_ordered = newest_ok.apart;
    lines_fit = all_front (line_fits st.net.size) (take r st.lines) (drop r st.lines) (subst (λ (l : List Line). all (line_fits st.net.size) l ≡ true) (sym (take-append-drop r st.lines)) i.lines_fit);
    stand_fit = i.stand_fit;
    stand_few = i.stand_few;
    stand_distinct = i.stand_distinct;
    tuples_fit = i.tuples_fit;
    own_lines = first_least st.lines r few newest_ok.apart (length st.net.lines) newest_ok.behind;
    arrivals_ok = In-All (older st.arrivals) (λ s j. arrival_first st.lines r few newest_ok.apart (length st.net.lines) s (rising_less _ r rises s j) (old s j));
    arrivals_rise = rising_front (older st.arrivals) r rises;
    threads_ok = In-All st.threads (λ th j. thread_first st.lines r few newest_ok.apart st.net.size th (unoccupied st r free th j) (All-in i.threads_ok j));
  }
    where
      few : r ≤ length st.lines
      few = omega (arith, newest_ok.present)

      old : (s : ℕ) → Elem s (older st.arrivals) → ArrivalOk (length st.net.lines) st.lines s
      old s j = All-in i.arrivals_ok (subst (Elem s) (sym (newest_last st.arrivals e)) (in_front (r ∷ []) j))

withdraw_root_ok : (st : State) (x : Option ℕ) → newest st.arrivals ≡ x → Invariant st → Invariant (withdraw_root st x).state
unfolding withdraw_root
withdraw_root_ok st none e i = i
withdraw_root_ok st (some r) e i = cond_at (λ (x : Result). Invariant x.state) (occupied st r) (λ t. i) (λ t. freed_ok st i r e t)

-- withdraw keeps the invariant
pub withdraw_keeps : (st : State) → Invariant st → Invariant (withdraw st).state
unfolding withdraw
withdraw_keeps st i = withdraw_root_ok st _ refl i

settle_short : (ls : List Line) (th : Thread) → length (settle ls th) ≤ 1
unfolding settle
settle_short ls th = cond_at (λ (ts : List Thread). length ts ≤ 1) (is_nil (line_at ls th.line)) (λ t. omega arith) (λ t. omega arith)

root_stands : (N : Net) (r : Root) → RootOk N r → Standing N.size N.lines (root_thread N r)
unfolding root_thread home_policy
root_stands N r o = record {
  placed = o.placed;
  policy_long = length_table 32 _;
  present = o.present;
  bindings_long = length-replicate {A = Option ℕ} 32 none;
  bindings_low = unbound_holds (λ u s. s < N.size);
  free_bound = λ u h. absurd (empty_none h o.closed);
}

begin_ok : (w : World) → NetOk w.net → EstimateOk w.net.size w.estimate → Invariant (begin w)
unfolding begin rising
begin_ok w n e = record {
  sites_some = n.sites_some;
  sites_few = n.sites_few;
  lines_few = n.lines_few;
  threads_few = omega (arith, n.roots_few, concat_short (λ r. settle w.net.lines (root_thread w.net r)) (λ r. settle_short _ _) w.net.roots);
  tuples_few = n.tuples_few;
  lines_ordered = n.lines_ordered;
  lines_fit = n.lines_fit;
  stand_fit = e.stand_fit;
  stand_few = e.stand_few;
  stand_distinct = e.stand_distinct;
  tuples_fit = n.tuples_fit;
  own_lines = omega arith;
  arrivals_ok = done;
  arrivals_rise = refl;
  threads_ok = All-concat (λ r. settle w.net.lines (root_thread w.net r)) (λ r o. settle_ok w.net.size w.net.lines (root_thread w.net r) (root_stands w.net r o)) n.roots_ok;
}

-- every start gives the invariant
pub start_gives : (net estimate : List ℕ) (st : State) → start net estimate ≡ gives st → Invariant st
unfolding start
start_gives net estimate st e =
    let (w, r, q) = then_gives (read_both net estimate) e in
    let p : begin w ≡ st = cc in
    let (n, m) = both_read net estimate w r in
    subst Invariant p (begin_ok w n m)
