-- When a bare step can perform, by the line that the thread stands on; and the lowest such thread.
-- Assumes nothing.
use mathlib.Core.Path.{◌≡◌, refl, sym, ap, ap₂, ◌∙◌}
use mathlib.Core.Bool.{Bool, true, false, cond, false≢true}
use mathlib.Core.List.{List, [], ◌∷◌, ◌++◌, map}
use mathlib.Core.Option.{none-ne-some, Option, none, some}
use Prim.Native.Nat.{ℕ, zero, suc, ◌+◌, ◌-◌, ◌<◌, ◌≤◌}
use native.Mathlib.Omega.{arith}
use native.Mathlib.Nat.{min-eq_left}
use lib.Dec.{eqb, leb, ltb}
use lib.ListN.{length, get_elem?, length-append}
use Rattle.sets.specs.Lists.{Elem, first, later, ◌&◌, either, any, only, keep, splice, below, table, table_from, among, ◌⧺◌}
use Rattle.sets.proofs.Splice.{splice_long}
use Rattle.sets.specs.Bits.{out_bit, in_bit, read_bit, eval_bit, accept_bit}
use Rattle.sets.proofs.Lists.{and_l, and_r, and_i, iff, any_at, any_i, in_any, eq-eqb, leb_le, le-leb, ltb_lt, lt-ltb, among_in}
use Rattle.klaim.specs.declared.Loc.{Loc}
use Rattle.klaim.specs.declared.Slot.{Slot}
use Rattle.klaim.specs.declared.Slot.TheVariants.{Value}
use Rattle.klaim.specs.Process.{Line, Nil, Par, Rep, Out, In, Read, Eval, Accept, line_at, tree}
use Rattle.klaim.specs.Analysis.{lesser, least}
use Rattle.klaim.specs.Report.{door}
use Rattle.klaim.specs.State.{Thread, State, is_nil, settle, unbound}
use Rattle.klaim.specs.Invariant.{Invariant}
use Rattle.klaim.specs.Reader.{refused, gives}
use Rattle.klaim.specs.Engine.{Event, Result, stop, act, after, silent, performed, to, under, value, bind_all, agrees, get_plan, accept_plan, plan, limit, finish, step_of, step, performs, runnable}
use Rattle.klaim.proofs.Ready.{runnable_any}
use Rattle.ready.specs.Runs.{standing, room, welcome, runs}

-- a place with an element lies within the list, and has one of the elements
module _ {A : Type 0} where
  place_low : (xs : List A) (k : ℕ) {x : A} → get_elem? xs k ≡ some x → k < length xs
  place_low [] k e = absurd (none-ne-some _ e)
  place_low (y ∷ xs) zero e = omega arith
  place_low (y ∷ xs) (suc k) e = omega (arith, place_low xs k e)

  place_in : (xs : List A) (k : ℕ) {x : A} → get_elem? xs k ≡ some x → Elem x xs
  place_in [] k e = absurd (none-ne-some _ e)
  place_in (y ∷ xs) zero {x} e =
      let q : x ≡ y = cc in
      first q
  place_in (y ∷ xs) (suc k) e = later (place_in xs k e)

  in_place : {x : A} {xs : List A} → Elem x xs → (k : ℕ) × (get_elem? xs k ≡ some x)
  in_place (first e) = (0, ap (λ (y : A). some y) (sym e))
  in_place (later i) = let r = in_place i in (suc r.0, r.1)

  splice_short : (k : ℕ) (xs : List A) → length (splice k [] xs) ≤ length xs
  unfolding splice
  splice_short k [] = omega arith
  splice_short zero (x ∷ xs) = omega arith
  splice_short (suc k) (x ∷ xs) = omega (arith, splice_short k xs)

settle_length : (ls : List Line) (th : Thread) → length (settle ls th) ≡ standing ls th.line
unfolding settle standing
settle_length ls th = go (is_nil (line_at ls th.line))
  where
    go : (b : Bool) → length (cond b [] (th ∷ [])) ≡ cond b 0 1
    go true = refl
    go false = refl

standing_low : (ls : List Line) (q : ℕ) → standing ls q ≤ 1
unfolding standing
standing_low ls q = go (is_nil (line_at ls q))
  where
    go : (b : Bool) → cond b 0 1 ≤ 1
    go true = omega arith
    go false = omega arith

-- 27 alone stops what is planned
cond_performs : (b : Bool) (x y : Result) → performs x.answer ≡ true → performs y.answer ≡ false → performs (cond b x y).answer ≡ b
cond_performs true x y p q = p
cond_performs false x y p q = q

limit_performs : (st : State) (e : Event) (new : State) → performs (limit st e new).answer ≡ (leb (length new.threads) 64 & leb (length new.tuples) 256)
unfolding limit performs
limit_performs st e new = cond_performs (leb (length new.threads) 64 & leb (length new.tuples) 256) (record { answer = gives e; state = new }) (record { answer = refused 27 0; state = st }) refl refl

room_test : (l t n x y : ℕ) → suc l ≡ n + x + y → t ≤ 256 → (leb l 64 & leb t 256) ≡ leb (n + x + y) 65
room_test l t n x y e f =
    iff
    (λ h. le-leb (n + x + y) 65 (omega (arith, leb_le l 64 (and_l (leb l 64) (leb t 256) h))))
    (λ h. and_i (le-leb l 64 (omega (arith, leb_le (n + x + y) 65 h))) (le-leb t 256 f))

more_test : (t l : ℕ) → l ≡ suc t → leb l 256 ≡ ltb t 256
more_test t l e = iff (λ h. lt-ltb t 256 (omega (arith, leb_le l 256 h))) (λ h. le-leb l 256 (omega (arith, ltb_lt t 256 h)))

-- thread k of a state is th
module _ (st : State) (inv : Invariant st) (k : ℕ) (th : Thread) (at : get_elem? st.threads k ≡ some th) where
  low : k < length st.threads
  low = place_low st.threads k at

  after_length : (t : Thread) (more : List Thread) (ts : List (List ℕ)) → suc (length (after st k t more ts).threads) ≡ length st.threads + standing st.lines t.line + length more
  unfolding after
  after_length t more ts =
      omega (arith, length-append (splice k (settle st.lines t) st.threads) more, splice_long k (settle st.lines t) st.threads low, low, settle_length st.lines t)

  -- one thread goes on and one is appended
  room_limit : (t u : Thread) (e : Event) → performs (limit st e (after st k t (settle st.lines u) st.tuples)).answer ≡ room (length st.threads) st.lines t.line u.line
  unfolding room after
  room_limit t u e =
      limit_performs st e (after st k t (settle st.lines u) st.tuples)
      ∙ room_test _ _ (length st.threads) (standing st.lines t.line) (standing st.lines u.line) (after_length t (settle st.lines u) st.tuples ∙ ap (λ (x : ℕ). length st.threads + standing st.lines t.line + x) (settle_length st.lines u)) inv.tuples_few

  -- one thread goes on alone
  alone_few : (t : Thread) (ts : List (List ℕ)) → length (after st k t [] ts).threads ≤ 64
  alone_few t ts = omega (arith, after_length t [] ts, standing_low st.lines t.line, inv.threads_few)

  alone_limit : (t : Thread) (e : Event) (ts : List (List ℕ)) → performs (limit st e (after st k t [] ts)).answer ≡ leb (length ts) 256
  unfolding after ◌&◌
  alone_limit t e ts = limit_performs st e (after st k t [] ts) ∙ ap (λ (b : Bool). b & leb (length ts) 256) (le-leb _ _ (alone_few t ts))

  -- what a step with m and r comes to
  does : ℕ → ℕ → Line → Bool
  does m r l = performs (finish false st th (plan st k th m r l)).answer

  -- in and read, by the tuple named
  get_does : (right a : ℕ) (g : Loc) (ss : List Slot) (rest : List (List ℕ)) (t : List ℕ) → length rest ≤ 256 → performs (finish false st th (get_plan st k th right a g ss rest (some t))).answer ≡ agrees th g ss t
  unfolding get_plan finish either performs
  get_does right a g ss rest t h = go (agrees th g ss t)
    where
      e : List (Option ℕ)
      e = bind_all (Value g ∷ ss) t th.bindings

      go : (b : Bool) → performs (finish false st th (cond b (act (value th.site th.bindings g) right (after st k (record { site = th.site; policy = th.policy; line = a; bindings = e }) [] rest)) (stop 23))).answer ≡ b
      go true = alone_limit (record { site = th.site; policy = th.policy; line = a; bindings = e }) (performed th.site (value th.site th.bindings g) right) rest ∙ le-leb _ _ h
      go false = refl

  get_sound : (right a : ℕ) (g : Loc) (ss : List Slot) (rest : List (List ℕ)) (m : ℕ) (x : Option (List ℕ)) → get_elem? st.tuples m ≡ x → length rest ≤ 256 → performs (finish false st th (get_plan st k th right a g ss rest x)).answer ≡ true → any (agrees th g ss) st.tuples ≡ true
  unfolding get_plan finish performs
  get_sound right a g ss rest m none e h p = absurd (false≢true p)
  get_sound right a g ss rest m (some t) e h p = any_i (agrees th g ss) (place_in st.tuples m e) (sym (get_does right a g ss rest t h) ∙ p)

  -- accept, by its two tests
  accept_sound : (m r a d : ℕ) (b p : Bool) → among st.arrivals r ≡ b → door st.net st.estimate d th.site (tree st.lines r) ≡ p → performs (finish false st th (accept_plan st k th r a d b p)).answer ≡ true → any (welcome st th a d) st.arrivals ≡ true
  unfolding accept_plan finish performs either welcome to under
  accept_sound m r a d false p e q t = absurd (false≢true t)
  accept_sound m r a d true false e q t = absurd (false≢true t)
  accept_sound m r a d true true e q t =
      any_i (welcome st th a d) (among_in st.arrivals r e)
      (and_i q (sym (room_limit (to th a) (under st.net d th.site r unbound) (performed th.site th.site accept_bit)) ∙ t))

  out_does : (a : ℕ) (g : Loc) (fs : List Loc) → performs (limit st (performed th.site (value th.site th.bindings g) out_bit) (after st k (to th a) [] (st.tuples ++ (map (value th.site th.bindings) (g ∷ fs) ∷ [])))).answer ≡ ltb (length st.tuples) 256
  out_does a g fs =
      let row = map (value th.site th.bindings) (g ∷ fs) in
      alone_limit (to th a) (performed th.site (value th.site th.bindings g) out_bit) (st.tuples ++ (row ∷ []))
      ∙ more_test (length st.tuples) (length (st.tuples ++ (row ∷ []))) (omega (arith, length-append st.tuples (row ∷ [])))

  sound : (m r : ℕ) (l : Line) → does m r l ≡ true → runs st th l ≡ true
  unfolding does plan finish performs either runs to under
  sound m r Nil h = h
  sound m r (Par a b) h = sym (room_limit (to th a) (to th b) silent) ∙ h
  sound m r (Rep a) h = sym (room_limit th (to th a) silent) ∙ h
  sound m r (Out a g fs) h = sym (out_does a g fs) ∙ h
  sound m r (In a g ss) h = get_sound in_bit a g ss _ m _ refl (omega (arith, splice_short m st.tuples, inv.tuples_few)) h
  sound m r (Read a g ss) h = get_sound read_bit a g ss _ m _ refl inv.tuples_few h
  sound m r (Eval a g b d) h = sym (room_limit (to th a) (under st.net d _ b th.bindings) (performed th.site (value th.site th.bindings g) eval_bit)) ∙ h
  sound m r (Accept a d) h = accept_sound m r a d _ _ refl refl h

  get_complete : (right a : ℕ) (g : Loc) (ss : List Slot) (rest : ℕ → List (List ℕ)) → ((m : ℕ) → length (rest m) ≤ 256) → any (agrees th g ss) st.tuples ≡ true → (m : ℕ) × (r : ℕ) × (performs (finish false st th (get_plan st k th right a g ss (rest m) (get_elem? st.tuples m))).answer ≡ true)
  get_complete right a g ss rest few h =
      let (t, i, p) = any_at (agrees th g ss) st.tuples h in
      let (m, e) = in_place i in
      (m, 0, ap (λ (x : Option (List ℕ)). performs (finish false st th (get_plan st k th right a g ss (rest m) x)).answer) e ∙ get_does right a g ss (rest m) t (few m) ∙ p)

  accept_complete : (a d r : ℕ) → Elem r st.arrivals → welcome st th a d r ≡ true → performs (finish false st th (accept_plan st k th r a d (among st.arrivals r) (door st.net st.estimate d th.site (tree st.lines r)))).answer ≡ true
  unfolding welcome among accept_plan finish either to under
  accept_complete a d r i h =
      ap₂ (λ (b p : Bool). performs (finish false st th (accept_plan st k th r a d b p)).answer) (in_any eqb eq-eqb i) (and_l _ _ h)
      ∙ room_limit (to th a) (under st.net d th.site r unbound) (performed th.site th.site accept_bit)
      ∙ and_r _ _ h

  step_does : (m r : ℕ) → performs (step false st k m r).answer ≡ does m r (line_at st.lines th.line)
  unfolding step step_of does
  step_does m r = ap (λ (x : Option Thread). performs (step_of false st k m r x).answer) at

  -- some m and r do it
  complete : (l : Line) → runs st th l ≡ true → (m : ℕ) × (r : ℕ) × (does m r l ≡ true)
  unfolding does plan finish performs either runs to under
  complete Nil h = absurd (false≢true h)
  complete (Par a b) h = (0, 0, room_limit (to th a) (to th b) silent ∙ h)
  complete (Rep a) h = (0, 0, room_limit th (to th a) silent ∙ h)
  complete (Out a g fs) h = (0, 0, out_does a g fs ∙ h)
  complete (In a g ss) h = get_complete in_bit a g ss (λ m. splice m [] st.tuples) (λ m. omega (arith, splice_short m st.tuples, inv.tuples_few)) h
  complete (Read a g ss) h = get_complete read_bit a g ss (λ m. st.tuples) (λ m. inv.tuples_few) h
  complete (Eval a g b d) h = (0, 0, room_limit (to th a) (under st.net d (value th.site th.bindings g) b th.bindings) (performed th.site (value th.site th.bindings g) eval_bit) ∙ h)
  complete (Accept a d) h =
      let w = any_at (welcome st th a d) st.arrivals h in
      (0, w.0, accept_complete a d w.0 w.1 w.2)

  pub runnable_is : runnable st k ≡ runs st th (line_at st.lines th.line)
  unfolding runnable
  runnable_is = iff there back
    where
      there : any (λ m. any (λ r. performs (step false st k m r).answer) (0 ∷ st.arrivals)) (below (suc (length st.tuples))) ≡ true → runs st th (line_at st.lines th.line) ≡ true
      there h =
          let w = any_at _ (below (suc (length st.tuples))) h in
          let v = any_at (λ r. performs (step false st k w.0 r).answer) (0 ∷ st.arrivals) w.2 in
          sound w.0 v.0 (line_at st.lines th.line) (sym (step_does w.0 v.0) ∙ v.2)

      back : runs st th (line_at st.lines th.line) ≡ true → any (λ m. any (λ r. performs (step false st k m r).answer) (0 ∷ st.arrivals)) (below (suc (length st.tuples))) ≡ true
      back h =
          let w = complete (line_at st.lines th.line) h in
          runnable_any st k w.0 w.1 (step_does w.0 w.1 ∙ w.2)

-- the places from i on, below n
abbrev pub From : ℕ → ℕ → List ℕ
From n i = table_from (n - i) i (λ k. k)

from_cons : (n i : ℕ) → i < n → From n i ≡ i ∷ From n (suc i)
unfolding table_from
from_cons n i h = ap (λ (m : ℕ). table_from m i (λ k. k)) less
  where
    less : n - i ≡ suc (n - suc i)
    less = omega arith

-- the lowest of those that pass a test
module _ (f : ℕ → Bool) where
  least_step : (b : Bool) (i : ℕ) (ys : List ℕ) (x : ℕ) → x ≤ i → lesser i (least ys) ≡ i → lesser x (least ys) ≡ x → lesser x (least (only b i ⧺ ys)) ≡ x
  unfolding only ◌⧺◌ lesser least
  least_step true i ys x h p q = rw p (min-eq_left h)
  least_step false i ys x h p q = q

  least_low : (n i x : ℕ) → x ≤ i → lesser x (least (keep f (table_from n i (λ k. k)))) ≡ x
  unfolding table_from keep lesser least
  least_low zero i x h = refl
  least_low (suc n) i x h = least_step (f i) i (keep f (table_from n (suc i) (λ k. k))) x h (least_low n (suc i) i (omega arith)) (least_low n (suc i) x (omega arith))

  pub lowest_start : (n : ℕ) → least (keep f (below n)) ≡ least (keep f (From n 0))
  unfolding below table
  lowest_start n = ap (λ (m : ℕ). least (keep f (table_from m 0 (λ k. k)))) whole
    where
      whole : n ≡ n - 0
      whole = omega arith

  pub lowest_here : (n i : ℕ) → i < n → f i ≡ true → least (keep f (From n i)) ≡ some i
  unfolding keep only ◌⧺◌ least
  lowest_here n i h t =
      ap (λ (xs : List ℕ). least (keep f xs)) (from_cons n i h)
      ∙ ap (λ (b : Bool). least (only b i ⧺ keep f (From n (suc i)))) t
      ∙ ap (λ (x : ℕ). some x) (least_low (n - suc i) (suc i) i (omega arith))

  pub lowest_later : (n i : ℕ) → i < n → f i ≡ false → (j : ℕ) → suc i ≡ j → least (keep f (From n i)) ≡ least (keep f (From n j))
  unfolding keep only ◌⧺◌
  lowest_later n i h t j e =
      ap (λ (xs : List ℕ). least (keep f xs)) (from_cons n i h)
      ∙ ap (λ (b : Bool). least (only b i ⧺ keep f (From n (suc i)))) t
      ∙ ap (λ (k : ℕ). least (keep f (From n k))) e

  pub lowest_end : (n i : ℕ) → n ≤ i → least (keep f (From n i)) ≡ none
  unfolding table_from keep least
  lowest_end n i h = ap (λ (m : ℕ). least (keep f (table_from m i (λ k. k)))) nothing
    where
      nothing : n - i ≡ 0
      nothing = omega arith
