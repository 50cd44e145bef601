-- What the analysis says of a thread, by the process of its line, and that each step keeps it.
-- Assumes nothing.
use mathlib.Core.Path.{◌≡◌, refl, sym, ap, subst, ◌∙◌}
use mathlib.Core.Logic.{◌⊎◌, inl, inr}
use mathlib.Core.Bool.{Bool, true, false, not, cond, false≢true}
use mathlib.Core.List.{List, [], ◌∷◌, map}
use mathlib.Core.Option
use mathlib.Core.Option.{Option, none, some, none-ne-some}
use Prim.Native.Nat.{ℕ, suc, ◌<◌, ◌≤◌, ◌^◌}
use lib.ListN.{length, get_or}
use lib.Dec.{eqb}
use Rattle.sets.specs.Lists.{Elem, first, later, ◌&◌, imp, all, empty, same, below}
use Rattle.sets.specs.Bits.{out_bit, eval_bit, accept_bit, has, mem, sites, join, within, grant}
use Rattle.sets.proofs.Lists.{eq-eqb, and_l, and_r, and_i, imp_e, split, eqb_eq, all_at, any_in, empty_l, empty_r, empty_only, empty_concat, same_eq}
use Rattle.sets.proofs.Tables.{get_or_table, below_in}
use Rattle.sets.proofs.Bits.{has_none, has_self, has_less, or_has_l, or_has_r, within_has, grant_has, joins_has, meets_has, sites_in_lem, in_sites}
use Rattle.klaim.specs.declared.Loc.{Loc}
use Rattle.klaim.specs.declared.Slot.{Slot}
use Rattle.klaim.specs.declared.Slot.TheVariants.{Value, Bind, Wildcard}
use Rattle.klaim.specs.Process.{Tree, par_t, rep_t, out_t, get_t, eval_t, accept_t}
use Rattle.klaim.specs.Net.{Root, Net, Estimate, home, box_at, may, holds}
use Rattle.klaim.specs.Analysis.{reach, place_set, reached, slot_match, matches, choices, first_not, least, accepted, verdict_of, stands, bound, out_rule, get_rule, eval_rule, broken, broken_tuple, broken_line, process, verdict}
use Rattle.klaim.specs.Report.{sure, uses, eval_adds, adds, root_adds, hold_adds, report_at, adds_nothing, door}
use Rattle.klaim.specs.State.{Bindings, unbound, home_policy, box_policy}
use Rattle.klaim.specs.Engine.{value, bind_all}
use Rattle.klaim.specs.Invariant.{all_below}
use Rattle.klaim.proofs.Bindings.{Holds, unbound_holds, BindsLow, bind_holds, LocOk, value_in, each_bound}

-- a choice that passes
choices_at : (rch : Loc → List ℕ) (val : Loc → ℕ) (xs : List Loc) → ((x : Loc) → Elem x xs → Elem (val x) (rch x)) → (f : List ℕ → Bool) → choices (map rch xs) f ≡ true → f (map val xs) ≡ true
unfolding choices
choices_at rch val [] ok f t = t
choices_at rch val (x ∷ xs) ok f t = choices_at rch val xs (λ y i. ok y (later i)) (λ ys. f (val x ∷ ys)) (all_at (λ y. choices (map rch xs) (λ ys. f (y ∷ ys))) (ok x (first refl)) t)

-- a tuple that agrees in its values agrees in their reaches
slot_in : (rch : Loc → ℕ) (val : Loc → ℕ) (s : Slot) → ((x : Loc) → s ≡ Value x → Elem (val x) (sites (rch x))) → (v : ℕ) → slot_match (λ x w. eqb w (val x)) s v ≡ true → slot_match (λ x w. mem w (rch x)) s v ≡ true
unfolding slot_match
slot_in rch val (Value x) ok v t = subst (λ (w : ℕ). mem w (rch x) ≡ true) (sym (eqb_eq t)) (in_sites (rch x) _ (ok x refl)).1
slot_in rch val (Bind u) ok v t = refl
slot_in rch val Wildcard ok v t = t

matches_in : (rch : Loc → ℕ) (val : Loc → ℕ) (ss : List Slot) → ((x : Loc) → Elem (Value x) ss → Elem (val x) (sites (rch x))) → (vs : List ℕ) → matches (λ x w. eqb w (val x)) ss vs ≡ true → matches (λ x w. mem w (rch x)) ss vs ≡ true
unfolding matches
matches_in rch val [] ok [] t = refl
matches_in rch val [] ok (v ∷ vs) t = t
matches_in rch val (s ∷ ss) ok [] t = t
matches_in rch val (s ∷ ss) ok (v ∷ vs) t = and_i (slot_in rch val s (λ x e. ok x (first (sym e))) v (and_l _ _ t)) (matches_in rch val ss (λ x i. ok x (later i)) vs (and_r _ _ t))

-- the verdict is 'accepted' only where nothing is broken
verdict_both : (i q : Option ℕ) → verdict_of i q ≡ accepted → (i ≡ none) × (q ≡ none)
unfolding verdict_of
verdict_both none none t = (refl, refl)
verdict_both none (some q) t = (refl, cc)
verdict_both (some i) q t = (cc, cc)

some_none : {x : ℕ} → some x ≡ none → ⊥
some_none {x} e = none-ne-some x (sym e)

least_none : (xs : List ℕ) → least xs ≡ none → empty xs ≡ true
unfolding least empty
least_none [] e = refl
least_none (x ∷ xs) e = absurd (some_none e)

map_none : (b : Bool) (o : Option ℕ) → cond b (Option.map suc o) (some 0) ≡ none → (b ≡ true) × (o ≡ none)
map_none true none e = (refl, refl)
map_none true (some x) e = absurd (some_none e)
map_none false o e = absurd (some_none e)

first_not_none : {A : Type 0} (f : A → Bool) {x : A} {xs : List A} → Elem x xs → first_not f xs ≡ none → f x ≡ true
unfolding first_not
first_not_none f (first {y = y} {ys = ys} e) t = ap f e ∙ (map_none (f y) (first_not f ys) t).0
first_not_none f (later {y = y} {ys = ys} h) t = first_not_none f h (map_none (f y) (first_not f ys) t).1

module _ (N : Net) (E : Estimate) where
  -- what a variable may become
  abbrev pub May : ℕ → ℕ → Type 0
  May u s = Elem s (sites (may E u))

  -- both policies have right i on site t, or the report lists it
  abbrev pub Fine : ℕ → List ℕ → ℕ → ℕ → Type 0
  Fine l p t i = (has (get_or p t 0) (2 ^ i) & has (home N l t) (2 ^ i) ≡ true) ⊎ (has (report_at N E l t) (2 ^ i) ≡ true)

  -- the use of a right (one bit) on t by a thread at l under p
  pub record Used (l : ℕ) (p : List ℕ) (t right : ℕ) : Type 0 where
    pub bit : ℕ
    pub is_bit : right ≡ 2 ^ bit
    pub here_low : l < 32
    pub there_low : t < 32
    pub fine : Fine l p t bit

  -- what is known of a thread at l under p with bindings e whose line stands for t: with some place set P, no rule is broken,
  -- the report has what its eval lines add, what is bound may be, and each right of its use map is fine
  pub record Good (l : ℕ) (p : List ℕ) (e : Bindings) (t : Tree) : Type 0 where
    pub P : ℕ
    pub here : Elem l (sites P)
    pub lawful : empty (broken N E P t) ≡ true
    pub reported : (s o i : ℕ) → s < 32 → o < 32 → has (adds N E P t s o) (2 ^ i) ≡ true → has (report_at N E s o) (2 ^ i) ≡ true
    pub inside : Holds May e
    pub cover : (o i : ℕ) → o < 32 → has (uses N E P t o) (2 ^ i) ≡ true → Fine l p o i

  stands_in : (t : List ℕ) → stands E t ≡ true → Elem t E.stand
  unfolding stands
  stands_in t h = any_in same same_eq t _ h

  -- E rights beyond the home policy are in the report
  held : (l o i : ℕ) → has (holds E l o) (2 ^ i) ≡ true → not (has (home N l o) (2 ^ i)) ≡ true → has (report_at N E l o) (2 ^ i) ≡ true
  unfolding report_at hold_adds
  held l o i h n = or_has_r _ _ i (or_has_r _ _ i (has_less _ _ i h n))

  -- a policy has what it was made of
  box_has : (k l o i : ℕ) → o < 32 → has (box_at N k l o) (2 ^ i) ≡ true → has (get_or (box_policy N k l) o 0) (2 ^ i) ≡ true
  unfolding box_policy
  box_has k l o i low t = ap (λ (b : ℕ). has b (2 ^ i)) (get_or_table 32 (box_at N k l) o 0 low) ∙ t

  home_has : (s o i : ℕ) → o < 32 → has (home N s o) (2 ^ i) ≡ true → has (get_or (home_policy N s) o 0) (2 ^ i) ≡ true
  unfolding home_policy
  home_has s o i low t = ap (λ (b : ℕ). has b (2 ^ i)) (get_or_table 32 (home N s) o 0 low) ∙ t

  -- the body of an eval, sent to a site t of its target's reach: a sure right
  body_sure : (P : ℕ) (x : Loc) (k t o i : ℕ) → o < 32 → Elem t (reached E P x) → eval_rule N E P x k ≡ true → has (sure N k (reach E P x) o) (2 ^ i) ≡ true → Fine t (box_policy N k t) o i
  unfolding sure eval_rule
  body_sure P x k t o i low j r s =
      let a : has (box_at N k t o) (2 ^ i) ≡ true = meets_has (λ l. box_at N k l o) i j s in
      go a (split (has (home N t o) (2 ^ i)))
    where
      lies : within (box_at N k t o) (holds E t o) ≡ true
      lies = all_at (λ o. within (box_at N k t o) (holds E t o)) (below_in 32 o low) (all_at (λ l'. all (λ o. within (box_at N k l' o) (holds E t o)) (below 32)) j (all_at (λ l. all (λ l'. all (λ o. within (box_at N k l' o) (holds E l o)) (below 32)) (reached E P x)) j r))

      go : has (box_at N k t o) (2 ^ i) ≡ true → ((has (home N t o) (2 ^ i) ≡ true) ⊎ (not (has (home N t o) (2 ^ i)) ≡ true)) → Fine t (box_policy N k t) o i
      go a (inl h) = inl (and_i (box_has k t o i low a) h)
      go a (inr n) = inr (held t o i (within_has _ _ i lies a) n)

  -- and any other
  body_rest : (m k : ℕ) (b : Tree) (t o i : ℕ) → Elem t (sites m) → has (uses N E m b o) (2 ^ i) ≡ true → not (has (sure N k m o) (2 ^ i)) ≡ true → has (eval_adds N E m k b t o) (2 ^ i) ≡ true
  unfolding eval_adds
  body_rest m k b t o i j h n = grant_has (mem t m) _ i (in_sites m t j).1 (has_less _ _ i h n)

  module _ {l : ℕ} {p : List ℕ} {e : Bindings} where
    pub good_par_l : {a b : Tree} → Good l p e (par_t a b) → Good l p e a
    unfolding broken adds uses
    good_par_l g = record { P = g.P; here = g.here; lawful = empty_l _ _ g.lawful; reported = λ s o i x y h. g.reported s o i x y (or_has_l _ _ i h); inside = g.inside; cover = λ o i y h. g.cover o i y (or_has_l _ _ i h) }

    pub good_par_r : {a b : Tree} → Good l p e (par_t a b) → Good l p e b
    unfolding broken adds uses
    good_par_r g = record { P = g.P; here = g.here; lawful = empty_r _ _ g.lawful; reported = λ s o i x y h. g.reported s o i x y (or_has_r _ _ i h); inside = g.inside; cover = λ o i y h. g.cover o i y (or_has_r _ _ i h) }

    pub good_rep : {a : Tree} → Good l p e (rep_t a) → Good l p e a
    unfolding broken adds uses
    good_rep g = record { P = g.P; here = g.here; lawful = g.lawful; reported = g.reported; inside = g.inside; cover = g.cover }

    pub good_out : {q : ℕ} {x : Loc} {fs : List Loc} {a : Tree} → Good l p e (out_t q x fs a) → Good l p e a
    unfolding broken adds uses
    good_out g = record { P = g.P; here = g.here; lawful = empty_r _ _ g.lawful; reported = g.reported; inside = g.inside; cover = λ o i y h. g.cover o i y (or_has_l _ _ i h) }

    pub good_eval : {q : ℕ} {x : Loc} {k : ℕ} {b a : Tree} → Good l p e (eval_t q x k b a) → Good l p e a
    unfolding broken adds uses
    good_eval g = record { P = g.P; here = g.here; lawful = empty_r _ _ (empty_r _ _ g.lawful); reported = λ s o i x y h. g.reported s o i x y (or_has_r _ _ i (or_has_r _ _ i h)); inside = g.inside; cover = λ o i y h. g.cover o i y (or_has_l _ _ i h) }

    pub good_accept : {k : ℕ} {a : Tree} → Good l p e (accept_t k a) → Good l p e a
    unfolding broken adds uses
    good_accept g = record { P = g.P; here = g.here; lawful = g.lawful; reported = g.reported; inside = g.inside; cover = λ o i y h. g.cover o i y (or_has_l _ _ i h) }

    -- what follows needs that the fields' variables are bound
    module _ {n : ℕ} (few : n ≤ 32) where
      pub good_get : {q r : ℕ} {x : Loc} {ss : List Slot} {a : Tree} (t : List ℕ) → Good l p e (get_t q r x ss a) → ((y : Loc) → Elem (Value y) (Value x ∷ ss) → LocOk n e y) → length e ≡ 32 → BindsLow 32 (Value x ∷ ss) → Elem t E.stand → all_below n t ≡ true → matches (λ y v. eqb v (value l e y)) (Value x ∷ ss) t ≡ true → Good l p (bind_all (Value x ∷ ss) t e) a
      unfolding broken adds uses get_rule
      good_get {q} {r} {x} {ss} {a} t g ok long binds s low m =
          let m' : matches (λ y v. mem v (reach E g.P y)) (Value x ∷ ss) t ≡ true = matches_in (reach E g.P) (value l e) (Value x ∷ ss) (λ y j. value_in E g.P y (ok y j) few g.here g.inside) t m in
          let b : bound E (Value x ∷ ss) t ≡ true = imp_e _ _ (all_at (λ row. imp (matches (λ y v. mem v (reach E g.P y)) (Value x ∷ ss) row) (bound E (Value x ∷ ss) row)) s (empty_only _ _ (empty_l _ _ g.lawful))) m' in
          record { P = g.P; here = g.here; lawful = empty_r _ _ g.lawful; reported = g.reported; inside = bind_holds 32 May (Value x ∷ ss) t e long binds (each_bound n E (Value x ∷ ss) t few low b) g.inside; cover = λ o i y h. g.cover o i y (or_has_l _ _ i h) }

      -- the tuple put out is within the estimate
      pub out_stands : {q : ℕ} {x : Loc} {fs : List Loc} {a : Tree} → Good l p e (out_t q x fs a) → ((y : Loc) → Elem y (x ∷ fs) → LocOk n e y) → Elem (map (value l e) (x ∷ fs)) E.stand
      unfolding broken out_rule
      out_stands {q} {x} {fs} g ok = stands_in _ (choices_at (reached E g.P) (value l e) (x ∷ fs) (λ y j. value_in E g.P y (ok y j) few g.here g.inside) (stands E) (empty_only _ _ (empty_l _ _ g.lawful)))

      -- the right that a step uses
      target_used : (i : ℕ) {t : Tree} (a : Tree) (g : Good l p e t) (x : Loc) → LocOk n e x → ((o : ℕ) → uses N E g.P t o ≡ join (uses N E g.P a o) (grant (mem o (reach E g.P x)) (2 ^ i))) → Used l p (value l e x) (2 ^ i)
      target_used i a g x ok q =
          let w = in_sites _ _ (value_in E g.P x ok few g.here g.inside) in
          let h = ap (λ (m : ℕ). has m (2 ^ i)) (q (value l e x)) ∙ or_has_r _ _ i (grant_has _ (2 ^ i) i w.1 (has_self i)) in
          record { bit = i; is_bit = refl; here_low = (in_sites _ _ g.here).0; there_low = w.0; fine = g.cover (value l e x) i w.0 h }

      pub out_used : {q : ℕ} {x : Loc} {fs : List Loc} {a : Tree} → Good l p e (out_t q x fs a) → LocOk n e x → Used l p (value l e x) out_bit
      unfolding uses
      out_used {q} {x} {fs} {a} g ok = target_used 0 a g x ok (λ o. refl)

      pub get_used : (i : ℕ) {q : ℕ} {x : Loc} {ss : List Slot} {a : Tree} → Good l p e (get_t q (2 ^ i) x ss a) → LocOk n e x → Used l p (value l e x) (2 ^ i)
      unfolding uses
      get_used i {q} {x} {ss} {a} g ok = target_used i a g x ok (λ o. refl)

      pub eval_used : {q : ℕ} {x : Loc} {k : ℕ} {b a : Tree} → Good l p e (eval_t q x k b a) → LocOk n e x → Used l p (value l e x) eval_bit
      unfolding uses
      eval_used {q} {x} {k} {b} {a} g ok = target_used 3 a g x ok (λ o. refl)

      -- the body of an eval, at its target, under the sandbox evaluated there
      pub good_body : {q : ℕ} {x : Loc} {k : ℕ} {b a : Tree} → Good l p e (eval_t q x k b a) → LocOk n e x → Good (value l e x) (box_policy N k (value l e x)) e b
      unfolding broken adds uses
      good_body {q} {x} {k} {b} {a} g ok = record {
        P = reach E g.P x;
        here = there;
        lawful = empty_l _ _ (empty_r _ _ g.lawful);
        reported = λ s o i y z h. g.reported s o i y z (or_has_r _ _ i (or_has_l _ _ i h));
        inside = g.inside;
        cover = λ o i y h. go o i y h (split (has (sure N k (reach E g.P x) o) (2 ^ i)));
      }
        where
          there : Elem (value l e x) (reached E g.P x)
          there = value_in E g.P x ok few g.here g.inside

          go : (o i : ℕ) → o < 32 → has (uses N E (reach E g.P x) b o) (2 ^ i) ≡ true → ((has (sure N k (reach E g.P x) o) (2 ^ i) ≡ true) ⊎ (not (has (sure N k (reach E g.P x) o) (2 ^ i)) ≡ true)) → Fine (value l e x) (box_policy N k (value l e x)) o i
          go o i y h (inl s) = body_sure g.P x k (value l e x) o i y there (empty_only _ _ (empty_l _ _ g.lawful)) s
          go o i y h (inr n) = inr (g.reported _ o i (in_sites _ _ there).0 y (or_has_l _ _ i (body_rest (reach E g.P x) k b (value l e x) o i there h n)))

    pub accept_used : {k : ℕ} {a : Tree} → Good l p e (accept_t k a) → Used l p l accept_bit
    unfolding uses
    accept_used g =
        let w = in_sites _ _ g.here in
        record { bit = 4; is_bit = refl; here_low = w.0; there_low = w.0; fine = g.cover l 4 w.0 (or_has_r _ _ 4 (or_has_l _ _ 4 (grant_has _ (2 ^ 4) 4 w.1 (has_self 4)))) }

    -- an arrival that the door passes, under the sandbox evaluated there, nothing bound
    pub good_arrival : {k : ℕ} {a : Tree} (t : Tree) → Good l p e (accept_t k a) → door N E k l t ≡ true → Good l (box_policy N k l) unbound t
    unfolding door uses place_set adds_nothing
    good_arrival {k} {a} t g d = record {
      P = 2 ^ l;
      here = sites_in_lem (2 ^ l) l (in_sites g.P l g.here).0 (has_self l);
      lawful = and_l _ _ d;
      reported = λ s o i x y h. absurd (nothing_added s o i x y h);
      inside = unbound_holds May;
      cover = λ o i y h. go o i y (within_has _ _ i (all_at (λ o. within (uses N E (2 ^ l) t o) (box_at N k l o)) (below_in 32 o y) (and_l _ _ (and_r _ _ d))) h);
    }
      where
        nothing_added : (s o i : ℕ) → s < 32 → o < 32 → has (adds N E (2 ^ l) t s o) (2 ^ i) ≡ true → ⊥
        nothing_added s o i x y h =
            let z : 0 ≡ adds N E (2 ^ l) t s o = sym (eqb_eq (all_at (λ o. eqb (adds N E (2 ^ l) t s o) 0) (below_in 32 o y) (all_at (λ s. all (λ o. eqb (adds N E (2 ^ l) t s o) 0) (below 32)) (below_in 32 s x) (and_r _ _ (and_r _ _ d))))) in
            false≢true (sym (has_none i) ∙ ap (λ (m : ℕ). has m (2 ^ i)) z ∙ h)

        more_home : (o i : ℕ) → o < 32 → has (box_at N k l o) (2 ^ i) ≡ true → Fine l p o i → Fine l (box_policy N k l) o i
        more_home o i y b (inl q) = inl (and_i (box_has k l o i y b) (and_r _ _ q))
        more_home o i y b (inr q) = inr q

        go : (o i : ℕ) → o < 32 → has (box_at N k l o) (2 ^ i) ≡ true → Fine l (box_policy N k l) o i
        go o i y b = more_home o i y b (g.cover o i y (or_has_r _ _ i (or_has_r _ _ i (joins_has (λ l. box_at N k l o) i g.here b))))

  -- what an L row and its eval lines add is in the report
  root_reported : (s o : ℕ) (r : Root) (i : ℕ) → Elem r N.roots → has (root_adds N E r s o) (2 ^ i) ≡ true → has (report_at N E s o) (2 ^ i) ≡ true
  unfolding report_at
  root_reported s o r i j h = or_has_l _ _ i (joins_has (λ r. root_adds N E r s o) i j h)

  evals_reported : (s o : ℕ) (r : Root) (i : ℕ) → Elem r N.roots → has (adds N E (place_set r.site) (process N r) s o) (2 ^ i) ≡ true → has (report_at N E s o) (2 ^ i) ≡ true
  unfolding report_at
  evals_reported s o r i j h = or_has_r _ _ i (or_has_l _ _ i (joins_has (λ r. adds N E (place_set r.site) (process N r) s o) i j h))

  -- a root
  pub good_root : (r : Root) → r.site < 32 → Elem r N.roots → empty (broken N E (place_set r.site) (process N r)) ≡ true → Good r.site (home_policy N r.site) unbound (process N r)
  unfolding root_adds place_set
  good_root r low j t = record {
    P = 2 ^ r.site;
    here = sites_in_lem (2 ^ r.site) r.site low (has_self r.site);
    lawful = t;
    reported = λ s o i x y h. evals_reported s o r i j h;
    inside = unbound_holds May;
    cover = λ o i y h. go o i y h (split (has (home N r.site o) (2 ^ i)));
  }
    where
      go : (o i : ℕ) → o < 32 → has (uses N E (2 ^ r.site) (process N r) o) (2 ^ i) ≡ true → ((has (home N r.site o) (2 ^ i) ≡ true) ⊎ (not (has (home N r.site o) (2 ^ i)) ≡ true)) → Fine r.site (home_policy N r.site) o i
      go o i y h (inl q) = inl (and_i (home_has r.site o i y q) q)
      go o i y h (inr n) = inr (root_reported r.site o r i j (grant_has _ _ i (eq-eqb r.site) (has_less _ _ i h n)))

  -- what the verdict says
  pub root_lawful : verdict N E ≡ accepted → (r : Root) → Elem r N.roots → empty (broken N E (place_set r.site) (process N r)) ≡ true
  unfolding verdict broken_line
  root_lawful t r i = empty_concat (λ r. broken N E (place_set r.site) (process N r)) i (least_none _ (verdict_both _ _ t).1)

  pub tuple_stands : verdict N E ≡ accepted → (t : List ℕ) → Elem t N.tuples → Elem t E.stand
  unfolding verdict broken_tuple
  tuple_stands h t i = stands_in t (first_not_none (stands E) i (verdict_both _ _ h).0)
