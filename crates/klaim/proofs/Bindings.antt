-- What bindings hold after a template has matched, and the values of fields.
-- Assumes nothing.
use mathlib.Core.Path.{◌≡◌, refl, sym, ap, subst, ◌∙◌}
use mathlib.Core.Logic.{◌≢◌, ◌⊎◌, inl, inr}
use mathlib.Core.Bool.{Bool, true, false, false≢true}
use mathlib.Core.List.{List, [], ◌∷◌}
use mathlib.Core.Option
use mathlib.Core.Option.{Option, none, some, none-ne-some, some-injective}
use Prim.Native.Nat.{ℕ, ◌<◌, ◌≤◌, ◌^◌}
use native.Mathlib.Omega.{arith}
use lib.ListN.{length, get_or, set, length-set}
use lib.Seq.{get_or-set_same, get_or-set_other}
use lib.Dec.{eqb}
use Rattle.sets.specs.Lists.{Elem, first, later, all, concat, ◌⧺◌}
use Rattle.sets.specs.Bits.{sites}
use Rattle.sets.proofs.Lists.{ltb_lt, eq-eqb, eqb_eq, and_l, and_r, in_none, get_or_same}
use Rattle.sets.proofs.Bits.{has_self, sites_in_lem}
use Rattle.klaim.specs.declared.Var.{Var}
use Rattle.klaim.specs.declared.Loc.{Loc}
use Rattle.klaim.specs.declared.Loc.TheVariants.{At, Here, Use}
use Rattle.klaim.specs.declared.Slot.{Slot}
use Rattle.klaim.specs.declared.Slot.TheVariants.{Value, Bind, Wildcard}
use Rattle.klaim.specs.Process.{sites_in, used_in, bound_in}
use Rattle.klaim.specs.Net.{Estimate, may}
use Rattle.klaim.specs.Analysis.{reach, matches, bound}
use Rattle.klaim.specs.State.{Bindings, unbound}
use Rattle.klaim.specs.Engine.{value, bind_all}
use Rattle.klaim.specs.Invariant.{all_below}

-- variable u is bound
abbrev pub BoundTo : Bindings → ℕ → Type 0
BoundTo e u = (s : ℕ) × (get_or e u none ≡ some s)

-- Q holds of each variable and what it is bound to
abbrev pub Holds : (ℕ → ℕ → Type 0) → Bindings → Type 0
Holds Q e = (u s : ℕ) → get_or e u none ≡ some s → Q u s

-- Q holds of each variable that the template binds and what it is to be bound to
abbrev pub Each : (ℕ → ℕ → Type 0) → List Slot → List ℕ → Type 0
Each Q [] vs = Unit {0}
Each Q (s ∷ ss) [] = Unit {0}
Each Q (Value x ∷ ss) (v ∷ vs) = Each Q ss vs
Each Q (Bind u ∷ ss) (v ∷ vs) = Q u.0 v × Each Q ss vs
Each Q (Wildcard ∷ ss) (v ∷ vs) = Each Q ss vs

-- nothing is bound at first
pub unbound_holds : (Q : ℕ → ℕ → Type 0) → Holds Q unbound
unbound_holds Q u s t = absurd (none-ne-some s (sym (get_or_same none 32 u) ∙ t))

ne : {m n : ℕ} → eqb m n ≡ false → m ≢ n
ne {m} {n} q e = false≢true (sym q ∙ subst (λ (x : ℕ). eqb m x ≡ true) e (eq-eqb m))

-- the variable just bound, or another
abbrev Case : Bindings → ℕ → ℕ → ℕ → Type 0
Case e u v w = ((w ≡ u) × (get_or (set e u (some v)) w none ≡ some v)) ⊎ ((w ≢ u) × (get_or (set e u (some v)) w none ≡ get_or e w none))

case_bind : (e : Bindings) (u v w : ℕ) → u < length e → Case e u v w
case_bind e u v w h = go (eqb w u) refl
  where
    go : (b : Bool) → eqb w u ≡ b → Case e u v w
    go true q = let p : w ≡ u = eqb_eq q in inl (p, ap (λ (x : ℕ). get_or (set e u (some v)) x none) p ∙ get_or-set_same e u (some v) none h)
    go false q = inr (ne q, get_or-set_other e u w (some v) none (ne q))

set_holds : (Q : ℕ → ℕ → Type 0) (e : Bindings) (u v : ℕ) → u < length e → Q u v → Holds Q e → Holds Q (set e u (some v))
set_holds Q e u v low q h w s t = go (case_bind e u v w low)
  where
    go : Case e u v w → Q w s
    go (inl c) =
        let r : v ≡ s = some-injective v s (sym c.1 ∙ t) in
        subst (λ (x : ℕ). Q x s) (sym c.0) (subst (Q u) r q)
    go (inr c) = h w s (sym c.1 ∙ t)

set_kept : (e : Bindings) (u v w : ℕ) → u < length e → BoundTo e w → BoundTo (set e u (some v)) w
set_kept e u v w low b = go (case_bind e u v w low)
  where
    go : Case e u v w → BoundTo (set e u (some v)) w
    go (inl c) = (v, c.1)
    go (inr c) = (b.0, c.1 ∙ b.1)

-- the variables that a template binds are below n
abbrev pub BindsLow : ℕ → List Slot → Type 0
BindsLow n ss = all_below n (concat bound_in ss) ≡ true

binds_tail : (n : ℕ) (s : Slot) (ss : List Slot) → BindsLow n (s ∷ ss) → BindsLow n ss
unfolding all_below concat bound_in all ◌⧺◌
binds_tail n (Value x) ss t = t
binds_tail n (Bind u) ss t = and_r _ _ t
binds_tail n Wildcard ss t = t

binds_head : (n : ℕ) (u : Var) (ss : List Slot) → BindsLow n (Bind u ∷ ss) → u.0 < n
unfolding all_below concat bound_in all ◌⧺◌
binds_head n u ss t = ltb_lt _ _ (and_l _ _ t)

module _ (n : ℕ) where
  pub bind_holds : (Q : ℕ → ℕ → Type 0) (ss : List Slot) (vs : List ℕ) (e : Bindings) → length e ≡ n → BindsLow n ss → Each Q ss vs → Holds Q e → Holds Q (bind_all ss vs e)
  unfolding bind_all
  bind_holds Q [] vs e l b q h = h
  bind_holds Q (s ∷ ss) [] e l b q h = h
  bind_holds Q (Value x ∷ ss) (v ∷ vs) e l b q h = bind_holds Q ss vs e l (binds_tail n (Value x) ss b) q h
  bind_holds Q (Bind u ∷ ss) (v ∷ vs) e l b q h =
      bind_holds Q ss vs (set e u.0 (some v)) (length-set e u.0 (some v) ∙ l) (binds_tail n (Bind u) ss b) q.1
      (set_holds Q e u.0 v (omega (arith, binds_head n u ss b)) q.0 h)
  bind_holds Q (Wildcard ∷ ss) (v ∷ vs) e l b q h = bind_holds Q ss vs e l (binds_tail n Wildcard ss b) q h

  -- what was bound stays bound
  pub bind_kept : (ss : List Slot) (vs : List ℕ) (e : Bindings) → length e ≡ n → BindsLow n ss → (w : ℕ) → BoundTo e w → BoundTo (bind_all ss vs e) w
  unfolding bind_all
  bind_kept [] vs e l b w h = h
  bind_kept (s ∷ ss) [] e l b w h = h
  bind_kept (Value x ∷ ss) (v ∷ vs) e l b w h = bind_kept ss vs e l (binds_tail n (Value x) ss b) w h
  bind_kept (Bind u ∷ ss) (v ∷ vs) e l b w h =
      bind_kept ss vs (set e u.0 (some v)) (length-set e u.0 (some v) ∙ l) (binds_tail n (Bind u) ss b) w
      (set_kept e u.0 v w (omega (arith, binds_head n u ss b)) h)
  bind_kept (Wildcard ∷ ss) (v ∷ vs) e l b w h = bind_kept ss vs e l (binds_tail n Wildcard ss b) w h

  -- what the template binds is bound
  pub bind_new : (f : Loc → ℕ → Bool) (ss : List Slot) (vs : List ℕ) (e : Bindings) → length e ≡ n → BindsLow n ss → matches f ss vs ≡ true → (w : ℕ) → Elem w (concat bound_in ss) → BoundTo (bind_all ss vs e) w
  unfolding bind_all matches concat bound_in ◌⧺◌
  bind_new f [] vs e l b m w i = absurd (in_none i)
  bind_new f (s ∷ ss) [] e l b m w i = absurd (false≢true m)
  bind_new f (Value x ∷ ss) (v ∷ vs) e l b m w i = bind_new f ss vs e l (binds_tail n (Value x) ss b) (and_r _ _ m) w i
  bind_new f (Bind u ∷ ss) (v ∷ vs) e l b m w (first p) =
      let low : u.0 < length e = omega (arith, binds_head n u ss b) in
      bind_kept ss vs (set e u.0 (some v)) (length-set e u.0 (some v) ∙ l) (binds_tail n (Bind u) ss b) w
      (v, ap (λ (x : ℕ). get_or (set e u.0 (some v)) x none) p ∙ get_or-set_same e u.0 (some v) none low)
  bind_new f (Bind u ∷ ss) (v ∷ vs) e l b m w (later i) =
      bind_new f ss vs (set e u.0 (some v)) (length-set e u.0 (some v) ∙ l) (binds_tail n (Bind u) ss b) (and_r _ _ m) w i
  bind_new f (Wildcard ∷ ss) (v ∷ vs) e l b m w i = bind_new f ss vs e l (binds_tail n Wildcard ss b) (and_r _ _ m) w i

pub bind_long : (ss : List Slot) (vs : List ℕ) (e : Bindings) → length (bind_all ss vs e) ≡ length e
unfolding bind_all
bind_long [] vs e = refl
bind_long (s ∷ ss) [] e = refl
bind_long (Value x ∷ ss) (v ∷ vs) e = bind_long ss vs e
bind_long (Bind u ∷ ss) (v ∷ vs) e = bind_long ss vs (set e u.0 (some v)) ∙ length-set e u.0 (some v)
bind_long (Wildcard ∷ ss) (v ∷ vs) e = bind_long ss vs e

-- each binder's value has Q, where each of the values has it
pub each_all : (Q : ℕ → ℕ → Type 0) (f : ℕ → Bool) → ((u v : ℕ) → f v ≡ true → Q u v) → (ss : List Slot) (vs : List ℕ) → all f vs ≡ true → Each Q ss vs
unfolding all
each_all Q f q [] vs t = tt
each_all Q f q (s ∷ ss) [] t = tt
each_all Q f q (Value x ∷ ss) (v ∷ vs) t = each_all Q f q ss vs (and_r _ _ t)
each_all Q f q (Bind u ∷ ss) (v ∷ vs) t = (q u.0 v (and_l _ _ t), each_all Q f q ss vs (and_r _ _ t))
each_all Q f q (Wildcard ∷ ss) (v ∷ vs) t = each_all Q f q ss vs (and_r _ _ t)

-- a field whose sites are below n and whose variable is bound
pub record LocOk (n : ℕ) (e : Bindings) (x : Loc) : Type 0 where
  pub sites_low : all_below n (sites_in (Value x)) ≡ true
  pub used_bound : (u : ℕ) → Elem u (used_in (Value x)) → BoundTo e u

-- its value is a site
pub value_low : {n : ℕ} (l : ℕ) {e : Bindings} (x : Loc) → LocOk n e x → l < n → Holds (λ u s. s < n) e → value l e x < n
unfolding value all_below sites_in used_in all
value_low l (At s) k h w = ltb_lt _ _ (and_l _ _ k.sites_low)
value_low l Here k h w = h
value_low {n} l (Use u) k h w = let b = k.used_bound u.0 (first refl) in subst (λ (o : Option ℕ). Option.get_or o 0 < n) (sym b.1) (w u.0 b.0 b.1)

-- its value is within its reach, where the thread's site is within the place set and what is bound within the estimate
pub value_in : {n : ℕ} (E : Estimate) {l : ℕ} (P : ℕ) {e : Bindings} (x : Loc) → LocOk n e x → n ≤ 32 → Elem l (sites P) → Holds (λ u s. Elem s (sites (may E u))) e → Elem (value l e x) (sites (reach E P x))
unfolding value all_below sites_in used_in all reach
value_in {n} E P (At s) k few h w = let low : s.0 < n = ltb_lt _ _ (and_l _ _ k.sites_low) in sites_in_lem (2 ^ s.0) s.0 (omega arith) (has_self s.0)
value_in E P Here k few h w = h
value_in E P (Use u) k few h w = let b = k.used_bound u.0 (first refl) in subst (λ (o : Option ℕ). Elem (Option.get_or o 0) (sites (may E u.0))) (sym b.1) (w u.0 b.0 b.1)

-- what the rule for in and read says of a row is what its bindings need
pub each_bound : (n : ℕ) (E : Estimate) (ss : List Slot) (vs : List ℕ) → n ≤ 32 → all_below n vs ≡ true → bound E ss vs ≡ true → Each (λ u s. Elem s (sites (may E u))) ss vs
unfolding all_below all bound
each_bound n E [] vs few low t = tt
each_bound n E (s ∷ ss) [] few low t = tt
each_bound n E (Value x ∷ ss) (v ∷ vs) few low t = each_bound n E ss vs few (and_r _ _ low) t
each_bound n E (Bind u ∷ ss) (v ∷ vs) few low t =
    let v_low : v < n = ltb_lt _ _ (and_l _ _ low) in
    (sites_in_lem (may E u.0) v (omega arith) (and_l _ _ t), each_bound n E ss vs few (and_r _ _ low) (and_r _ _ t))
each_bound n E (Wildcard ∷ ss) (v ∷ vs) few low t = each_bound n E ss vs few (and_r _ _ low) t
