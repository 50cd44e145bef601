-- No. 1: `_` in the place of a spare variable agrees with the same tuples, binds nothing, and asks for no B row.
-- Assumes nothing.
use mathlib.Core.Path.{◌≡◌, refl, sym, ap, ap₂, ◌∙◌}
use mathlib.Core.Bool.{Bool, true, false, not, cond}
use mathlib.Core.List.{List, [], ◌∷◌, map}
use mathlib.Core.Option.{Option, none, some}
use Prim.Native.Nat.{ℕ, zero, suc}
use native.Mathlib.Omega.{arith}
use lib.ListN.{length, get_or, set, length-set}
use lib.Seq.{get_or-set_other}
use lib.Dec.{eqb}
use borrow.Author.Tests.{eqb-true, eqb-false}
use Rattle.sets.specs.Lists.{◌&◌, either, all, any, only, keep, concat, among, ◌⧺◌}
use Rattle.sets.specs.Bits.{mem}
use Rattle.sets.proofs.Lists.{and_l, and_r, and_yes}
use Rattle.klaim.specs.declared.Var.{Var}
use Rattle.klaim.specs.declared.Loc.{Loc}
use Rattle.klaim.specs.declared.Slot.{Slot}
use Rattle.klaim.specs.declared.Slot.TheVariants.{Value, Bind, Wildcard}
use Rattle.klaim.specs.Process.{used_in, bound_in, without}
use Rattle.klaim.specs.Net.{Estimate, may}
use Rattle.klaim.specs.Analysis.{slot_match, matches, bound}
use Rattle.klaim.specs.State.{Bindings}
use Rattle.klaim.specs.Engine.{bind_all}
use Rattle.klaim.specs.Spare.{spared, Spared}

-- what stands in the place of `!w` is `_` or, where w is not u, `!w`
by_spared : (P : Slot → Type 0) (u : ℕ) (w : Var) → (w.0 ≡ u → P Wildcard) → ((w.0 ≡ u → ⊥) → P (Bind w)) → P (spared u (Bind w))
unfolding spared
by_spared P u w taken left = go (eqb w.0 u) refl
  where
    go : (b : Bool) → eqb w.0 u ≡ b → P (cond b Wildcard (Bind w))
    go true e = taken (eqb-true w.0 u e)
    go false e = left (eqb-false w.0 u e)

-- bindings that are alike at w still are, when one variable is bound in both
set_alike : (e d : Bindings) (x : ℕ) (o : Option ℕ) (w : ℕ) → length e ≡ length d → get_or e w none ≡ get_or d w none → get_or (set e x o) w none ≡ get_or (set d x o) w none
set_alike [] [] x o w l h = h
set_alike [] (b ∷ d) x o w l h = absurd (omega arith)
set_alike (a ∷ e) [] x o w l h = absurd (omega arith)
set_alike (a ∷ e) (b ∷ d) zero o zero l h = refl
set_alike (a ∷ e) (b ∷ d) zero o (suc w) l h = h
set_alike (a ∷ e) (b ∷ d) (suc x) o zero l h = h
set_alike (a ∷ e) (b ∷ d) (suc x) o (suc w) l h = set_alike e d x o w (omega arith) h

module _ (u : ℕ) where
  slot_agrees : (f : Loc → ℕ → Bool) (s : Slot) (v : ℕ) → slot_match f (spared u s) v ≡ slot_match f s v
  unfolding slot_match spared
  slot_agrees f (Value x) v = refl
  slot_agrees f (Bind w) v = by_spared (λ s. slot_match f s v ≡ true) u w (λ q. refl) (λ q. refl)
  slot_agrees f Wildcard v = refl

  template_agrees : (ss : List Slot) (f : Loc → ℕ → Bool) (t : List ℕ) → matches f (map (spared u) ss) t ≡ matches f ss t
  unfolding matches
  template_agrees [] f [] = refl
  template_agrees [] f (v ∷ t) = refl
  template_agrees (s ∷ ss) f [] = refl
  template_agrees (s ∷ ss) f (v ∷ t) = ap₂ ◌&◌ (slot_agrees f s v) (template_agrees ss f t)

  not_bound : (ss : List Slot) (t : List ℕ) (e : Bindings) → get_or (bind_all (map (spared u) ss) t e) u none ≡ get_or e u none
  unfolding bind_all spared
  not_bound [] t e = refl
  not_bound (s ∷ ss) [] e = refl
  not_bound (Value x ∷ ss) (v ∷ t) e = not_bound ss t e
  not_bound (Bind w ∷ ss) (v ∷ t) e =
      by_spared
      (λ s. get_or (bind_all (s ∷ map (spared u) ss) (v ∷ t) e) u none ≡ get_or e u none)
      u
      w
      (λ q. not_bound ss t e)
      (λ q. not_bound ss t (set e w.0 (some v)) ∙ get_or-set_other e w.0 u (some v) none (λ p. q (sym p)))
  not_bound (Wildcard ∷ ss) (v ∷ t) e = not_bound ss t e

  bound_alike : (w : ℕ) → (w ≡ u → ⊥) → (ss : List Slot) (t : List ℕ) (e d : Bindings) → length e ≡ length d → get_or e w none ≡ get_or d w none → get_or (bind_all (map (spared u) ss) t e) w none ≡ get_or (bind_all ss t d) w none
  unfolding bind_all spared
  bound_alike w a [] t e d l h = h
  bound_alike w a (s ∷ ss) [] e d l h = h
  bound_alike w a (Value x ∷ ss) (v ∷ t) e d l h = bound_alike w a ss t e d l h
  bound_alike w a (Bind x ∷ ss) (v ∷ t) e d l h =
      let kept = length-set d x.0 (some v) in
      by_spared
      (λ s. get_or (bind_all (s ∷ map (spared u) ss) (v ∷ t) e) w none ≡ get_or (bind_all ss t (set d x.0 (some v))) w none)
      u
      x
      (λ q. bound_alike w a ss t e (set d x.0 (some v)) (l ∙ sym kept) (h ∙ sym (get_or-set_other d x.0 w (some v) none (λ p. a (p ∙ q)))))
      (λ q. bound_alike w a ss t (set e x.0 (some v)) (set d x.0 (some v)) (length-set e x.0 (some v) ∙ l ∙ sym kept) (set_alike e d x.0 (some v) w l h))
  bound_alike w a (Wildcard ∷ ss) (v ∷ t) e d l h = bound_alike w a ss t e d l h

  asked_alike : (E F : Estimate) → ((w : ℕ) → (w ≡ u → ⊥) → may E w ≡ may F w) → (ss : List Slot) (t : List ℕ) → all (λ v. mem v (may F u)) t ≡ true → bound E (map (spared u) ss) t ≡ bound F ss t
  unfolding bound spared all
  asked_alike E F same [] t h = refl
  asked_alike E F same (s ∷ ss) [] h = refl
  asked_alike E F same (Value x ∷ ss) (v ∷ t) h = asked_alike E F same ss t (and_r _ _ h)
  asked_alike E F same (Bind w ∷ ss) (v ∷ t) h =
      by_spared
      (λ s. bound E (s ∷ map (spared u) ss) (v ∷ t) ≡ mem v (may F w.0) & bound F ss t)
      u
      w
      (λ q. asked_alike E F same ss t (and_r _ _ h) ∙ sym (and_yes _ (ap (λ (x : ℕ). mem v (may F x)) q ∙ and_l _ _ h)))
      (λ q. ap₂ (λ (m : ℕ) (b : Bool). mem v m & b) (same w.0 q) (asked_alike E F same ss t (and_r _ _ h)))
  asked_alike E F same (Wildcard ∷ ss) (v ∷ t) h = asked_alike E F same ss t (and_r _ _ h)

  used_alike : (ss : List Slot) → concat used_in (map (spared u) ss) ≡ concat used_in ss
  unfolding concat used_in spared ◌⧺◌
  used_alike [] = refl
  used_alike (Value x ∷ ss) = ap (λ (l : List ℕ). used_in (Value x) ⧺ l) (used_alike ss)
  used_alike (Bind w ∷ ss) = by_spared (λ s. used_in s ⧺ concat used_in (map (spared u) ss) ≡ concat used_in (Bind w ∷ ss)) u w (λ q. used_alike ss) (λ q. used_alike ss)
  used_alike (Wildcard ∷ ss) = used_alike ss

  one_binder : (b : Bool) (w : Var) (xs ys : List ℕ) → xs ≡ ys → bound_in (cond b Wildcard (Bind w)) ⧺ xs ≡ only (not (either b false)) w.0 ⧺ ys
  unfolding bound_in only either ◌⧺◌
  one_binder true w xs ys q = q
  one_binder false w xs ys q = ap (λ (l : List ℕ). w.0 ∷ l) q

  binders_left : (ss : List Slot) → concat bound_in (map (spared u) ss) ≡ without (u ∷ []) (concat bound_in ss)
  unfolding concat bound_in spared without keep among any ◌⧺◌
  binders_left [] = refl
  binders_left (Value x ∷ ss) = binders_left ss
  binders_left (Bind w ∷ ss) = one_binder (eqb w.0 u) w _ _ (binders_left ss)
  binders_left (Wildcard ∷ ss) = binders_left ss

  bindings_of : (ss : List Slot) (t : List ℕ) (e : Bindings) (w : ℕ) → get_or (bind_all (map (spared u) ss) t e) w none ≡ cond (eqb w u) (get_or e w none) (get_or (bind_all ss t e) w none)
  bindings_of ss t e w = go (eqb w u) refl
    where
      go : (b : Bool) → eqb w u ≡ b → get_or (bind_all (map (spared u) ss) t e) w none ≡ cond b (get_or e w none) (get_or (bind_all ss t e) w none)
      go true q =
          let same : w ≡ u = eqb-true w u q in
          ap (λ (x : ℕ). get_or (bind_all (map (spared u) ss) t e) x none) same ∙ not_bound ss t e ∙ ap (λ (x : ℕ). get_or e x none) (sym same)
      go false q = bound_alike w (eqb-false w u q) ss t e e refl refl

pub spare : (u : ℕ) (ss : List Slot) → Spared u ss
spare u ss = record {
  same_tuples = template_agrees u ss;
  bindings = bindings_of u ss;
  asked = λ E F same. asked_alike u E F same ss;
  used = used_alike u ss;
  binders = binders_left u ss;
}
