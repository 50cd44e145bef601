-- Laws of the rules for out, in and read, by one set of sites for the target and for each field.
-- Assumes nothing.
use mathlib.Core.Path.{◌≡◌, refl, sym, ap, ap₂, ◌∙◌}
use mathlib.Core.Bool.{Bool, true, false}
use mathlib.Core.List.{List, [], ◌∷◌, map}
use Prim.Native.Nat.{ℕ, ◌<◌}
use Rattle.sets.specs.Lists.{◌&◌, imp, all, any, same, among, fits}
use Rattle.sets.specs.Bits.{mem, sites}
use Rattle.sets.proofs.Lists.{and_yes, and_l, and_r, all_at, all_same, ltb_lt}
use Rattle.klaim.specs.declared.Loc.{Loc}
use Rattle.klaim.specs.declared.Slot.{Slot}
use Rattle.klaim.specs.declared.Slot.TheVariants.{Value, Bind, Wildcard}
use Rattle.klaim.specs.Net.{Estimate, may}
use Rattle.klaim.specs.Analysis.{reach, reached, slot_match, matches, choices, stands, bound, out_rule, get_rule}
use Rattle.klaim.specs.Invariant.{all_below}
use Rattle.matching.proofs.Laws.{among_low}
use Rattle.matching.proofs.Index.{every_site}
use Rattle.rules.specs.Masks.{any_site, wanted, allowed}

-- out
reach_sets : (E : Estimate) (P : ℕ) (fs : List Loc) → map sites (map (reach E P) fs) ≡ map (reached E P) fs
reach_sets E P [] = refl
reach_sets E P (x ∷ fs) = ap (λ (l : List (List ℕ)). reached E P x ∷ l) (reach_sets E P fs)

pub out_law : (E : Estimate) (P : ℕ) (g : Loc) (fs : List Loc) (ms : List ℕ) (rows : List (List ℕ)) {x : ℕ} → E.stand ≡ rows → x ≡ reach E P g → ms ≡ x ∷ map (reach E P) fs → choices (map sites ms) (λ t. any (same t) rows) ≡ out_rule E P g fs
unfolding out_rule stands
out_law E P g fs ms rows e x m =
    ap₂ (λ (l : List ℕ) (r : List (List ℕ)). choices (map sites l) (λ t. any (same t) r)) m (sym e)
    ∙ ap₂ (λ (y : ℕ) (l : List (List ℕ)). choices (sites y ∷ l) (λ t. any (same t) E.stand)) x (reach_sets E P fs)

-- in, read
any_among : (v : ℕ) → v < 32 → among (sites any_site) v ≡ true
any_among v h = sym (among_low any_site v h) ∙ every_site v h

module _ (E : Estimate) (P : ℕ) where
  slot_fits : (s : Slot) (v : ℕ) → v < 32 → slot_match (λ x v. mem v (reach E P x)) s v ≡ among (sites (wanted E P s)) v
  unfolding slot_match wanted
  slot_fits (Value x) v h = among_low (reach E P x) v h
  slot_fits (Bind u) v h = sym (any_among v h)
  slot_fits Wildcard v h = sym (any_among v h)

  matches_fits : (ss : List Slot) (row : List ℕ) → all_below 32 row ≡ true → matches (λ x v. mem v (reach E P x)) ss row ≡ fits (map sites (map (wanted E P) ss)) row
  unfolding matches fits all_below all
  matches_fits [] [] h = refl
  matches_fits [] (v ∷ vs) h = refl
  matches_fits (s ∷ ss) [] h = refl
  matches_fits (s ∷ ss) (v ∷ vs) h = ap₂ ◌&◌ (slot_fits s v (ltb_lt v 32 (and_l _ _ h))) (matches_fits ss vs (and_r _ _ h))

  bound_fits : (f : Loc → ℕ → Bool) (ss : List Slot) (row : List ℕ) → matches f ss row ≡ true → all_below 32 row ≡ true → bound E ss row ≡ fits (map sites (map (allowed E) ss)) row
  unfolding matches fits bound allowed all_below all
  bound_fits f [] [] m h = refl
  bound_fits f [] (v ∷ vs) m h = sym m
  bound_fits f (s ∷ ss) [] m h = sym m
  bound_fits f (Value x ∷ ss) (v ∷ vs) m h = bound_fits f ss vs (and_r _ _ m) (and_r _ _ h) ∙ sym (and_yes _ (any_among v (ltb_lt v 32 (and_l _ _ h))))
  bound_fits f (Bind u ∷ ss) (v ∷ vs) m h = ap₂ ◌&◌ (among_low (may E u.0) v (ltb_lt v 32 (and_l _ _ h))) (bound_fits f ss vs (and_r _ _ m) (and_r _ _ h))
  bound_fits f (Wildcard ∷ ss) (v ∷ vs) m h = bound_fits f ss vs (and_r _ _ m) (and_r _ _ h) ∙ sym (and_yes _ (any_among v (ltb_lt v 32 (and_l _ _ h))))

  imp_same : {a b c d : Bool} → a ≡ c → (a ≡ true → b ≡ d) → imp a b ≡ imp c d
  unfolding imp
  imp_same {a = true} e h = ap₂ imp e (h refl)
  imp_same {a = false} {d = d} e h = ap (λ (x : Bool). imp x d) e

  pub get_law : (g : Loc) (fs : List Slot) (want allow : List ℕ) (rows : List (List ℕ)) {x : ℕ} → E.stand ≡ rows → all (all_below 32) rows ≡ true → x ≡ reach E P g → want ≡ x ∷ map (wanted E P) fs → allow ≡ any_site ∷ map (allowed E) fs → all (λ row. imp (fits (map sites want) row) (fits (map sites allow) row)) rows ≡ get_rule E P g fs
  unfolding get_rule wanted allowed
  get_law g fs want allow rows e low x w a =
      all_same _ _ rows (λ row i. sym (imp_same
      (matches_fits (Value g ∷ fs) row (all_at (all_below 32) i low) ∙ ap (λ (l : List ℕ). fits (map sites l) row) wants)
      (λ m. bound_fits (λ x v. mem v (reach E P x)) (Value g ∷ fs) row m (all_at (all_below 32) i low) ∙ ap (λ (l : List ℕ). fits (map sites l) row) (sym a))))
      ∙ ap (all (λ row. imp (matches (λ x v. mem v (reach E P x)) (Value g ∷ fs) row) (bound E (Value g ∷ fs) row))) (sym e)
    where
      wants : map (wanted E P) (Value g ∷ fs) ≡ want
      wants = ap (λ (y : ℕ). y ∷ map (wanted E P) fs) (sym x) ∙ sym w
