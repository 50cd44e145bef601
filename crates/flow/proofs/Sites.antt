-- Which sites a set has.
-- Assumes nothing.
use mathlib.Core.Path.{◌≡◌, refl, sym, ap, ◌∙◌}
use mathlib.Core.Bool.{Bool, true, false, not, false≢true}
use Prim.Native.Nat.{ℕ, ◌^◌, ◌<◌}
use native.Mathlib.Omega.{arith}
use native.Mathlib.Decide.{dec_lt}
use lib.Dec.{eqb}
use borrow.Author.Tests.{not-true, eq-eqb}
use Rattle.sets.specs.Lists.{◌&◌, any, below}
use Rattle.sets.specs.Bits.{has, mem}
use Rattle.sets.proofs.Lists.{iff, and_l, and_r, not_no, not_yes, eqb_eq, all_at, any_at, any_none, none_all}
use Rattle.sets.proofs.Tables.{below_in, in_below}
use Rattle.sets.proofs.Bits.{has_none, same_bits}
use Rattle.sets.proofs.Shared.{mem_single, none_high}

-- a set of sites that is not 0 has a site
pub some_site : (m : ℕ) → m < 2 ^ 32 → (m ≡ 0 → ⊥) → (s : ℕ) × (s < 32) × (mem s m ≡ true)
some_site m h z = go (any (λ s. mem s m) (below 32)) refl
  where
    none : any (λ s. mem s m) (below 32) ≡ false → (n : ℕ) → Dec (n < 32) → has m (2 ^ n) ≡ false
    none e n (yes l) = not-true _ (all_at (λ s. not (mem s m)) (below_in 32 n l) (none_all (λ s. mem s m) (λ s. not (mem s m)) (λ s f. ap not f) (below 32) e))
    none e n (no l) = none_high 32 m n h (omega arith)

    go : (b : Bool) → any (λ s. mem s m) (below 32) ≡ b → (s : ℕ) × (s < 32) × (mem s m ≡ true)
    go true e = let r = any_at (λ s. mem s m) (below 32) e in (r.0, in_below 32 r.0 r.1, r.2)
    go false e = absurd (z (same_bits m 0 (λ n. none e n (dec_lt n 32) ∙ sym (has_none n))))

and_no : {a b : Bool} → a ≡ true → (a & b) ≡ false → b ≡ false
unfolding ◌&◌
and_no {a} {b} e q = rw e at q

-- a set of sites that is neither 0 nor the set of t alone has another site
pub other_site : (m t : ℕ) → m < 2 ^ 32 → (m ≡ 0 → ⊥) → (m ≡ 2 ^ t → ⊥) → (s : ℕ) × (s < 32) × (mem s m ≡ true) × (t ≡ s → ⊥)
other_site m t h z o = go (any (λ s. mem s m & not (eqb t s)) (below 32)) refl
  where
    none : any (λ s. mem s m & not (eqb t s)) (below 32) ≡ false → (s : ℕ) → s < 32 → mem s m ≡ true → eqb t s ≡ true
    none e s l y = not_no (eqb t s) (and_no y (any_none (λ s. mem s m & not (eqb t s)) e (below_in 32 s l)))

    pick : (n : ℕ) → mem n m ≡ true → Dec (n < 32) → n < 32
    pick n y (yes l) = l
    pick n y (no l) = absurd (false≢true (sym (none_high 32 m n h (omega arith)) ∙ y))

    go : (b : Bool) → any (λ s. mem s m & not (eqb t s)) (below 32) ≡ b → (s : ℕ) × (s < 32) × (mem s m ≡ true) × (t ≡ s → ⊥)
    go true e = let r = any_at (λ s. mem s m & not (eqb t s)) (below 32) e in (r.0, in_below 32 r.0 r.1, and_l _ _ r.2, λ q. false≢true (sym (not_yes (eqb t r.0) (and_r _ _ r.2)) ∙ eq-eqb t r.0 q))
    go false e =
        let a = some_site m h z in
        let at : t ≡ a.0 = eqb_eq (none e a.0 a.1 a.2) in
        absurd (o (same_bits m (2 ^ t) (λ n. iff (λ y. mem_single n t ∙ none e n (pick n y (dec_lt n 32)) y) (λ y. ap (λ (s : ℕ). mem s m) (sym (eqb_eq (sym (mem_single n t) ∙ y)) ∙ at) ∙ a.2))))
