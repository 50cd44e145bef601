-- The newest of the arrivals' roots, and those before it; roots that rise.
-- Assumes nothing.
use mathlib.Core.Path.{◌≡◌, refl, sym, ap, subst, ◌∙◌}
use mathlib.Core.Bool.{true}
use mathlib.Core.List.{List, [], ◌∷◌, ◌++◌}
use mathlib.Core.Option.{some, none-ne-some, some-injective}
use Prim.Native.Nat.{ℕ, suc, ◌+◌, ◌-◌, ◌<◌, ◌≤◌}
use native.Mathlib.Omega.{arith}
use lib.Dec.{ltb}
use lib.ListN.{length, get_or, take}
use lib.Seq.{take-suc}
use Rattle.sets.specs.Lists.{Elem, first, later, all}
use Rattle.sets.proofs.Lists.{and_l, and_r, and_i, all_at, all_front, all_last, all_snoc, ltb_lt}
use Rattle.klaim.specs.Engine.{newest, older}
use Rattle.klaim.specs.Invariant.{rising}

-- of a list with one root more at its end
pub newest_snoc : (rs : List ℕ) (r : ℕ) → newest (rs ++ (r ∷ [])) ≡ some r
unfolding newest
newest_snoc [] r = refl
newest_snoc (s ∷ []) r = refl
newest_snoc (s ∷ t ∷ rs) r = newest_snoc (t ∷ rs) r

pub older_snoc : (rs : List ℕ) (r : ℕ) → older (rs ++ (r ∷ [])) ≡ rs
unfolding older
older_snoc [] r = refl
older_snoc (s ∷ []) r = refl
older_snoc (s ∷ t ∷ rs) r = ap (λ (l : List ℕ). s ∷ l) (older_snoc (t ∷ rs) r)

-- every list that has a newest root is such a list
pub newest_last : (rs : List ℕ) {r : ℕ} → newest rs ≡ some r → rs ≡ older rs ++ (r ∷ [])
unfolding newest older
newest_last [] e = absurd (none-ne-some _ e)
newest_last (s ∷ []) {r} e = ap (λ (x : ℕ). x ∷ []) (some-injective s r e)
newest_last (s ∷ t ∷ rs) e = ap (λ (l : List ℕ). s ∷ l) (newest_last (t ∷ rs) e)

-- of the first k of a list
module _ (rs : List ℕ) (k : ℕ) (h : 0 < k) (l : k ≤ length rs) where
  take_last : take k rs ≡ take (k - 1) rs ++ (get_or rs (k - 1) 0 ∷ [])
  take_last = ap (λ (n : ℕ). take n rs) back ∙ take-suc rs (k - 1) 0 (omega arith)
    where
      back : k ≡ suc (k - 1)
      back = omega arith

  pub newest_take : newest (take k rs) ≡ some (get_or rs (k - 1) 0)
  newest_take = ap newest take_last ∙ newest_snoc (take (k - 1) rs) (get_or rs (k - 1) 0)

  pub older_take : older (take k rs) ≡ take (k - 1) rs
  older_take = ap older take_last ∙ older_snoc (take (k - 1) rs) (get_or rs (k - 1) 0)

-- roots that rise, and a greater one at their end
pub rising_snoc : (rs : List ℕ) (r : ℕ) → rising rs ≡ true → all (λ s. ltb s r) rs ≡ true → rising (rs ++ (r ∷ [])) ≡ true
unfolding rising all
rising_snoc [] r t h = and_i refl refl
rising_snoc (s ∷ rs) r t h = and_i (all_snoc (ltb s) rs r (and_l _ _ t) (and_l _ _ h)) (rising_snoc rs r (and_r _ _ t) (and_r _ _ h))

-- the last one taken away
pub rising_front : (rs : List ℕ) (r : ℕ) → rising (rs ++ (r ∷ [])) ≡ true → rising rs ≡ true
unfolding rising
rising_front [] r t = refl
rising_front (s ∷ rs) r t = and_i (all_front (ltb s) rs (r ∷ []) (and_l _ _ t)) (rising_front rs r (and_r _ _ t))

-- the others are less than the last one
pub rising_less : (rs : List ℕ) (r : ℕ) → rising (rs ++ (r ∷ [])) ≡ true → (s : ℕ) → Elem s rs → s < r
unfolding rising
rising_less (x ∷ rs) r t s (first e) = subst (λ (z : ℕ). z < r) (sym e) (ltb_lt x r (all_last (ltb x) rs r (and_l _ _ t)))
rising_less (x ∷ rs) r t s (later i) = rising_less rs r (and_r _ _ t) s i
rising_less [] r t s x'' = elim x'' [ ]

-- there are no more of them than numbers below the last one
rising_from : (b : ℕ) (rs : List ℕ) (r : ℕ) → b ≤ r → rising (rs ++ (r ∷ [])) ≡ true → ((s : ℕ) → Elem s rs → b ≤ s) → b + length rs ≤ r
unfolding rising
rising_from b [] r l t h = omega arith
rising_from b (s ∷ rs) r l t h =
    omega (arith, h s (first refl), rising_from (suc s) rs r (rising_less (s ∷ rs) r t s (first refl)) (and_r _ _ t) (λ x i. ltb_lt s x (all_at (ltb s) i (all_front (ltb s) rs (r ∷ []) (and_l _ _ t)))))

pub rising_few : (rs : List ℕ) (r : ℕ) → rising (rs ++ (r ∷ [])) ≡ true → length rs ≤ r
rising_few rs r t = omega (arith, rising_from 0 rs r (omega arith) t (λ s i. omega arith))
