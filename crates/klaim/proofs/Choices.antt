-- The rule for out, by counting: every choice has an A row exactly when as many A rows lie within the reaches as there are choices.
-- Assumes nothing.
use mathlib.Core.Path.{◌≡◌, refl, sym, ap, subst, ◌∙◌}
use mathlib.Core.Bool.{Bool, true, false, false≢true}
use mathlib.Core.List.{List, [], ◌∷◌, map}
use Prim.Native.Nat.{ℕ, zero, suc, ◌*◌, ◌≤◌}
use native.Mathlib.Omega.{arith}
use lib.Dec.{eqb}
use lib.ListN.{length, length-map}
use Rattle.sets.specs.Lists.{Elem, first, later, All, more, any, only, keep, concat, same, among, fits, product, below, table_from, table, ◌⧺◌}
use Rattle.sets.specs.Bits.{mem, sites}
use Rattle.sets.proofs.Lists.{and_l, and_r, and_i, in_none, in_map, in_concat, in_keep, keep_out, map_out, all_at, all_i, any_in, in_any, among_in, any_i, same_eq, same_refl, not_yes, eq-eqb, eqb_eq, iff, length_cat}
use Rattle.sets.proofs.Counting.{Unlike, none, within_short, within_full, unlike_map, unlike_concat, concat_out}
use Rattle.sets.proofs.Counting as Counting
use Rattle.klaim.specs.Analysis.{choices}
use Rattle.klaim.specs.Invariant.{distinct}

-- all choices
combos : List (List ℕ) → List (List ℕ)
combos [] = [] ∷ []
combos (xs ∷ xss) = concat (λ x. map (λ ys. x ∷ ys) (combos xss)) xs

-- the rule as a statement about all of them
choices_to : (xss : List (List ℕ)) (f : List ℕ → Bool) → choices xss f ≡ true → (c : List ℕ) → Elem c (combos xss) → f c ≡ true
unfolding choices combos
choices_to [] f t c (first e) = ap f e ∙ t
choices_to [] f t c (later i) = absurd (in_none i)
choices_to (xs ∷ xss) f t c i =
    let (x, j, k) = concat_out (λ x. map (λ ys. x ∷ ys) (combos xss)) xs i in
    let (ys, m, e) = map_out (λ ys. x ∷ ys) (combos xss) k in
    ap f e ∙ choices_to xss (λ ys. f (x ∷ ys)) (all_at (λ x. choices xss (λ ys. f (x ∷ ys))) j t) ys m

choices_from : (xss : List (List ℕ)) (f : List ℕ → Bool) → ((c : List ℕ) → Elem c (combos xss) → f c ≡ true) → choices xss f ≡ true
unfolding choices combos
choices_from [] f h = h [] (first refl)
choices_from (xs ∷ xss) f h =
    all_i _ xs (λ x i. choices_from xss (λ ys. f (x ∷ ys)) (λ ys j. h (x ∷ ys) (in_concat (λ x. map (λ ys. x ∷ ys) (combos xss)) i (in_map (λ ys. x ∷ ys) j))))

-- the choices are the rows that fit
fits_combo : (xss : List (List ℕ)) (row : List ℕ) → fits xss row ≡ true → Elem row (combos xss)
unfolding fits combos
fits_combo [] [] t = first refl
fits_combo [] (v ∷ vs) t = absurd (false≢true t)
fits_combo (xs ∷ xss) [] t = absurd (false≢true t)
fits_combo (xs ∷ xss) (v ∷ vs) t =
    in_concat (λ x. map (λ ys. x ∷ ys) (combos xss)) (among_in xs v (and_l _ _ t)) (in_map (λ ys. v ∷ ys) (fits_combo xss vs (and_r _ _ t)))

combo_fits : (xss : List (List ℕ)) (row : List ℕ) → Elem row (combos xss) → fits xss row ≡ true
unfolding fits combos among
combo_fits [] row (first e) = ap (fits []) e
combo_fits [] row (later i) = absurd (in_none i)
combo_fits (xs ∷ xss) row i =
    let (x, j, k) = concat_out (λ x. map (λ ys. x ∷ ys) (combos xss)) xs i in
    let (ys, m, e) = map_out (λ ys. x ∷ ys) (combos xss) k in
    ap (fits (xs ∷ xss)) e ∙ and_i (any_i (eqb x) j (eq-eqb x)) (combo_fits xss ys m)

concat_long : {A B : Type 0} (f : A → List B) (n : ℕ) → ((x : A) → length (f x) ≡ n) → (xs : List A) → length (concat f xs) ≡ length xs * n
unfolding concat
concat_long f n h [] = omega arith
concat_long f n h (x ∷ xs) = omega (arith, length_cat (f x) (concat f xs), h x, concat_long f n h xs)

combos_long : (xss : List (List ℕ)) → length (combos xss) ≡ product xss
unfolding combos product
combos_long [] = refl
combos_long (xs ∷ xss) = concat_long (λ x. map (λ ys. x ∷ ys) (combos xss)) (product xss) (λ x. length-map (combos xss) (λ ys. x ∷ ys) ∙ combos_long xss) xs

tail_same : (x : ℕ) (ys zs : List ℕ) → x ∷ ys ≡ x ∷ zs → ys ≡ zs
tail_same x ys zs e = cc

head_same : (x y : ℕ) (ys zs : List ℕ) → x ∷ ys ≡ y ∷ zs → x ≡ y
head_same x y ys zs e = cc

combos_unlike : (xss : List (List ℕ)) → All Unlike xss → Unlike (combos xss)
unfolding combos
combos_unlike [] h = Counting.more in_none none
combos_unlike (xs ∷ xss) (more u h) =
    unlike_concat (λ x. map (λ ys. x ∷ ys) (combos xss)) (λ x. unlike_map (λ ys. x ∷ ys) (tail_same x) (combos_unlike xss h))
    (λ x y z i j.
    let a = map_out (λ ys. x ∷ ys) (combos xss) i in
    let b = map_out (λ ys. y ∷ ys) (combos xss) j in
    head_same x y a.0 b.0 (sym a.2 ∙ b.2)) u

distinct_unlike : (ts : List (List ℕ)) → distinct ts ≡ true → Unlike ts
unfolding distinct
distinct_unlike [] d = none
distinct_unlike (t ∷ ts) d =
    Counting.more (λ i. false≢true (sym (not_yes _ (and_l _ _ d)) ∙ in_any same same_refl i)) (distinct_unlike ts (and_r _ _ d))

unlike_keep : {A : Type 0} (f : A → Bool) {xs : List A} → Unlike xs → Unlike (keep f xs)
unfolding keep only ◌⧺◌
unlike_keep f none = none
unlike_keep {A} f (Counting.more {x = x} {xs = xs} new u) = go (f x) (unlike_keep f u)
  where
    go : (b : Bool) → Unlike (keep f xs) → Unlike (only b x ⧺ keep f xs)
    go true v = Counting.more (λ i. new (keep_out f xs i).0) v
    go false v = v

-- the sites of a set, in rising order, are unlike
from_unlike : (n i : ℕ) → Unlike (table_from n i (λ j. j))
unfolding table_from
from_unlike zero i = none
from_unlike (suc n) i = Counting.more (λ j. later_greater n (suc i) i j (omega arith)) (from_unlike n (suc i))
  where
    later_greater : (n i x : ℕ) → Elem x (table_from n i (λ j. j)) → suc x ≤ i → ⊥
    later_greater zero i x j h = in_none j
    later_greater (suc n) i x (first e) h = omega arith
    later_greater (suc n) i x (later j) h = later_greater n (suc i) x j (omega arith)

pub sites_unlike : (m : ℕ) → Unlike (sites m)
unfolding sites below table
sites_unlike m = unlike_keep (λ s. mem s m) (from_unlike 32 0)

module _ (xss : List (List ℕ)) (rows : List (List ℕ)) (u : All Unlike xss) (d : distinct rows ≡ true) where
  fitting : List (List ℕ)
  fitting = keep (fits xss) rows

  fitting_within : (c : List ℕ) → Elem c fitting → Elem c (combos xss)
  unfolding fitting
  fitting_within c i = fits_combo xss c (keep_out (fits xss) rows i).1

  fitting_unlike : Unlike fitting
  unfolding fitting
  fitting_unlike = unlike_keep (fits xss) (distinct_unlike rows d)

  -- every choice has its row exactly when as many rows fit as there are choices
  pub choices_count : choices xss (λ t. any (same t) rows) ≡ eqb (length (keep (fits xss) rows)) (product xss)
  unfolding fitting
  choices_count = iff to from
    where
      to : choices xss (λ t. any (same t) rows) ≡ true → eqb (length (keep (fits xss) rows)) (product xss) ≡ true
      to t =
          let e : length fitting ≡ product xss = omega (
            arith,
            combos_long xss,
            within_short fitting (combos xss) fitting_unlike fitting_within,
            within_short (combos xss) fitting (combos_unlike xss u) (λ c i. in_keep (fits xss) (any_in same same_eq c rows (choices_to xss _ t c i)) (combo_fits xss c i)),
          ) in
          subst (λ (n : ℕ). eqb (length fitting) n ≡ true) e (eq-eqb (length fitting))

      found : eqb (length (keep (fits xss) rows)) (product xss) ≡ true → (c : List ℕ) → Elem c (combos xss) → (b : Bool) → any (same c) rows ≡ b → b ≡ true
      found t c i true e = refl
      found t c i false e =
          let l : length fitting ≡ product xss = eqb_eq t in
          absurd (within_full fitting (combos xss) fitting_unlike fitting_within (omega (arith, combos_long xss)) c i
          (λ j. false≢true (sym e ∙ in_any same same_refl (keep_out (fits xss) rows j).0)))

      from : eqb (length (keep (fits xss) rows)) (product xss) ≡ true → choices xss (λ t. any (same t) rows) ≡ true
      from t = choices_from xss _ (λ c i. found t c i _ refl)
