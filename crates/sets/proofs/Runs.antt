-- Laws of what a loop gathers in order: a union or a sum with one part more at its end.
-- Assumes nothing.
use mathlib.Core.Path.{◌≡◌, refl, sym, ap, ◌∙◌, subst}
use mathlib.Core.Bool.{Bool}
use mathlib.Core.List.{List, [], ◌∷◌, ◌++◌}
use Prim.Native.Nat.{ℕ, zero, suc, ◌+◌, ◌*◌, ◌<◌, ◌≤◌}
use native.Mathlib.Omega.{arith}
use native.Mathlib.Nat.{add-zero, mul-suc}
use native.Mathlib.Numerals.{add-one}
use lib.ListN.{length, take, get_or}
use lib.Seq.{take-suc}
use Rattle.sets.specs.Lists.{◌⧺◌, only, keep, sum, concat, below, table, table_from}
use Rattle.sets.proofs.Lists.{keep_snoc}
use Rattle.sets.proofs.Tables.{table_snoc}

module _ {A : Type 0} where
  pub cat_none : (xs : List A) → xs ⧺ [] ≡ xs
  unfolding ◌⧺◌
  cat_none [] = refl
  cat_none (x ∷ xs) = ap (λ (l : List A). x ∷ l) (cat_none xs)

  pub cat_assoc : (xs ys zs : List A) → (xs ⧺ ys) ⧺ zs ≡ xs ⧺ (ys ⧺ zs)
  unfolding ◌⧺◌
  cat_assoc [] ys zs = refl
  cat_assoc (x ∷ xs) ys zs = ap (λ (l : List A). x ∷ l) (cat_assoc xs ys zs)

  pub sum_append : (f : A → ℕ) (xs ys : List A) → sum f (xs ++ ys) ≡ sum f xs + sum f ys
  unfolding sum
  sum_append f [] ys = omega arith
  sum_append f (x ∷ xs) ys = omega (arith, sum_append f xs ys)

  pub sum_snoc : (f : A → ℕ) (xs : List A) (x : A) → sum f (xs ++ (x ∷ [])) ≡ sum f xs + f x
  unfolding sum
  sum_snoc f xs x = sum_append f xs (x ∷ []) ∙ ap (λ (n : ℕ). sum f xs + n) (add-zero (f x))

  pub sum_take : (f : A → ℕ) (xs : List A) (i : ℕ) (d : A) → i < length xs → sum f (take (i + 1) xs) ≡ sum f (take i xs) + f (get_or xs i d)
  sum_take f xs i d h = ap (λ (n : ℕ). sum f (take n xs)) (add-one i) ∙ ap (sum f) (take-suc xs i d h) ∙ sum_snoc f (take i xs) (get_or xs i d)

pub below_snoc : (n : ℕ) → below (n + 1) ≡ below n ++ (n ∷ [])
unfolding below
below_snoc n = ap (λ (k : ℕ). table k (λ i. i)) (add-one n) ∙ table_snoc n (λ i. i)

pub sum_below : (f : ℕ → ℕ) (n : ℕ) → sum f (below (n + 1)) ≡ sum f (below n) + f n
sum_below f n = ap (sum f) (below_snoc n) ∙ sum_snoc f (below n) n

module _ {A B : Type 0} where
  pub concat_append : (f : A → List B) (xs ys : List A) → concat f (xs ++ ys) ≡ concat f xs ⧺ concat f ys
  unfolding concat ◌⧺◌
  concat_append f [] ys = refl
  concat_append f (x ∷ xs) ys = ap (λ (l : List B). f x ⧺ l) (concat_append f xs ys) ∙ sym (cat_assoc (f x) (concat f xs) (concat f ys))

  pub concat_one : (f : A → List B) (x : A) → concat f (x ∷ []) ≡ f x
  unfolding concat
  concat_one f x = cat_none (f x)

module _ {B : Type 0} (f : ℕ → List B) where
  pub concat_below : (n : ℕ) → concat f (below (n + 1)) ≡ concat f (below n) ⧺ f n
  concat_below n = ap (concat f) (below_snoc n) ∙ concat_append f (below n) (n ∷ []) ∙ ap (λ (l : List B). concat f (below n) ⧺ l) (concat_one f n)

  -- of those numbers that pass
  pub concat_keep : (g : ℕ → Bool) (n : ℕ) → concat f (keep g (below (n + 1))) ≡ concat f (keep g (below n)) ⧺ concat f (only (g n) n)
  concat_keep g n = ap (λ (l : List ℕ). concat f (keep g l)) (below_snoc n) ∙ ap (concat f) (keep_snoc g (below n) n) ∙ concat_append f (keep g (below n)) (only (g n) n)

-- functions that agree below n
pub concat_same : {B : Type 0} (f g : ℕ → List B) (n : ℕ) → ((s : ℕ) → s < n → f s ≡ g s) → concat f (below n) ≡ concat g (below n)
unfolding concat below table table_from
concat_same f g zero e = refl
concat_same {B} f g (suc n) e =
    subst (λ (m : ℕ). concat f (below m) ≡ concat g (below m)) (add-one n)
    (concat_below f n ∙ ap (λ (l : List B). l ⧺ f n) (concat_same f g n (λ s h. e s (omega arith))) ∙ ap (λ (l : List B). concat g (below n) ⧺ l) (e n (omega arith)) ∙ sym (concat_below g n))

pub sum_same : (f g : ℕ → ℕ) (n : ℕ) → ((s : ℕ) → s < n → f s ≡ g s) → sum f (below n) ≡ sum g (below n)
unfolding sum below table table_from
sum_same f g zero e = refl
sum_same f g (suc n) e =
    let h = sum_same f g n (λ s h. e s (omega arith)) in
    subst (λ (m : ℕ). sum f (below m) ≡ sum g (below m)) (add-one n) (sum_below f n ∙ rw (h, e n (omega arith)) (sym (sum_below g n)))

module _ {A : Type 0} where
  -- sums of terms that are at most k, and of terms that are no greater
  pub sum_most : (f : A → ℕ) (k : ℕ) → ((x : A) → f x ≤ k) → (xs : List A) → sum f xs ≤ k * length xs
  unfolding sum
  sum_most f k h [] = omega arith
  sum_most f k h (x ∷ xs) = rw (mul-suc k (length xs)) (omega (arith, h x, sum_most f k h xs))

  pub sum_within : (f g : A → ℕ) → ((x : A) → f x ≤ g x) → (xs : List A) → sum f xs ≤ sum g xs
  unfolding sum
  sum_within f g h [] = omega arith
  sum_within f g h (x ∷ xs) = omega (arith, h x, sum_within f g h xs)
