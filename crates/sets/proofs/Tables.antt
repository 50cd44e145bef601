-- Laws of tables, and of a loop that fills an array with one.
-- Assumes nothing.
use mathlib.Core.Path.{◌≡◌, refl, sym, ap, subst, ◌∙◌}
use mathlib.Core.Bool.{Bool, true}
use mathlib.Core.List.{List, [], ◌∷◌, ◌++◌, map}
use Prim.Native.Nat.{ℕ, zero, suc, ◌+◌, ◌-◌, ◌<◌, ◌≤◌}
use native.Mathlib.Omega.{arith}
use native.Mathlib.Decide.{ℕ_discrete}
use native.Mathlib.Nat.{add-zero}
use lib.ListN.{length, get_or, take, drop, set, length-set}
use lib.Seq.{drop-cons, length-take-le, get_or-take, get_or-set_same, get_or-set_other, ext_get_or}
use Rattle.sets.specs.Lists.{Elem, first, later, all, table, table_from, below}
use Rattle.sets.proofs.Lists.{in_none, and_l, and_r}

module _ {A : Type 0} where
  length_table_from : (n i : ℕ) (f : ℕ → A) → length (table_from n i f) ≡ n
  unfolding table_from
  length_table_from zero i f = refl
  length_table_from (suc n) i f = ap suc (length_table_from n (suc i) f)

  get_or_table_from : (n i : ℕ) (f : ℕ → A) (k : ℕ) (d : A) → k < n → get_or (table_from n i f) k d ≡ f (i + k)
  unfolding table_from
  get_or_table_from zero i f k d h = absurd (omega arith)
  get_or_table_from (suc n) i f zero d h = rw add-zero
  get_or_table_from (suc n) i f (suc k) d h = get_or_table_from n (suc i) f k d (omega arith) ∙ ap f (omega arith)

  pub length_table : (n : ℕ) (f : ℕ → A) → length (table n f) ≡ n
  unfolding table
  length_table n f = length_table_from n 0 f

  pub get_or_table : (n : ℕ) (f : ℕ → A) (k : ℕ) (d : A) → k < n → get_or (table n f) k d ≡ f k
  unfolding table
  get_or_table n f k d h = get_or_table_from n 0 f k d h ∙ ap f (omega arith)

  -- l₀ after a loop has stored f k at each k below i
  pub record Filled (d : A) (f : ℕ → A) (l₀ l : List A) (i : ℕ) : Type 0 where
    pub long : length l ≡ length l₀
    pub done : (k : ℕ) → k < i → get_or l k d ≡ f k
    pub rest : (k : ℕ) → i ≤ k → get_or l k d ≡ get_or l₀ k d

  pub filled_none : (d : A) (f : ℕ → A) (l : List A) → Filled d f l l 0
  filled_none d f l = record { long = refl; done = λ k h. absurd (omega arith); rest = λ k h. refl }

  pub filled_more : {d : A} {f : ℕ → A} {l₀ l : List A} {i : ℕ} {v : A} → Filled d f l₀ l i → i < length l₀ → v ≡ f i → Filled d f l₀ (set l i v) (i + 1)
  filled_more {d} {f} {l₀} {l} {i} {v} F h e = record {
    long = length-set l i v ∙ F.long;
    done = λ k hk. at k hk (ℕ_discrete k i);
    rest = λ k hk. get_or-set_other l i k v d (omega arith) ∙ F.rest k (omega arith);
  }
    where
      at : (k : ℕ) → k < i + 1 → Dec (k ≡ i) → get_or (set l i v) k d ≡ f k
      at k hk (yes p) = rw p (get_or-set_same l i v d (omega (arith, F.long)) ∙ e)
      at k hk (no p) = get_or-set_other l i k v d p ∙ F.done k (omega arith)

  pub filled_all : {d : A} {f : ℕ → A} {l₀ l : List A} {n : ℕ} → Filled d f l₀ l n → length l₀ ≡ n → l ≡ table n f
  filled_all {d} {f} {l₀} {l} {n} F e =
      ext_get_or d l (table n f) (F.long ∙ e ∙ sym (length_table n f)) (λ k h. F.done k (omega (arith, F.long)) ∙ sym (get_or_table n f k d (omega (arith, F.long))))

  -- tables of functions that agree
  pub same_table : (n : ℕ) (f g : ℕ → A) → A → ((k : ℕ) → k < n → f k ≡ g k) → table n f ≡ table n g
  same_table n f g d e = ext_get_or d (table n f) (table n g) (length_table n f ∙ sym (length_table n g)) (λ k h. go k (omega (arith, length_table n f)))
    where
      go : (k : ℕ) → k < n → get_or (table n f) k d ≡ get_or (table n g) k d
      go k h = get_or_table n f k d h ∙ e k h ∙ sym (get_or_table n g k d h)

-- one element more at the end
from_snoc : {A : Type 0} (n i : ℕ) (f : ℕ → A) → table_from (suc n) i f ≡ table_from n i f ++ (f (i + n) ∷ [])
unfolding table_from
from_snoc {A} zero i f = ap (λ (k : ℕ). f k ∷ []) (omega arith)
from_snoc {A} (suc n) i f = ap (λ (l : List A). f i ∷ l) (from_snoc n (suc i) f ∙ ap (λ (k : ℕ). table_from n (suc i) f ++ (f k ∷ [])) (omega arith))

pub table_snoc : {A : Type 0} (n : ℕ) (f : ℕ → A) → table (suc n) f ≡ table n f ++ (f n ∷ [])
unfolding table
table_snoc {A} n f = from_snoc n 0 f ∙ ap (λ (k : ℕ). table_from n 0 f ++ (f k ∷ [])) (omega arith)

-- the first r elements
from_take : {A : Type 0} (n r i : ℕ) (f : ℕ → A) → r ≤ n → take r (table_from n i f) ≡ table_from r i f
unfolding table_from
from_take n zero i f h = refl
from_take zero (suc r) i f h = absurd (omega arith)
from_take {A} (suc n) (suc r) i f h = ap (λ (l : List A). f i ∷ l) (from_take n r (suc i) f (omega arith))

pub table_short : {A : Type 0} (n r : ℕ) (f : ℕ → A) → r ≤ n → take r (table n f) ≡ table r f
unfolding table
table_short n r f h = from_take n r 0 f h

-- the first n elements of a list as a table, and a table with a function put on each element
pub list_table : {A : Type 0} (d : A) (n : ℕ) (l : List A) → n ≤ length l → take n l ≡ table n (λ k. get_or l k d)
list_table d n l h =
    ext_get_or d (take n l) (table n (λ k. get_or l k d)) (long ∙ sym (length_table n (λ k. get_or l k d))) (λ k i. get_or-take n l k d (omega (arith, long)) ∙ sym (get_or_table n (λ j. get_or l j d) k d (omega (arith, long))))
  where
    long : length (take n l) ≡ n
    long = length-take-le n l h

from_map : {A B : Type 0} (g : A → B) (n i : ℕ) (f : ℕ → A) → map g (table_from n i f) ≡ table_from n i (λ k. g (f k))
unfolding table_from
from_map g zero i f = refl
from_map {A} {B} g (suc n) i f = ap (λ (l : List B). g (f i) ∷ l) (from_map g n (suc i) f)

pub map_table : {A B : Type 0} (g : A → B) (n : ℕ) (f : ℕ → A) → map g (table n f) ≡ table n (λ k. g (f k))
unfolding table
map_table g n f = from_map g n 0 f

-- what stands in a table
from_in : {A : Type 0} (n i : ℕ) (f : ℕ → A) (k : ℕ) → k < n → Elem (f (i + k)) (table_from n i f)
unfolding table_from
from_in zero i f k h = absurd (omega arith)
from_in (suc n) i f zero h = first (ap f (add-zero i))
from_in (suc n) i f (suc k) h = later (subst (λ (j : ℕ). Elem (f j) (table_from n (suc i) f)) step (from_in n (suc i) f k (omega arith)))
  where
    step : suc i + k ≡ i + suc k
    step = omega arith

pub table_in : {A : Type 0} (n : ℕ) (f : ℕ → A) (k : ℕ) → k < n → Elem (f k) (table n f)
unfolding table
table_in n f k h = subst (λ (j : ℕ). Elem (f j) (table_from n 0 f)) step (from_in n 0 f k h)
  where
    step : 0 + k ≡ k
    step = omega arith

-- the numbers below n
pub below_in : (n s : ℕ) → s < n → Elem s (below n)
unfolding below
below_in n s h = table_in n (λ i. i) s h

in_from : (n i s : ℕ) → Elem s (table_from n i (λ k. k)) → s < i + n
unfolding table_from
in_from zero i s h = absurd (in_none h)
in_from (suc n) i s (first e) = omega arith
in_from (suc n) i s (later h) = omega (arith, in_from n (suc i) s h)

pub in_below : (n s : ℕ) → Elem s (below n) → s < n
unfolding below table
in_below n s h = omega (arith, in_from n 0 s h)

from_all : {A : Type 0} (f : A → Bool) (n i : ℕ) (g : ℕ → A) → all f (table_from n i g) ≡ true → (k : ℕ) → k < n → f (g (i + k)) ≡ true
unfolding all table_from
from_all f zero i g t k h = absurd (omega arith)
from_all f (suc n) i g t zero h = ap (λ (j : ℕ). f (g j)) (omega arith) ∙ and_l _ _ t
from_all f (suc n) i g t (suc k) h = ap (λ (j : ℕ). f (g j)) (omega arith) ∙ from_all f n (suc i) g (and_r _ _ t) k (omega arith)

-- a test of a whole table, at one place
pub table_all : {A : Type 0} (f : A → Bool) (n : ℕ) (g : ℕ → A) → all f (table n g) ≡ true → (k : ℕ) → k < n → f (g k) ≡ true
unfolding table
table_all f n g t k h = ap (λ (j : ℕ). f (g j)) (omega arith) ∙ from_all f n 0 g t k h

-- a table from place i - 1 on
pub table_drop : {A : Type 0} (n : ℕ) (g : ℕ → A) (i : ℕ) → 0 < i → i ≤ n → drop (i - 1) (table n g) ≡ g (i - 1) ∷ drop i (table n g)
table_drop {A} n g i p l =
    drop-cons (table n g) (i - 1) (g (i - 1)) (omega (arith, length_table n g))
    ∙ ap (λ (x : A). x ∷ drop (suc (i - 1)) (table n g)) (get_or_table n g (i - 1) (g (i - 1)) (omega arith))
    ∙ ap (λ (k : ℕ). g (i - 1) ∷ drop k (table n g)) back
  where
    back : suc (i - 1) ≡ i
    back = omega arith
