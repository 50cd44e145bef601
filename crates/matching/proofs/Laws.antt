-- Laws of the rules as the code tests them.
-- Assumes nothing.
use mathlib.Core.Path.{◌≡◌, refl, sym, ap, ap₂, subst, ◌∙◌}
use mathlib.Core.Bool.{Bool, true, cond, false≢true}
use mathlib.Core.List.{List, [], ◌∷◌, ◌++◌, map}
use Prim.Native.Nat.{ℕ, zero, suc, ◌+◌, ◌*◌, ◌-◌, ◌<◌, ◌≤◌, min}
use native.Mathlib.Omega.{arith}
use native.Mathlib.Numerals.{add-one}
use native.Mathlib.Nat.{min-eq_left, min-eq_right}
use native.Mathlib.Decide.{dec_le}
use lib.Dec.{eqb}
use lib.ListN.{length, get_or, take, drop, set, length-take, length-map, length-append, drop_of_length-le}
use lib.Seq.{take-suc-set, length-take-le, drop-cons, get_or-take}
use Rattle.std.proofs.lemmas.List.{get_or-map, get_or_default, map_more}
use Rattle.sets.specs.Lists.{All, done, more, ◌&◌, any, only, keep, among, table_from, table, same, fits, product}
use Rattle.sets.specs.Bits.{mem, sites}
use Rattle.sets.proofs.Lists.{iff, and_r, among_in, any_i, eq-eqb, eqb_eq, only_long, keep_snoc}
use Rattle.sets.proofs.Counting.{Unlike}
use Rattle.sets.proofs.Tables.{table_snoc}
use Rattle.sets.proofs.Bits.{sites_in_lem, in_sites}
use Rattle.klaim.specs.Invariant.{distinct}
use Rattle.klaim.specs.Analysis.{choices}
use Rattle.klaim.proofs.Choices.{choices_count, sites_unlike}
use Rattle.tables.specs.declared.Tuple.{Tuple}
use Rattle.tables.specs.View.{Tuples, no_tuple, tuple_view, row_at}

-- a site is in a set as the code tests it
pub among_low : (m v : ℕ) → v < 32 → mem v m ≡ among (sites m) v
unfolding among
among_low m v h = iff (λ t. any_i (eqb v) (sites_in_lem m v h t) (eq-eqb v)) (λ t. (in_sites m v (among_in (sites m) v t)).1)

-- the sets of sites of the first m reaches
abbrev pub Sets : List ℕ → ℕ → List (List ℕ)
Sets ms m = map sites (take m ms)

pub fits_long : (xss : List (List ℕ)) (row : List ℕ) → fits xss row ≡ true → length row ≡ length xss
unfolding fits
fits_long [] [] t = refl
fits_long [] (v ∷ vs) t = absurd (false≢true t)
fits_long (xs ∷ xss) [] t = absurd (false≢true t)
fits_long (xs ∷ xss) (v ∷ vs) t = ap suc (fits_long xss vs (and_r _ _ t))

-- from place j on
pub fits_from : (xss : List (List ℕ)) (row : List ℕ) (j : ℕ) → j < length xss → j < length row → fits (drop j xss) (drop j row) ≡ (among (get_or xss j []) (get_or row j 0) & fits (drop (suc j) xss) (drop (suc j) row))
unfolding fits
fits_from xss row j h l = rw (drop-cons xss j [] h, drop-cons row j 0 l)

pub fits_end : (xss : List (List ℕ)) (row : List ℕ) (j : ℕ) → length xss ≤ j → length row ≤ j → fits (drop j xss) (drop j row) ≡ true
unfolding fits
fits_end xss row j h l = rw (drop_of_length-le xss h, drop_of_length-le row l)

-- one more element of a table that is kept or not
pub keep_more : {A : Type 0} (p : A → Bool) (n : ℕ) (f : ℕ → A) (m : ℕ) → suc n ≡ m → length (keep p (table n f)) + cond (p (f n)) 1 0 ≡ length (keep p (table m f))
keep_more {A} p n f m e =
    ap (λ (k : ℕ). length (keep p (table n f)) + k) (sym (only_long (p (f n)) (f n)))
    ∙ sym (length-append (keep p (table n f)) (only (p (f n)) (f n)))
    ∙ ap length (sym (keep_snoc p (table n f) (f n)) ∙ ap (keep p) (sym (table_snoc n f) ∙ ap (λ (k : ℕ). table k f) e))

pub keep_none : {A : Type 0} (p : A → Bool) (f : ℕ → A) → length (keep p (table 0 f)) ≡ 0
unfolding table table_from keep
keep_none p f = refl

-- the sets at place j
sets_get : (ms : List ℕ) (m j : ℕ) → j < m → m ≤ 5 → length ms ≡ 5 → get_or (Sets ms m) j [] ≡ sites (get_or ms j 0)
sets_get ms m j h l e = get_or-map sites (take m ms) j 0 [] (omega (arith, length-take m ms)) ∙ ap sites (get_or-take m ms j 0 h)

pub sets_long_lem : (ms : List ℕ) (m : ℕ) → m ≤ 5 → length ms ≡ 5 → length (Sets ms m) ≡ m
sets_long_lem ms m l e = length-map (take m ms) sites ∙ omega (arith, length-take m ms)

-- a row, from place j on, where it has m sites
module _ (ms row : List ℕ) (m j : ℕ) (five : length ms ≡ 5) (most : m ≤ 5) (same_long : length row ≡ m) (here : j < m) where
  pub fits_at : fits (drop j (Sets ms m)) (drop j row) ≡ (among (sites (get_or ms j 0)) (get_or row j 0) & fits (drop (suc j) (Sets ms m)) (drop (suc j) row))
  fits_at =
      fits_from (Sets ms m) row j (omega (arith, sets_long_lem ms m most five)) (omega (arith, same_long))
      ∙ ap (λ (xs : List ℕ). among xs (get_or row j 0) & fits (drop (suc j) (Sets ms m)) (drop (suc j) row)) (sets_get ms m j here most five)

-- the number of choices, from place j on, at most 257
cap : (c p : ℕ) → min (c * min p 257) 257 ≡ min (c * p) 257
cap c p = go (dec_le p 257)
  where
    more : (c p : ℕ) → (p ≤ 257 → ⊥) → min (c * 257) 257 ≡ min (c * p) 257
    more zero p h = omega arith
    more (suc c) p h = omega arith

    go : Dec (p ≤ 257) → min (c * min p 257) 257 ≡ min (c * p) 257
    go (yes h) = ap (λ (x : ℕ). min (c * x) 257) (min-eq_left h)
    go (no h) = ap (λ (x : ℕ). min (c * x) 257) (min-eq_right {n = 257} {m = p} (omega arith)) ∙ more c p h

pub product_end : (ms : List ℕ) (m : ℕ) → m ≤ 5 → length ms ≡ 5 → 1 ≡ min (product (drop m (Sets ms m))) 257
unfolding product
product_end ms m l e = ap (λ (xss : List (List ℕ)). min (product xss) 257) (sym (drop_of_length-le (Sets ms m) {i = m} (omega (arith, sets_long_lem ms m l e))))

pub product_down : (ms : List ℕ) (m j : ℕ) → m ≤ 5 → length ms ≡ 5 → 0 < j → j ≤ m → min (length (sites (get_or ms (j - 1) 0)) * min (product (drop j (Sets ms m))) 257) 257 ≡ min (product (drop (j - 1) (Sets ms m))) 257
unfolding product
product_down ms m j l e p h = cap (length (sites (get_or ms (j - 1) 0))) (product (drop j (Sets ms m))) ∙ sym (ap (λ (xss : List (List ℕ)). min (product xss) 257) here)
  where
    back : suc (j - 1) ≡ j
    back = omega arith

    here : drop (j - 1) (Sets ms m) ≡ sites (get_or ms (j - 1) 0) ∷ drop j (Sets ms m)
    here =
        drop-cons (Sets ms m) (j - 1) [] (omega (arith, sets_long_lem ms m l e))
        ∙ ap (λ (xs : List ℕ). xs ∷ drop (suc (j - 1)) (Sets ms m)) (sets_get ms m (j - 1) (omega arith) l e)
        ∙ ap (λ (k : ℕ). sites (get_or ms (j - 1) 0) ∷ drop k (Sets ms m)) back

sets_unlike : (ms : List ℕ) → All Unlike (map sites ms)
sets_unlike [] = done
sets_unlike (m ∷ ms) = more (sites_unlike m) (sets_unlike ms)

-- every choice has a row, by counting
pub count_rule : (ms : List ℕ) (m : ℕ) (rows : List (List ℕ)) (have need : ℕ) → distinct rows ≡ true → have ≡ length (keep (fits (Sets ms m)) rows) → have ≤ 256 → need ≡ min (product (Sets ms m)) 257 → eqb have need ≡ choices (Sets ms m) (λ t. any (same t) rows)
count_rule ms m rows have need d h few e =
    iff (λ t. let q : have ≡ need = eqb_eq t in yes (omega arith)) (λ t. let q : have ≡ product (Sets ms m) = no t in to (omega arith))
    ∙ sym (choices_count (Sets ms m) rows (sets_unlike (take m ms)) d)
  where
    yes : have ≡ product (Sets ms m) → eqb (length (keep (fits (Sets ms m)) rows)) (product (Sets ms m)) ≡ true
    yes q = subst (λ (x : ℕ). eqb x (product (Sets ms m)) ≡ true) (sym q ∙ h) (eq-eqb (product (Sets ms m)))

    no : eqb (length (keep (fits (Sets ms m)) rows)) (product (Sets ms m)) ≡ true → have ≡ product (Sets ms m)
    no t = h ∙ eqb_eq t

    to : have ≡ need → eqb have need ≡ true
    to q = subst (λ (x : ℕ). eqb have x ≡ true) q (eq-eqb have)

-- each element has what all have
pub all_nth : {A : Type 0} {P : A → Type 0} {xs : List A} → All P xs → (k : ℕ) {x : A} → k < length xs → x ≡ get_or xs k x → P x
all_nth {xs = []} h k l e = absurd (omega arith)
all_nth {P = P} {xs = y ∷ ys} (more p h) zero l e = subst P (sym e) p
all_nth {xs = y ∷ ys} (more p h) (suc k) l e = all_nth h k (omega arith) e

-- one more set is stored
pub sets_more : {A : Type 0} (f : A → ℕ) (v : ℕ) (xs : List A) (r : List ℕ) (j y : ℕ) {x : A}
    → length r ≡ 5 → j < 4 → j < length xs → x ≡ get_or xs j x → take (j + 1) r ≡ v ∷ map f (take j xs) → y ≡ f x → take (j + 1 + 1) (set r (j + 1) y) ≡ v ∷ map f (take (j + 1) xs)
sets_more f v xs r j y {x} five low here at e w =
    ap (λ (n : ℕ). take n (set r (j + 1) y)) (add-one (j + 1))
    ∙ take-suc-set r (j + 1) y (omega arith)
    ∙ ap₂ (λ (l : List ℕ) (z : ℕ). l ++ (z ∷ [])) e (w ∙ ap f at)
    ∙ ap (λ (l : List ℕ). v ∷ l) (sym (map_more f xs j x here))

-- the rows as a loop over their slice reads them
module _ (t : Tuples) {xs : List Tuple} (e : xs ≡ take t.count t.items) where
  pub rows_long : length xs ≡ t.count
  rows_long = ap length e ∙ length-take-le t.count t.items (omega (arith, t.few, t.long))

  pub row_read : (i : ℕ) (d : Tuple) → i < length xs → tuple_view (get_or xs i d) ≡ row_at t i
  unfolding row_at
  row_read i d h =
      let here : i < t.count = omega (arith, rows_long) in
      ap tuple_view
      (ap (λ (ys : List Tuple). get_or ys i d) e
      ∙ get_or-take t.count t.items i d here
      ∙ get_or_default t.items i d no_tuple (omega (arith, t.few, t.long)))
