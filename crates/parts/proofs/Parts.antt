-- Laws of the place of the first row `.`: one byte further, found, and at the end.
-- Assumes nothing.
use mathlib.Core.Path.{◌≡◌, refl, sym, ap, ◌∙◌}
use mathlib.Core.Bool.{Bool, true, false}
use mathlib.Core.List.{List, [], ◌∷◌}
use Prim.Native.Nat.{ℕ, suc, ◌+◌, ◌-◌, ◌<◌, ◌≤◌}
use native.Mathlib.Omega.{arith}
use native.Mathlib.Numerals.{add-one}
use lib.Dec.{eqb}
use lib.ListN.{length, take, drop, get_or, length-drop, drop_of_length-le, length-take}
use lib.Seq.{drop-cons, drop-length}
use borrow.Author.Tests.{ne_eqb}
use Rattle.sets.specs.Lists.{◌&◌, either, same}
use Rattle.sets.proofs.Lists.{and_true, and_false}
use Rattle.klaim.specs.Listing.{before, estimate_part}
use Rattle.parts.specs.Parts.{begins, dot_at}

-- the first byte of an input begins a row; behind a byte, a row begins if that is a newline
pub begins_first : (xs : List ℕ) → begins xs 0 ≡ true
unfolding begins either
begins_first xs = refl

pub begins_later : (xs : List ℕ) (i : ℕ) → (i ≡ 0 → ⊥) → begins xs i ≡ eqb (get_or xs (i - 1) 0) 10
unfolding begins either
begins_later xs i h = rw (ne_eqb i 0 h)

begins_next : (xs : List ℕ) (i : ℕ) → begins xs (i + 1) ≡ eqb (get_or xs i 0) 10
begins_next xs i =
    let e : i + 1 - 1 ≡ i = omega arith in
    begins_later xs (i + 1) (λ h. omega arith) ∙ ap (λ (k : ℕ). eqb (get_or xs k 0) 10) e

short : (ys : List ℕ) → length ys < 2 → same (take 2 ys) (46 ∷ 10 ∷ []) ≡ false
unfolding same
short [] h = refl
short (y ∷ []) h = and_false (eqb y 46)
short (y ∷ z ∷ ys) h = absurd (omega arith)

-- too near the end for a row `.`
pub dot_short : (xs : List ℕ) (i : ℕ) → length xs - i < 2 → dot_at xs i ≡ false
unfolding dot_at
dot_short xs i h = short (drop i xs) (omega (arith, length-drop i xs))

-- else the two bytes are compared
pub dot_bytes : (xs : List ℕ) (i : ℕ) → 2 ≤ length xs - i → dot_at xs i ≡ (eqb (get_or xs i 0) 46 & eqb (get_or xs (i + 1) 0) 10)
unfolding dot_at same
dot_bytes xs i h = rw (drop-cons xs i 0 (omega arith), drop-cons xs (suc i) 0 (omega arith), add-one i, and_true)

-- one byte further
step : (start : Bool) (b : ℕ) (xs : List ℕ) → (start & same (take 2 (b ∷ xs)) (46 ∷ 10 ∷ [])) ≡ false → before start (b ∷ xs) ≡ suc (before (eqb b 10) xs)
unfolding before
step start b xs h = rw (h, before)

stop : (start : Bool) (b : ℕ) (xs : List ℕ) → (start & same (take 2 (b ∷ xs)) (46 ∷ 10 ∷ [])) ≡ true → before start (b ∷ xs) ≡ 0
unfolding before
stop start b xs h = rw (h, before)

-- the place is within the input
most : (start : Bool) (xs : List ℕ) → before start xs ≤ length xs
unfolding before
most start [] = omega arith
most start (b ∷ xs) = go (start & same (take 2 (b ∷ xs)) (46 ∷ 10 ∷ [])) refl (most (eqb b 10) xs)
  where
    go : (t : Bool) → (start & same (take 2 (b ∷ xs)) (46 ∷ 10 ∷ [])) ≡ t → before (eqb b 10) xs ≤ length xs → before start (b ∷ xs) ≤ suc (length xs)
    go true e h = omega (arith, stop start b xs e)
    go false e h = omega (arith, step start b xs e)

pub before_most : (xs : List ℕ) → before true xs ≤ length xs
before_most xs = most true xs

-- the bytes before it, counted
pub front_long : (n : ℕ) (xs : List ℕ) → n ≡ before true xs → n ≡ length (take n xs)
front_long n xs e = omega (arith, before_most xs, length-take n xs)

-- where fewer than two bytes are left, the estimate is empty
pub behind_none : (xs : List ℕ) (n : ℕ) → n ≡ before true xs → length xs - n < 2 → drop (length xs) xs ≡ estimate_part xs
unfolding estimate_part
behind_none xs n e h = drop-length xs ∙ (let h : length xs ≤ before true xs + 2 = omega (arith, before_most xs) in sym (drop_of_length-le xs h))

pub behind_some : (xs : List ℕ) (n : ℕ) → n ≡ before true xs → drop (n + 2) xs ≡ estimate_part xs
unfolding estimate_part
behind_some xs n e = ap (λ (k : ℕ). drop (k + 2) xs) e

-- what the search has passed, and what is left
pub record Searched (xs : List ℕ) (i : ℕ) : Type 0 where
  pub within : i ≤ length xs
  pub rest : before true xs ≡ i + before (begins xs i) (drop i xs)

pub searched_none : (xs : List ℕ) → Searched xs 0
searched_none xs = record { within = omega arith; rest = rw (begins_first xs) (omega arith) }

module _ {xs : List ℕ} {i : ℕ} (w : Searched xs i) where
  pub searched_more : i < length xs → (begins xs i & dot_at xs i) ≡ false → Searched xs (i + 1)
  unfolding dot_at
  searched_more h t = record {
    within = omega arith;
    rest =
        let e : before (begins xs i) (drop i xs) ≡ suc (before (begins xs (i + 1)) (drop (i + 1) xs)) = rw (begins_next xs i, add-one i, drop-cons xs i 0 h) (step (begins xs i) (get_or xs i 0) (drop (suc i) xs) (rw (drop-cons xs i 0 h) at t)) in
        omega (arith, w.rest);
  }

  pub searched_found : i < length xs → (begins xs i & dot_at xs i) ≡ true → i ≡ before true xs
  unfolding dot_at
  searched_found h t =
      let e : before (begins xs i) (drop i xs) ≡ 0 = rw (drop-cons xs i 0 h) (stop (begins xs i) (get_or xs i 0) (drop (suc i) xs) (rw (drop-cons xs i 0 h) at t)) in
      omega (arith, w.rest)

  pub searched_all : length xs ≤ i → i ≡ before true xs
  unfolding before
  searched_all h =
      let e : before (begins xs i) (drop i xs) ≡ 0 = rw (drop_of_length-le xs h) refl in
      omega (arith, w.rest)
