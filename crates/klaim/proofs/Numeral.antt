-- Laws of numerals: the last digit behind the others, two digits, and how long one is; how long the name of a site is.
-- Assumes nothing.
use mathlib.Core.Path.{◌≡◌, sym, ap, ◌∙◌}
use mathlib.Core.List.{List, [], ◌∷◌}
use Prim.Native.Nat.{ℕ, zero, suc, ◌+◌, ◌/◌, ◌%◌, ◌^◌, ◌<◌, ◌≤◌}
use native.Mathlib.Omega.{arith}
use native.Mathlib.Decide.{dec_lt}
use native.Mathlib.Nat.{div-lt_iff_lt-mul, pow-suc}
use lib.Dec.{lit<}
use lib.ListN.{length}
use borrow.Author.Tests.{lt-ltb, le-ltb}
use Rattle.sets.specs.Lists.{◌⧺◌}
use Rattle.sets.proofs.Lists.{length_cat}
use Rattle.klaim.specs.Listing.{digits, numeral, site_name}

few : (k n : ℕ) → n < 10 → digits k n ≡ (48 + n) ∷ []
unfolding digits
few zero n h = ap (λ (d : ℕ). (48 + d) ∷ []) (omega arith)
few (suc k) n h = rw (lt-ltb n 10 h, digits)

many : (k n : ℕ) → 10 ≤ n → digits (suc k) n ≡ digits k (n / 10) ⧺ ((48 + n % 10) ∷ [])
unfolding digits
many k n h = rw (le-ltb n 10 h, digits)

-- digits enough are enough
fuel : (k j n : ℕ) → n ≤ k → n ≤ j → digits k n ≡ digits j n
fuel zero j n p q = few zero n (omega arith) ∙ sym (few j n (omega arith))
fuel (suc k) zero n p q = few (suc k) n (omega arith) ∙ sym (few zero n (omega arith))
fuel (suc k) (suc j) n p q = go (dec_lt n 10) (λ h. fuel k j (n / 10) (omega arith) (omega arith))
  where
    go : Dec (n < 10) → (10 ≤ n → digits k (n / 10) ≡ digits j (n / 10)) → digits (suc k) n ≡ digits (suc j) n
    go (yes h) ih = few (suc k) n h ∙ sym (few (suc j) n h)
    go (no h) ih = many k n (omega arith) ∙ ap (λ (l : List ℕ). l ⧺ ((48 + n % 10) ∷ [])) (ih (omega arith)) ∙ sym (many j n (omega arith))

-- a number below ten is its digit
pub numeral_digit : (n : ℕ) → n < 10 → numeral n ≡ (48 + n) ∷ []
unfolding numeral
numeral_digit n h = few n n h

-- any other is its tenth, and its last digit behind
pub numeral_last : (n : ℕ) → 10 ≤ n → numeral n ≡ numeral (n / 10) ⧺ ((48 + n % 10) ∷ [])
unfolding numeral
numeral_last zero h = absurd (omega arith)
numeral_last (suc m) h = many m (suc m) h ∙ ap (λ (l : List ℕ). l ⧺ ((48 + suc m % 10) ∷ [])) (fuel m (suc m / 10) (suc m / 10) (omega arith) (omega arith))

-- a number from ten to 99 is its two digits
pub numeral_two : (n : ℕ) → 10 ≤ n → n < 100 → numeral n ≡ (48 + n / 10) ∷ (48 + n % 10) ∷ []
unfolding ◌⧺◌
numeral_two n h l = numeral_last n h ∙ ap (λ (d : List ℕ). d ⧺ ((48 + n % 10) ∷ [])) (numeral_digit (n / 10) (omega arith))

pub length_last : (n : ℕ) → 10 ≤ n → length (numeral n) ≡ length (numeral (n / 10)) + 1
length_last n h = ap length (numeral_last n h) ∙ length_cat (numeral (n / 10)) ((48 + n % 10) ∷ [])

-- a number below 10 ^ (k + 1) has at most k + 1 digits
pub numeral_short : (k n : ℕ) → n < 10 ^ suc k → length (numeral n) ≤ suc k
numeral_short zero n h = omega (arith, ap length (numeral_digit n h))
numeral_short (suc k) n h = go (dec_lt n 10) (λ d. numeral_short k (n / 10) ((div-lt_iff_lt-mul (lit< tt)).1 (rw (pow-suc 10 (suc k)) at h)))
  where
    go : Dec (n < 10) → (10 ≤ n → length (numeral (n / 10)) ≤ suc k) → length (numeral n) ≤ suc (suc k)
    go (yes d) ih = omega (arith, ap length (numeral_digit n d))
    go (no d) ih = omega (arith, length_last n (omega arith), ih (omega arith))

-- the name of a site has at most three bytes
pub site_short : (s : ℕ) → s < 32 → length (site_name s) ≤ 3
unfolding site_name
site_short s h = omega (arith, numeral_short 1 s (omega arith))
