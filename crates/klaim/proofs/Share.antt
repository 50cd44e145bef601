-- The share of a U row, q of p where p is not 0: no thousandth is nearer, and where another one is as near, the share is even; no
-- other number is so. Only the first laws here open `nearest`; the proof of the code uses them too.
-- Assumes nothing.
use mathlib.Core.Path.{◌≡◌, sym, subst}
use Prim.Native.Nat.{ℕ, ◌+◌, ◌*◌, ◌/◌, ◌%◌, ◌<◌, ◌≤◌}
use native.Mathlib.Omega.{arith, ne_cases, by_contra}
use native.Mathlib.Decide.{ℕ_discrete}
use native.Mathlib.Nat.{div-add-mod', mod-lt, mul-le-mul_right}
use lib.Dec.{eqb}
use borrow.Author.Tests.{eqb-true, eqb-false, lt-ltb, le-ltb, eq-eqb, ne_eqb}
use Rattle.sets.proofs.Lists.{cond_at}
use Rattle.klaim.specs.Listing.{even_of, nearest, share}
use Rattle.klaim.specs.Rounding.{apart, Nearest}

-- the cases of `nearest`: less than a half, more, a half at an even and at an odd number
module _ (p a : ℕ) where
  pub nearest_less : 2 * (a % p) < p → a / p ≡ nearest p a
  unfolding nearest
  nearest_less s = simp (lt-ltb (2 * (a % p)) p s)

  pub nearest_more : p < 2 * (a % p) → a / p + 1 ≡ nearest p a
  unfolding nearest
  nearest_more s = simp (le-ltb (2 * (a % p)) p (omega arith), lt-ltb p (2 * (a % p)) s)

  pub nearest_even : p ≤ 2 * (a % p) → 2 * (a % p) ≤ p → a / p % 2 ≡ 0 → a / p ≡ nearest p a
  unfolding nearest even_of
  nearest_even s t e = simp (le-ltb (2 * (a % p)) p s, le-ltb p (2 * (a % p)) t, eq-eqb (a / p % 2) 0 e)

  pub nearest_odd : p ≤ 2 * (a % p) → 2 * (a % p) ≤ p → (a / p % 2 ≡ 0 → ⊥) → a / p + 1 ≡ nearest p a
  unfolding nearest even_of
  nearest_odd s t e = simp (le-ltb (2 * (a % p)) p s, le-ltb p (2 * (a % p)) t, ne_eqb (a / p % 2) 0 e)

-- the multiples of p by two different numbers lie p or more apart
spaced : (p : ℕ) {m n : ℕ} → m < n → m * p + p ≤ n * p
spaced p h = omega (arith, mul-le-mul_right p h)

-- n * p lies within half of p of a, and at a half n is even
record Close (p a n : ℕ) : Type 0 where
  within : 2 * apart a (n * p) ≤ p
  half_even : 2 * apart a (n * p) ≡ p → n % 2 ≡ 0

close_nearest : {p a n : ℕ} → Close p a n → Nearest p a n
close_nearest {p} {a} {n} w = record { none_nearer = λ m. nearer m (ℕ_discrete m n); half_even = λ m d e. w.half_even (half m d e) }
  where
    nearer : (m : ℕ) → Dec (m ≡ n) → apart a (n * p) ≤ apart a (m * p)
    nearer m (yes e) = rw e (omega arith)
    nearer m (no d) = ne_cases m n _ d (λ l. omega (arith, w.within, spaced p l)) (λ l. omega (arith, w.within, spaced p l))

    half : (m : ℕ) → (m ≡ n → ⊥) → apart a (m * p) ≡ apart a (n * p) → 2 * apart a (n * p) ≡ p
    half m d e = ne_cases m n _ d (λ l. omega (arith, w.within, spaced p l)) (λ l. omega (arith, w.within, spaced p l))

-- up to a half goes down, from a half on goes up, and at a half the number is even
module _ (p a : ℕ) (h : 0 < p) where
  down : 2 * (a % p) ≤ p → (2 * (a % p) ≡ p → a / p % 2 ≡ 0) → Close p a (a / p)
  down t even = record { within = omega (arith, div-add-mod' a p); half_even = λ e. even (omega (arith, div-add-mod' a p)) }

  up : p ≤ 2 * (a % p) → (2 * (a % p) ≡ p → (a / p + 1) % 2 ≡ 0) → Close p a (a / p + 1)
  up t even = record { within = omega (arith, div-add-mod' a p, mod-lt a h); half_even = λ e. even (omega (arith, div-add-mod' a p, mod-lt a h)) }

  less : 2 * (a % p) < p → Close p a (nearest p a)
  less t = subst (Close p a) (nearest_less p a t) (down (omega arith) (λ e. omega arith))

  more : p < 2 * (a % p) → Close p a (nearest p a)
  more t = subst (Close p a) (nearest_more p a t) (up (omega arith) (λ e. omega arith))

  half : p ≤ 2 * (a % p) → 2 * (a % p) ≤ p → Dec (a / p % 2 ≡ 0) → Close p a (nearest p a)
  half s t (yes e) = subst (Close p a) (nearest_even p a s t e) (down t (λ _. e))
  half s t (no d) = subst (Close p a) (nearest_odd p a s t d) (up s (λ _. omega arith))

  nearest_is : Nearest p a (nearest p a)
  nearest_is = close_nearest (go (ℕ_discrete (2 * (a % p)) p))
    where
      go : Dec (2 * (a % p) ≡ p) → Close p a (nearest p a)
      go (yes e) = half (omega arith) (omega arith) (ℕ_discrete (a / p % 2) 0)
      go (no d) = ne_cases (2 * (a % p)) p (Close p a (nearest p a)) d less more

-- no number stands between two that are as near as any: it would be nearer
between : {p a m n : ℕ} → 0 < p → Nearest p a m → apart a (m * p) ≡ apart a (n * p) → m + 1 < n → ⊥
between {p} {a} {m} {n} h s e l = omega (arith, s.none_nearer (m + 1), spaced p l)

nearest_only : {p a m n : ℕ} → 0 < p → Nearest p a m → Nearest p a n → m ≡ n
nearest_only {p} {a} {m} {n} h s t = go (ℕ_discrete m n)
  where
    same : apart a (m * p) ≡ apart a (n * p)
    same = omega (arith, s.none_nearer n, t.none_nearer m)

    go : Dec (m ≡ n) → m ≡ n
    go (yes e) = e
    go (no d) =
        let x = s.half_even n (λ e. d (sym e)) (sym same) in
        let y = t.half_even m d same in
        absurd (ne_cases m n ⊥ d (λ l. between h s same (omega arith)) (λ l. between h t (sym same) (omega arith)))

-- No. 7: "to the nearest thousandth, a half going to the even one": the share is that number, and no other is
pub share_nearest : (p q : ℕ) → 0 < p → Nearest p (1000 * q) (share p q)
unfolding share
share_nearest p q h = cond_at (Nearest p (1000 * q)) (eqb p 0) (λ t. omega (arith, eqb-true p 0 t)) (λ t. nearest_is p (1000 * q) h)

pub share_only : (p q n : ℕ) → 0 < p → Nearest p (1000 * q) n → n ≡ share p q
share_only p q n h s = nearest_only h s (share_nearest p q h)

-- a share of what is held is at most all of it: all is nearer than more
nearest_most : {p a n k : ℕ} → 0 < p → Nearest p a n → a ≤ k * p → n ≤ k
nearest_most {p} {a} {n} {k} h s l = by_contra n k (λ t. omega (arith, spaced p t, s.none_nearer k))

pub share_most : (p q : ℕ) → q ≤ p → share p q ≤ 1000
unfolding share
share_most p q h = cond_at (λ (n : ℕ). n ≤ 1000) (eqb p 0) (λ t. omega arith) (λ t. go (eqb-false p 0 t))
  where
    go : (p ≡ 0 → ⊥) → nearest p (1000 * q) ≤ 1000
    go d = nearest_most (omega arith) (nearest_is p (1000 * q) (omega arith)) (omega arith)
