-- Bounds of the counts: how many rights are reported, held and used at most.
-- Assumes nothing.
use mathlib.Core.Path.{◌≡◌, ap, refl, ◌∙◌}
use mathlib.Core.Bool.{Bool, true, false}
use mathlib.Core.List.{List}
use Prim.Native.Nat.{ℕ, ◌+◌, ◌^◌, ◌≤◌, zero, suc, ◌<◌}
use native.Mathlib.Omega.{arith}
use lib.ListN.{length, get_or, replicate, get_or-replicate}
use Rattle.sets.specs.Lists.{◌&◌, only, keep, sum, below, table}
use Rattle.sets.specs.Bits.{has, meet, size, every_right}
use Rattle.sets.proofs.Lists.{length_cat, and_true}
use Rattle.sets.proofs.Tables.{length_table, get_or_table}
use Rattle.sets.proofs.Bits.{has_and}
use Rattle.sets.proofs.Runs.{sum_most, sum_within, sum_same}
use Rattle.klaim.specs.Net.{Net, home}
use Rattle.klaim.specs.Reader.{World}
use Rattle.klaim.specs.Listing.{reported, home_count, usable, used_count}
use Rattle.counts.proofs.Size.{size_most}

-- no more rights in common than one set has
abbrev one : ℕ → ℕ → ℕ
one m r = length (only (has m r) r)

parts : (m : ℕ) → size m ≡ one m 1 + (one m 2 + (one m 4 + (one m 8 + one m 16)))
unfolding size keep
parts m = simp length_cat (omega arith)

fewer : (x y : Bool) (r : ℕ) → length (only (x & y) r) ≤ length (only x r)
unfolding ◌&◌ only
fewer true true r = omega arith
fewer true false r = omega arith
fewer false y r = omega arith

less : (a b n : ℕ) → one (meet a b) (2 ^ n) ≤ one a (2 ^ n)
less a b n = rw (has_and a b n) (fewer (has a (2 ^ n)) (has b (2 ^ n)) (2 ^ n))

pub size_meet : (a b : ℕ) → size (meet a b) ≤ size a
size_meet a b = omega (arith, parts a, parts (meet a b), less a b 0, less a b 1, less a b 2, less a b 3, less a b 4)

-- every right is one of the five
every_has : (n : ℕ) → n < 5 → has every_right (2 ^ n) ≡ true
unfolding has
every_has zero h = refl
every_has (suc zero) h = refl
every_has (suc (suc zero)) h = refl
every_has (suc (suc (suc zero))) h = refl
every_has (suc (suc (suc (suc zero)))) h = refl
every_has (suc (suc (suc (suc (suc n))))) h = absurd (omega arith)

every_one : (a n : ℕ) → n < 5 → one (meet a every_right) (2 ^ n) ≡ one a (2 ^ n)
every_one a n h = rw (has_and a every_right n, every_has n h, and_true (has a (2 ^ n)))

size_every : (a : ℕ) → size (meet a every_right) ≡ size a
size_every a = omega (arith, parts a, parts (meet a every_right), every_one a 0 (omega arith), every_one a 1 (omega arith), every_one a 2 (omega arith), every_one a 3 (omega arith), every_one a 4 (omega arith))

pub home_every : (N : Net) (s : ℕ) → sum (λ t. size (meet (home N s t) (get_or (replicate 32 every_right) t 0))) (below 32) ≡ home_count N s
unfolding home_count
home_every N s = sum_same _ _ 32 (λ t h. ap (λ (m : ℕ). size (meet (home N s t) m)) (get_or-replicate 32 t every_right 0 h) ∙ size_every (home N s t))

length_below : (n : ℕ) → length (below n) ≡ n
unfolding below
length_below n = length_table n (λ i. i)

-- at most 5 rights towards each of 1,024 pairs, 32 sites
pub reported_most : (bytes : List ℕ) → length bytes ≡ 1024 → reported bytes ≤ 5120
unfolding reported
reported_most bytes e = omega (arith, sum_most size 5 size_most bytes)

pub held_most : (N : Net) (s : ℕ) → home_count N s ≤ 160
unfolding home_count
held_most N s = omega (arith, sum_most (λ t. size (home N s t)) 5 (λ t. size_most (home N s t)) (below 32), length_below 32)

-- no more used than held
pub used_most : (w : World) (s : ℕ) → used_count w s ≤ home_count w.net s
unfolding used_count home_count
used_most w s = sum_within (λ t. size (meet (home w.net s t) (usable w s t))) (λ t. size (home w.net s t)) (λ t. size_meet (home w.net s t) (usable w s t)) (below 32)

-- the rights used, counted from a table of the usable ones
pub used_table : (w : World) (s : ℕ) → sum (λ t. size (meet (home w.net s t) (get_or (table 32 (usable w s)) t 0))) (below 32) ≡ used_count w s
unfolding used_count
used_table w s =
    sum_same (λ t. size (meet (home w.net s t) (get_or (table 32 (usable w s)) t 0))) (λ t. size (meet (home w.net s t) (usable w s t))) 32
    (λ t h. ap (λ (u : ℕ). size (meet (home w.net s t) u)) (get_or_table 32 (usable w s) t 0 h))
