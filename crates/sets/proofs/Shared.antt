-- Laws of sets and tests that several crates cite.
-- Assumes nothing.
use mathlib.Core.Path.{◌≡◌, ap, ◌∙◌}
use mathlib.Core.Bool.{Bool, true, false}
use Prim.Native.Nat.{ℕ, suc, ◌^◌, ◌<◌, ◌≤◌}
use native.Mathlib.Omega.{arith}
use native.Mathlib.Nat.{div-eq_of_lt, lt_of_lt_of_le}
use lib.Dec.{eqb}
use lib.ListN.{drop, drop_of_length-le}
use lib.Pow.{pow_mono}
use lib.Seq.{drop-cons}
use Rattle.sets.specs.Lists.{◌&◌, either, all, any, table}
use Rattle.sets.specs.Bits.{has, mem}
use Rattle.sets.proofs.Tables.{get_or_table, length_table}
use Rattle.sets.proofs.Lists.{and_yes, and_no, eqb_turn}
use Rattle.sets.proofs.Bits.{mem_one}

-- the set of one site
pub mem_single : (s n : ℕ) → mem s (2 ^ n) ≡ eqb n s
mem_single s n = mem_one s n ∙ eqb_turn s n

-- a number below 2 ^ k has no bit from k on
pub none_high : (k m n : ℕ) → m < 2 ^ k → k ≤ n → mem n m ≡ false
unfolding has
none_high k m n h l = rw (div-eq_of_lt (lt_of_lt_of_le h (pow_mono l)))

-- a test of all, or of any, of a table, from place i on
module _ {A : Type 0} (f : A → Bool) (n : ℕ) (g : ℕ → A) where
  all_from : (i : ℕ) → i < n → all f (drop i (table n g)) ≡ (f (g i) & all f (drop (suc i) (table n g)))
  unfolding all
  all_from i h =
      ap (all f) (drop-cons (table n g) i (g i) (omega (arith, length_table n g)))
      ∙ ap (λ (x : A). f x & all f (drop (suc i) (table n g))) (get_or_table n g i (g i) h)

  pub all_yes : (i k : ℕ) → i < n → suc i ≡ k → f (g i) ≡ true → all f (drop i (table n g)) ≡ all f (drop k (table n g))
  all_yes i k h e t = all_from i h ∙ and_yes _ t ∙ ap (λ (k : ℕ). all f (drop k (table n g))) e

  pub all_no : (i : ℕ) → i < n → f (g i) ≡ false → all f (drop i (table n g)) ≡ false
  all_no i h t = all_from i h ∙ and_no _ t

  pub all_end : (i : ℕ) → n ≤ i → all f (drop i (table n g)) ≡ true
  unfolding all
  all_end i h = ap (all f) (drop_of_length-le (table n g) {i = i} (omega (arith, length_table n g)))

  any_from : (i : ℕ) → i < n → any f (drop i (table n g)) ≡ either (f (g i)) (any f (drop (suc i) (table n g)))
  unfolding any
  any_from i h =
      ap (any f) (drop-cons (table n g) i (g i) (omega (arith, length_table n g)))
      ∙ ap (λ (x : A). either (f x) (any f (drop (suc i) (table n g)))) (get_or_table n g i (g i) h)

  pub any_no : (i k : ℕ) → i < n → suc i ≡ k → f (g i) ≡ false → any f (drop i (table n g)) ≡ any f (drop k (table n g))
  unfolding either
  any_no i k h e t = any_from i h ∙ ap (λ (b : Bool). either b (any f (drop (suc i) (table n g)))) t ∙ ap (λ (k : ℕ). any f (drop k (table n g))) e

  pub any_yes : (i : ℕ) → i < n → f (g i) ≡ true → any f (drop i (table n g)) ≡ true
  unfolding either
  any_yes i h t = any_from i h ∙ ap (λ (b : Bool). either b (any f (drop (suc i) (table n g)))) t

  pub any_end : (i : ℕ) → n ≤ i → any f (drop i (table n g)) ≡ false
  unfolding any
  any_end i h = ap (any f) (drop_of_length-le (table n g) {i = i} (omega (arith, length_table n g)))
