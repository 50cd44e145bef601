-- `all` over the numbers below n, as a chain over a range answers it.
-- Assumes nothing.
use mathlib.Core.Path.{◌≡◌, refl, ap, ◌∙◌}
use mathlib.Core.Bool.{Bool, true, false}
use mathlib.Core.List.{List}
use Prim.Native.Nat.{ℕ, zero, suc, ◌+◌}
use native.Mathlib.Omega.{arith}
use denote.Param.Members.{Mut, Called}
use Rattle.std.specs.Prelude.{◌&&◌, Option}
use Rattle.std.specs.declared.ops.Range.{Range}
use Rattle.std.specs.Iterator.{YieldsThen}
use Rattle.std.specs.Option.{MatchOption}
use Rattle.std.specs.List.{FoldsTo, list_all, range_with_len}
use Rattle.std.proofs.iter.Yields.{nat_range_steps}
use Rattle.std.proofs.lemmas.Iterator.{YieldsList-from_range}
use Rattle.std.proofs.lemmas.Iterator.Search.{all_from_yields_List}
use Rattle.sets.specs.Lists.{◌&◌, all, table_from, table, below}

both_as : (a b : Bool) → (a && b) ≡ (a & b)
unfolding ◌&◌
both_as true b = refl
both_as false b = refl

range_all : (test : ℕ → Bool) (n i : ℕ) → list_all test (range_with_len i n) ≡ all test (table_from n i (λ k. k))
unfolding all table_from
range_all test zero i = refl
range_all test (suc n) i = both_as (test i) _ ∙ ap (λ (b : Bool). test i & b) (range_all test n (i + 1) ∙ ap (λ (j : ℕ). all test (table_from n j (λ k. k))) (omega arith))

module _ {F : Type 0} {g : Mut F (ℕ × Unit {0}) Bool} (test : ℕ → Bool) (n : ℕ) (u : Range ℕ) (f : F) (r : Bool) where
  pub all_below : (xs : List ℕ) × (o : Option ℕ) × (j : F) × YieldsThen nat_range_steps (record { start = 0; end = n }) xs o u × FoldsTo (λ p x q. Called g p (x, tt) true q) f xs j × MatchOption o (r ≡ true) (λ x. (r ≡ false) × ((h : F) × Called g j (x, tt) false h))
      → ((x : ℕ) (b : Bool) (q : F) → Called g f (x, tt) b q → (q ≡ f) × (b ≡ test x)) → r ≡ all test (below n)
  unfolding below table
  all_below ran calls = all_from_yields_List test u f r ran (YieldsList-from_range 0 n n refl (omega arith)) calls ∙ range_all test n 0
