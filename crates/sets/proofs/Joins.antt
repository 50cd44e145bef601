-- Laws of unions.
-- Assumes nothing.
use mathlib.Core.Path.{◌≡◌, refl, sym, ap, ◌∙◌}
use mathlib.Core.Bool.{Bool, true, false}
use mathlib.Core.List.{List, [], ◌∷◌, ◌++◌}
use Prim.Native.Nat.{ℕ, ◌+◌}
use native.Mathlib.Omega.{arith}
use native.Mathlib.Numerals.{add-one}
use lib.Bits.{or_comm, or_zero_l, or_zero_r, or_add_and, and_le_l, and_le_r}
use Rattle.sets.specs.Lists.{either, table}
use Rattle.sets.specs.Bits.{join, joins}
use Rattle.sets.proofs.Bits.{has_or, same_bits}
use Rattle.sets.proofs.Tables.{table_snoc}

either_assoc : (a b c : Bool) → either (either a b) c ≡ either a (either b c)
unfolding either
either_assoc true b c = refl
either_assoc false b c = refl

pub join_assoc : (a b c : ℕ) → join (join a b) c ≡ join a (join b c)
join_assoc a b c = same_bits _ _ (λ n. rw (has_or, has_or, has_or a (join b c) n, has_or b c n) (either_assoc _ _ _))

pub join_comm : (a b : ℕ) → join a b ≡ join b a
unfolding join
join_comm a b = or_comm a b

pub join_none : (a : ℕ) → join 0 a ≡ a
unfolding join
join_none a = or_zero_l a

pub join_none_r : (a : ℕ) → join a 0 ≡ a
unfolding join
join_none_r a = or_zero_r a

-- a union is empty if both parts are
pub join_zero : (a b : ℕ) → join a b ≡ 0 → (a ≡ 0) × (b ≡ 0)
unfolding join
join_zero a b e = (omega (arith, or_add_and a b, and_le_l a b, and_le_r a b), omega (arith, or_add_and a b, and_le_l a b, and_le_r a b))

-- a union over a list that gets longer
module _ {A : Type 0} (f : A → ℕ) where
  pub joins_snoc : (xs : List A) (x : A) → joins f (xs ++ (x ∷ [])) ≡ join (joins f xs) (f x)
  unfolding joins
  joins_snoc [] x = join_none_r (f x) ∙ sym (join_none (f x))
  joins_snoc (y ∷ ys) x = ap (join (f y)) (joins_snoc ys x) ∙ sym (join_assoc (f y) (joins f ys) (f x))

  pub joins_last : (g : ℕ → A) (n : ℕ) → joins f (table (n + 1) g) ≡ join (joins f (table n g)) (f (g n))
  joins_last g n = ap (λ (k : ℕ). joins f (table k g)) (add-one n) ∙ ap (joins f) (table_snoc n g) ∙ joins_snoc (table n g) (g n)
