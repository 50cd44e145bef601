-- Laws of one place of a table: what some of a list put there, and which.
-- Assumes nothing.
use mathlib.Core.Path.{◌≡◌, refl, sym, ap, ap₂, ◌∙◌}
use mathlib.Core.Bool.{Bool, true, false, not}
use mathlib.Core.List.{List, [], ◌∷◌, map}
use Prim.Native.Nat.{ℕ, zero, suc, ◌<◌, ◌^◌}
use native.Mathlib.Omega.{arith}
use lib.Dec.{eqb}
use borrow.Author.Tests.{ne_eqb}
use Rattle.sets.specs.Lists.{All, done, more, ◌&◌, either, any, only, keep, ◌⧺◌}
use Rattle.sets.specs.Bits.{mem, join, joins, grant}
use Rattle.sets.proofs.Lists.{iff, and_l, and_r, and_i, eqb_eq, eqb_i}
use Rattle.sets.proofs.Bits.{has_or, has_none, mem_one}
use Rattle.sets.proofs.Joins.{join_zero, join_none}

-- some element that passes both tests
only_any : {A : Type 0} (p : A → Bool) (b : Bool) (x : A) (ys : List A) → any p (only b x ⧺ ys) ≡ either (b & p x) (any p ys)
unfolding any only ◌⧺◌ ◌&◌ either
only_any p true x ys = refl
only_any p false x ys = refl

pub any_keep : {A : Type 0} {P : A → Type 0} (f k p : A → Bool) → ((x : A) → P x → f x ≡ (k x & p x)) → {xs : List A} → All P xs → any f xs ≡ any p (keep k xs)
unfolding any keep
any_keep f k p h done = refl
any_keep f k p h (more {x = x} {xs = xs} a m) = ap₂ either (h x a) (any_keep f k p h m) ∙ sym (only_any p (k x) x (keep k xs))

pub any_map : {A B : Type 0} (p : B → Bool) (f : A → B) (xs : List A) → any p (map f xs) ≡ any (λ x. p (f x)) xs
unfolding any
any_map p f [] = refl
any_map p f (x ∷ xs) = ap (either (p (f x))) (any_map p f xs)

-- a union is not empty if some part of it is not
join_some : (a b : ℕ) → not (eqb (join a b) 0) ≡ either (not (eqb a 0)) (not (eqb b 0))
unfolding either
join_some zero b = rw (join_none b)
join_some (suc a) b = rw (ne_eqb (join (suc a) b) 0 (λ z. omega (arith, (join_zero (suc a) b z).0)), ne_eqb (suc a) 0 (λ z. omega arith))

grant_some : (b : Bool) (v : ℕ) → 0 < v → not (eqb (grant b v) 0) ≡ b
unfolding grant
grant_some true v h = rw (ne_eqb v 0 (λ z. omega arith))
grant_some false v h = refl

pub joins_some : {A : Type 0} (p : A → Bool) (v : A → ℕ) {xs : List A} → All (λ x. 0 < v x) xs → not (eqb (joins (λ x. grant (p x) (v x)) xs) 0) ≡ any p xs
unfolding joins any
joins_some p v done = refl
joins_some p v (more {x = x} {xs = xs} h hs) = join_some (grant (p x) (v x)) (joins (λ x. grant (p x) (v x)) xs) ∙ ap₂ either (grant_some (p x) (v x) h) (joins_some p v hs)

-- a union has site s if some part of it is s
grant_mem : (b : Bool) (n s : ℕ) → mem s (grant b (2 ^ n)) ≡ (b & eqb n s)
unfolding grant ◌&◌
grant_mem true n s = mem_one s n ∙ iff (λ t. eqb_i (sym (eqb_eq {m = s} {n = n} t))) (λ t. eqb_i (sym (eqb_eq {m = n} {n = s} t)))
grant_mem false n s = has_none s

pub joins_mem : {A : Type 0} (p : A → Bool) (q : A → ℕ) (s : ℕ) (xs : List A) → mem s (joins (λ x. grant (p x) (2 ^ q x)) xs) ≡ any (λ x. p x & eqb (q x) s) xs
unfolding joins any
joins_mem p q s [] = has_none s
joins_mem p q s (x ∷ xs) = has_or (grant (p x) (2 ^ q x)) (joins (λ x. grant (p x) (2 ^ q x)) xs) s ∙ ap₂ either (grant_mem (p x) (q x) s) (joins_mem p q s xs)

-- two numbers as one
pub two_same : (f : ℕ → ℕ → ℕ) (a b c d : ℕ) → (f a b ≡ f c d → (a ≡ c) × (b ≡ d)) → (eqb a c & eqb b d) ≡ eqb (f a b) (f c d)
two_same f a b c d inj = iff (λ t. eqb_i (ap₂ f (eqb_eq (and_l _ _ t)) (eqb_eq (and_r _ _ t)))) (λ t. let e = inj (eqb_eq t) in and_i (eqb_i e.0) (eqb_i e.1))
