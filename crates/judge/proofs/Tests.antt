-- Laws of tests over a list.
-- Assumes nothing.
use mathlib.Core.Path.{◌≡◌, refl, sym, ap, ◌∙◌}
use mathlib.Core.Bool.{Bool, true, false, not, ◌&&◌}
use mathlib.Core.List.{List, [], ◌∷◌}
use Prim.Native.Nat.{ℕ}
use lib.Dec.{leb, ltb}
use borrow.Author.Tests.{leb-true, le-ltb, lt-ltb}
use Rattle.std.specs.List.{list_all}
use Rattle.sets.specs.Lists.{◌&◌, either, imp, all, any, only, concat, ◌⧺◌}
use Rattle.sets.proofs.Lists.{and_l, and_r, nleb_lt, and_true, and_assoc}

-- the tests of two names, sort by sort
cross : (a b c d : Bool) → (a & b) & (c & d) ≡ (a & c) & (b & d)
unfolding ◌&◌
cross true true c d = refl
cross true false true d = refl
cross true false false d = refl
cross false b c d = refl

module _ {A : Type 0} where
  -- the library's test of a list
  pub all_list : (f : A → Bool) (xs : List A) → list_all f xs ≡ all f xs
  unfolding all ◌&◌
  all_list f [] = refl
  all_list f (x ∷ xs) = go (f x) (all_list f xs)
    where
      go : (t : Bool) {p q : Bool} → p ≡ q → (t && p) ≡ (t & q)
      go true e = e
      go false e = refl

  pub all_cat : (f : A → Bool) (xs ys : List A) → all f (xs ⧺ ys) ≡ all f xs & all f ys
  unfolding all ◌⧺◌ ◌&◌
  all_cat f [] ys = refl
  all_cat f (x ∷ xs) ys = ap (λ (b : Bool). f x & b) (all_cat f xs ys) ∙ sym (and_assoc (f x) (all f xs) (all f ys))

  pub all_only : (f : A → Bool) (b : Bool) (x : A) → all f (only b x) ≡ imp b (f x)
  unfolding all only imp
  all_only f true x = and_true (f x)
  all_only f false x = refl

  pub all_and : (f g : A → Bool) (xs : List A) → all f xs & all g xs ≡ all (λ x. f x & g x) xs
  unfolding all ◌&◌
  all_and f g [] = refl
  all_and f g (x ∷ xs) = cross (f x) (all f xs) (g x) (all g xs) ∙ ap (λ (b : Bool). (f x & g x) & b) (all_and f g xs)

  -- tests that agree where a third holds
  pub all_agree : (p f g : A → Bool) → ((x : A) → p x ≡ true → f x ≡ g x) → (xs : List A) → all p xs ≡ true → all f xs ≡ all g xs
  unfolding all
  all_agree p f g h [] q = refl
  all_agree p f g h (x ∷ xs) q = rw (h x (and_l _ _ q), all_agree p f g h xs (and_r _ _ q))

pub all_concat : {A B : Type 0} (f : B → Bool) (g : A → List B) (xs : List A) → all f (concat g xs) ≡ all (λ x. all f (g x)) xs
unfolding all concat
all_concat f g [] = refl
all_concat f g (x ∷ xs) = all_cat f (g x) (concat g xs) ∙ ap (λ (b : Bool). all f (g x) & b) (all_concat f g xs)

-- no site reaches n
pub none_reaches : (n : ℕ) (xs : List ℕ) → not (any (λ s. leb n s) xs) ≡ all (λ s. ltb s n) xs
unfolding any all either ◌&◌
none_reaches n [] = refl
none_reaches n (x ∷ xs) = go (leb n x) refl (none_reaches n xs)
  where
    go : (b : Bool) → leb n x ≡ b → not (any (λ s. leb n s) xs) ≡ all (λ s. ltb s n) xs → not (either (leb n x) (any (λ s. leb n s) xs)) ≡ ltb x n & all (λ s. ltb s n) xs
    go true e r = rw (e, le-ltb x n (leb-true n x e))
    go false e r = rw (e, lt-ltb x n (nleb_lt n x e)) r

-- two tests, the second made where the first holds
pub both_yes : {a b x y : Bool} → a ≡ true → a ≡ x → b ≡ y → b ≡ (x & y)
unfolding ◌&◌
both_yes h e f = rw (← e, h) f

pub both_no : {a x : Bool} (y : Bool) → a ≡ false → a ≡ x → a ≡ (x & y)
unfolding ◌&◌
both_no y h e = rw (← e, h) refl
