-- Tests that compute, lists as finite sets, tables.
-- Assumes nothing.
use Rattle.std.specs.Prelude.{◌≡◌, Bool, true, false, List, [], ◌∷◌, ◌++◌, ℕ, zero, suc, ◌+◌, ◌*◌, eqb, length}

-- x is an element
pub data Elem {A : Type 0} (x : A) : List A → Type 0 where
  first : {y : A} {ys : List A} → x ≡ y → Elem x (y ∷ ys)
  later : {y : A} {ys : List A} → Elem x ys → Elem x (y ∷ ys)

-- the property holds of each element
pub data All {A : Type 0} (P : A → Type 0) : List A → Type 0 where
  done : All P []
  more : {x : A} {xs : List A} → P x → All P xs → All P (x ∷ xs)

infixr 35 ◌&◌
unfoldable pub ◌&◌ : Bool → Bool → Bool
true & b = b
false & b = false

unfoldable pub either : Bool → Bool → Bool
either true b = true
either false b = b

unfoldable pub imp : Bool → Bool → Bool
imp true b = b
imp false b = true

-- two lists, one behind the other
infixr 60 ◌⧺◌
unfoldable pub ◌⧺◌ : {A : Type 0} → List A → List A → List A
[] ⧺ ys = ys
(x ∷ xs) ⧺ ys = x ∷ (xs ⧺ ys)

module _ {A : Type 0} where
  unfoldable pub all : (A → Bool) → List A → Bool
  all f [] = true
  all f (x ∷ xs) = f x & all f xs

  unfoldable pub any : (A → Bool) → List A → Bool
  any f [] = false
  any f (x ∷ xs) = either (f x) (any f xs)

  -- x alone, if the test holds
  unfoldable pub only : Bool → A → List A
  only true x = x ∷ []
  only false x = []

  -- those elements that pass
  unfoldable pub keep : (A → Bool) → List A → List A
  keep f [] = []
  keep f (x ∷ xs) = only (f x) x ⧺ keep f xs

  -- place k taken out, and the list ys put in there
  unfoldable pub splice : ℕ → List A → List A → List A
  splice k ys [] = []
  splice zero ys (x ∷ xs) = ys ++ xs
  splice (suc k) ys (x ∷ xs) = x ∷ splice k ys xs

  unfoldable pub empty : List A → Bool
  empty [] = true
  empty (x ∷ xs) = false

  -- f i, f (i + 1), ..: n of them
  unfoldable pub table_from : ℕ → ℕ → (ℕ → A) → List A
  table_from zero i f = []
  table_from (suc n) i f = f i ∷ table_from n (suc i) f

  -- f 0, .., f (n - 1)
  unfoldable pub table : ℕ → (ℕ → A) → List A
  table n f = table_from n 0 f

  -- the sum of f x over a list
  unfoldable pub sum : (A → ℕ) → List A → ℕ
  sum f [] = 0
  sum f (x ∷ xs) = f x + sum f xs

-- f x for each x of a list, one behind the other
unfoldable pub concat : {A B : Type 0} → (A → List B) → List A → List B
concat f [] = []
concat f (x ∷ xs) = f x ⧺ concat f xs

-- 0, .., n - 1
unfoldable pub below : ℕ → List ℕ
below n = table n (λ i. i)

-- equal lists of numbers
unfoldable pub same : List ℕ → List ℕ → Bool
same [] [] = true
same [] (y ∷ ys) = false
same (x ∷ xs) [] = false
same (x ∷ xs) (y ∷ ys) = eqb x y & same xs ys

-- x stands in the list
unfoldable pub among : List ℕ → ℕ → Bool
among xs x = any (eqb x) xs

-- how often x stands in the list
unfoldable pub count : ℕ → List ℕ → ℕ
count x xs = length (keep (eqb x) xs)

-- a row has as many fields as there are sets, each within its set
unfoldable pub fits : List (List ℕ) → List ℕ → Bool
fits [] [] = true
fits [] (v ∷ vs) = false
fits (xs ∷ xss) [] = false
fits (xs ∷ xss) (v ∷ vs) = among xs v & fits xss vs

-- how many rows can be chosen, each field from its set
unfoldable pub product : List (List ℕ) → ℕ
product [] = 1
product (xs ∷ xss) = length xs * product xss
