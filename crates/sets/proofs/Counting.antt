-- Lists without repeats, and how long one is that lies within another.
-- Assumes nothing.
use mathlib.Core.Path.{◌≡◌, refl, sym, ap, subst, ◌∙◌}
use mathlib.Core.Logic.{◌⊎◌, inl, inr}
use mathlib.Core.List.{List, [], ◌∷◌, map}
use Prim.Native.Nat.{suc, ◌≤◌}
use native.Mathlib.Omega.{arith}
use lib.ListN.{length}
use Rattle.sets.specs.Lists.{Elem, first, later, concat, ◌⧺◌}
use Rattle.sets.proofs.Lists.{in_none, cat_case, map_out}

-- no element stands twice
pub data Unlike {A : Type 0} : List A → Type 0 where
  none : Unlike []
  more : {x : A} {xs : List A} → (Elem x xs → ⊥) → Unlike xs → Unlike (x ∷ xs)

module _ {A : Type 0} where
  -- a list with one occurrence of x taken out
  record Less (x : A) (ys : List A) : Type 0 where
    rest : List A
    shorter : length ys ≡ suc (length rest)
    others : {y : A} → Elem y ys → (y ≡ x) ⊎ Elem y rest

  less : {x : A} {ys : List A} → Elem x ys → Less x ys
  less {x} (first {y = y} {ys = ys} e) = record { rest = ys; shorter = refl; others = case }
    where
      case : {z : A} → Elem z (y ∷ ys) → (z ≡ x) ⊎ Elem z ys
      case (first p) = inl (p ∙ sym e)
      case (later i) = inr i
  less {x} (later {y = y} {ys = ys} i) = go (less i)
    where
      go : Less x ys → Less x (y ∷ ys)
      go l = record { rest = y ∷ l.rest; shorter = ap suc l.shorter; others = case }
        where
          put : {z : A} → (z ≡ x) ⊎ Elem z l.rest → (z ≡ x) ⊎ Elem z (y ∷ l.rest)
          put (inl p) = inl p
          put (inr j) = inr (later j)

          case : {z : A} → Elem z (y ∷ ys) → (z ≡ x) ⊎ Elem z (y ∷ l.rest)
          case (first p) = inr (first p)
          case (later j) = put (l.others j)

  -- a list without repeats that lies within another is no longer
  pub within_short : (xs ys : List A) → Unlike xs → ((x : A) → Elem x xs → Elem x ys) → length xs ≤ length ys
  within_short [] ys none h = omega arith
  within_short (x ∷ xs) ys (more new u) h =
      let l = less (h x (first refl)) in
      omega (arith, l.shorter, within_short xs l.rest u (λ y i. moved l i (l.others (h y (later i)))))
    where
      moved : (l : Less x ys) {y : A} → Elem y xs → (y ≡ x) ⊎ Elem y l.rest → Elem y l.rest
      moved l i (inl e) = absurd (new (subst (λ (z : A). Elem z xs) e i))
      moved l i (inr j) = j

  -- and if it is as long, it lacks nothing
  pub within_full : (xs ys : List A) → Unlike xs → ((x : A) → Elem x xs → Elem x ys) → length ys ≤ length xs → (y : A) → Elem y ys → (Elem y xs → ⊥) → ⊥
  within_full xs ys u h long y i new = omega (arith, within_short (y ∷ xs) ys (more new u) put)
    where
      put : (z : A) → Elem z (y ∷ xs) → Elem z ys
      put z (first e) = subst (λ (w : A). Elem w ys) (sym e) i
      put z (later j) = h z j

  pub unlike_cat : {xs ys : List A} → Unlike xs → Unlike ys → ((x : A) → Elem x xs → Elem x ys → ⊥) → Unlike (xs ⧺ ys)
  unfolding ◌⧺◌
  unlike_cat none v h = v
  unlike_cat {ys = ys} (more {x = x} {xs = xs} new u) v h = more (λ i. go (cat_case xs ys i)) (unlike_cat u v (λ y i j. h y (later i) j))
    where
      go : Elem x xs ⊎ Elem x ys → ⊥
      go (inl i) = new i
      go (inr j) = h x (first refl) j

module _ {A B : Type 0} where
  pub unlike_map : (f : A → B) → ((x y : A) → f x ≡ f y → x ≡ y) → {xs : List A} → Unlike xs → Unlike (map f xs)
  unlike_map f inj none = none
  unlike_map f inj (more {x = x} {xs = xs} new u) = more (λ i. let r = map_out f xs i in new (subst (λ (z : A). Elem z xs) (sym (inj x r.0 r.2)) r.1)) (unlike_map f inj u)

  pub concat_out : (f : A → List B) (xs : List A) {y : B} → Elem y (concat f xs) → (x : A) × Elem x xs × Elem y (f x)
  unfolding concat
  concat_out f [] i = absurd (in_none i)
  concat_out f (x ∷ xs) {y} i = go (concat_out f xs) (cat_case (f x) (concat f xs) i)
    where
      go : (Elem y (concat f xs) → (x : A) × Elem x xs × Elem y (f x)) → Elem y (f x) ⊎ Elem y (concat f xs) → (z : A) × Elem z (x ∷ xs) × Elem y (f z)
      go ih (inl j) = (x, first refl, j)
      go ih (inr j) = let r = ih j in (r.0, later r.1, r.2)

  pub unlike_concat : (f : A → List B) → ((x : A) → Unlike (f x)) → ((x y : A) (z : B) → Elem z (f x) → Elem z (f y) → x ≡ y) → {xs : List A} → Unlike xs → Unlike (concat f xs)
  unfolding concat
  unlike_concat f u apart none = none
  unlike_concat f u apart (more {x = x} {xs = xs} new v) =
      unlike_cat (u x) (unlike_concat f u apart v)
      (λ z i j. let r = concat_out f xs j in new (subst (λ (w : A). Elem w xs) (sym (apart x r.0 z i r.2)) r.1))
