-- Laws of the keys of tuples.
-- Assumes nothing.
use mathlib.Core.Path.{◌≡◌, refl, sym, ap, ap₂, ◌∙◌}
use mathlib.Core.Bool.{Bool, true, false, ◌||◌}
use mathlib.Core.List.{List, [], ◌∷◌, ◌++◌}
use Prim.Native.Nat.{ℕ, zero, suc, ◌+◌, ◌*◌, ◌<◌, ◌≤◌}
use native.Mathlib.Omega.{arith}
use native.Mathlib.Decide.{ℕ_discrete}
use lib.Dec.{eqb, ltb}
use native.Mathlib.Numerals.{add-one}
use lib.ListN.{length, get_or, take, drop, set}
use lib.Seq.{drop-cons, take-suc, take-suc-set}
use borrow.Author.Tests.{eq-eqb, ne_eqb, ltb-true}
use Rattle.std.specs.List.{list_any}
use Rattle.sets.specs.Lists.{◌&◌, either, all, any, same}
use Rattle.sets.proofs.Lists.{and_l, and_r, any_last}
use Rattle.klaim.specs.Rows.{Row}
use Rattle.klaim.proofs.Above.{map_own, map_other}
use Rattle.tables.specs.Entries.{entries}
use Rattle.repeats.specs.Kept.{tuple_key, Keys, KeysAre}

-- a key is never 0
key_some : (xs : List ℕ) → 1 ≤ tuple_key xs
unfolding tuple_key
key_some [] = omega arith
key_some (x ∷ xs) = omega (arith, key_some xs)

-- sites below 32 have one key if they are the same
abbrev pub Low : List ℕ → Type 0
Low xs = all (λ s. ltb s 32) xs ≡ true

and_eqb : (x y a b : ℕ) → x < 32 → y < 32 → (eqb x y & eqb a b) ≡ eqb (x + 32 * a) (y + 32 * b)
unfolding ◌&◌
and_eqb x y a b h l = go (ℕ_discrete x y) (ℕ_discrete a b)
  where
    go : Dec (x ≡ y) → Dec (a ≡ b) → (eqb x y & eqb a b) ≡ eqb (x + 32 * a) (y + 32 * b)
    go (yes e) (yes f) = rw (eq-eqb x y e, eq-eqb a b f, eq-eqb (x + 32 * a) (y + 32 * b) (omega arith))
    go (yes e) (no f) = rw (eq-eqb x y e, ne_eqb a b f, ne_eqb (x + 32 * a) (y + 32 * b) (λ q. f (omega arith)))
    go (no e) f = rw (ne_eqb x y e, ne_eqb (x + 32 * a) (y + 32 * b) (λ q. e (omega arith)))

pub key_same : (xs ys : List ℕ) → Low xs → Low ys → same xs ys ≡ eqb (tuple_key xs) (tuple_key ys)
unfolding same tuple_key all
key_same [] [] h l = refl
key_same [] (y ∷ ys) h l = sym (ne_eqb 1 (y + 32 * tuple_key ys) (λ q. omega (arith, key_some ys)))
key_same (x ∷ xs) [] h l = sym (ne_eqb (x + 32 * tuple_key xs) 1 (λ q. omega (arith, key_some xs)))
key_same (x ∷ xs) (y ∷ ys) h l =
    ap (λ (b : Bool). eqb x y & b) (key_same xs ys (and_r _ _ h) (and_r _ _ l))
    ∙ and_eqb x y (tuple_key xs) (tuple_key ys) (ltb-true x 32 (and_l _ _ h)) (ltb-true y 32 (and_l _ _ l))

-- the key of the elements from i on, by that of those behind it
pub key_end : (xs : List ℕ) (n : ℕ) → length xs ≡ n → 1 ≡ tuple_key (drop n xs)
unfolding tuple_key
key_end [] zero h = refl
key_end [] (suc n) h = absurd (omega arith)
key_end (x ∷ xs) zero h = absurd (omega arith)
key_end (x ∷ xs) (suc n) h = key_end xs n (omega arith)

pub key_at : (xs : List ℕ) (i : ℕ) {rest key : ℕ} → i < length xs → key ≡ get_or xs i 0 + 32 * rest → rest ≡ tuple_key (drop (suc i) xs) →
    key ≡ tuple_key (drop i xs)
unfolding tuple_key
key_at xs i h e r = e ∙ ap (λ (k : ℕ). get_or xs i 0 + 32 * k) r ∙ sym (ap tuple_key (drop-cons xs i 0 h))

-- one entry more
entries_pushed : (keys new : Keys) (v : ℕ) → keys.count < 256 → new.items ≡ set keys.items keys.count v → new.count ≡ keys.count + 1 →
    entries new ≡ entries keys ++ (v ∷ [])
entries_pushed keys new v h e n =
    ap₂ (λ (m : ℕ) (xs : List ℕ). take m xs) (n ∙ add-one keys.count) e
    ∙ take-suc-set keys.items keys.count v (omega (arith, keys.long))

-- one key more
pub keys_own : {g v : ℕ} {above : List Row} {keys new : Keys} (r : Row) → keys.count < 256 → new.items ≡ set keys.items keys.count v →
    new.count ≡ keys.count + 1 → v ≡ tuple_key r.sites → r.group ≡ g → KeysAre g above keys → KeysAre g (above ++ (r ∷ [])) new
keys_own {g} {v} {above} {keys} {new} r h e n q p K = record {
  is =
      entries_pushed keys new v h e n
      ∙ ap₂ (λ (xs : List ℕ) (x : ℕ). xs ++ (x ∷ [])) K.is q
      ∙ sym (map_own (λ r. tuple_key r.sites) g above r (eq-eqb r.group g p));
}

pub keys_other : {g : ℕ} {above : List Row} {keys : Keys} (r : Row) → (r.group ≡ g → ⊥) → KeysAre g above keys → KeysAre g (above ++ (r ∷ [])) keys
keys_other {g} {above} {keys} r p K = record { is = K.is ∙ sym (map_other (λ r. tuple_key r.sites) g above r (ne_eqb r.group g p)) }

-- a search through the first keys
pub any_more : (f : ℕ → Bool) (l : List ℕ) (i : ℕ) → i < length l → either (any f (take i l)) (f (get_or l i 0)) ≡ any f (take (i + 1) l)
any_more f l i h = sym (any_last f (take i l) (get_or l i 0)) ∙ ap (any f) (sym (take-suc l i 0 h)) ∙ ap (λ (m : ℕ). any f (take m l)) {x = suc i} {y = i + 1} (omega arith)

-- the code's test of one of two, and the library's of a list
pub or_either : (a b : Bool) → (a || b) ≡ either a b
unfolding either
or_either true b = refl
or_either false b = refl

pub any_list : {A : Type 0} (p : A → Bool) (xs : List A) → list_any p xs ≡ any p xs
unfolding any
any_list p [] = refl
any_list p (x ∷ xs) = or_either (p x) (list_any p xs) ∙ ap (either (p x)) (any_list p xs)
