-- Laws of the rights of a field.
-- Assumes nothing.
use mathlib.Core.Path.{◌≡◌, refl, sym, ap, subst, ◌∙◌}
use mathlib.Core.Bool.{Bool, true, false, not, cond, false≢true}
use mathlib.Core.List.{List, [], ◌∷◌}
use mathlib.Core.Option.{Option, none, some}
use Prim.Native.Nat.{ℕ, suc, ◌+◌, ◌*◌, ◌≤◌, ◌<◌}
use native.Mathlib.Numerals.{add-one}
use native.Mathlib.Omega.{arith}
use lib.Dec.{eqb, ltb}
use lib.ListN.{length, get_or, drop, drop_of_length-le}
use lib.Seq.{drop-cons}
use borrow.Author.Tests.{ne_eqb, lt-ltb, ltb-true, ltb-false, eqb-true}
use Rattle.sets.specs.Lists.{◌&◌, either, any, among, empty}
use Rattle.sets.proofs.Lists.{among_in}
use Rattle.sets.proofs.Bits.{right_double}
use Rattle.klaim.specs.Rows.{given, otherwise, ◌>>=◌, right_of, rights_after, rights_field}
use Rattle.klaim.proofs.Options.{bind_none}
use Rattle.text.specs.Fields.{hit_at, bits}

module _ {A B : Type 0} where
  bind_same : (o : Option A) (g k : A → Option B) → ((x : A) → g x ≡ k x) → (o >>= g) ≡ (o >>= k)
  unfolding ◌>>=◌
  bind_same none g k h = refl
  bind_same (some x) g k h = h x

-- one letter, behind the right `last`
module _ (f : List ℕ) (i last r : ℕ) (h : i < length f) (q : some r ≡ right_of (get_or f i 0)) where
  rights_next : last < r → rights_after last (drop i f) ≡ (rights_after r (drop (i + 1) f) >>= λ rs. some (r + rs))
  unfolding rights_after given ◌>>=◌
  rights_next m = rw (add-one, drop-cons f i 0 h, ← q) (bind_same (rights_after r (drop (suc i) f)) (λ rs. given (ltb last r) (some (r + rs))) (λ rs. some (r + rs)) (λ rs. rw (lt-ltb last r m)))

-- sums in front of what is read later
add_zero_all : (o : Option ℕ) → o ≡ (o >>= λ n. some (0 + n))
unfolding ◌>>=◌
add_zero_all none = refl
add_zero_all (some n) = ap some (omega arith)

add_all : (a b : ℕ) (o : Option ℕ) → ((o >>= λ n. some (b + n)) >>= λ n. some (a + n)) ≡ (o >>= λ n. some (a + b + n))
unfolding ◌>>=◌
add_all a b none = refl
add_all a b (some n) = ap some (omega arith)

-- the letters that are read: `sum` is the rights of the first i, `last` the last of them
pub record Summing (f : List ℕ) (sum last i : ℕ) : Type 0 where
  pub within : i ≤ length f
  pub many : i ≤ sum
  pub size : sum ≤ 2 * last
  pub bit : among bits last ≡ true
  pub value : rights_after 0 f ≡ (rights_after last (drop i f) >>= λ rs. some (sum + rs))

pub summing_none : (f : List ℕ) → Summing f 0 0 0
unfolding among any either
summing_none f = record { within = omega arith; many = omega arith; size = omega arith; bit = refl; value = add_zero_all (rights_after 0 f) }

-- the next letter's right is r
module _ {f : List ℕ} {sum last i : ℕ} (S : Summing f sum last i) (r : ℕ) (h : i < length f) (q : some r ≡ right_of (get_or f i 0)) where
  summing_next : among bits r ≡ true → last < r → Summing f (sum + r) r (i + 1)
  summing_next t m = record {
    within = omega arith;
    many = omega (arith, S.many);
    size = omega (arith, S.size, right_double last r (among_in bits last S.bit) (among_in bits r t) m);
    bit = t;
    value = S.value ∙ rw (rights_next f i last r h q m) (add_all sum r (rights_after r (drop (i + 1) f)));
  }

  -- the letter of r stands there
  next_hit : among bits r ≡ true → last < r → (k : ℕ) → 1 ≡ k → Summing f (sum + r * k) r (i + k)
  next_hit t m k e = subst (λ (k : ℕ). Summing f (sum + r * k) r (i + k)) e (subst (λ (n : ℕ). Summing f (sum + n) r (i + 1)) (omega arith) (summing_next t m))

-- a byte that is no letter of the right r, which follows `last`, is read alike behind both
abbrev Apart : ℕ → ℕ → ℕ → Type 0
Apart last r letter = (b : ℕ) (g : List ℕ) → eqb b letter ≡ false → rights_after last (b ∷ g) ≡ rights_after r (b ∷ g)

-- no letter of r there
next_miss : {f : List ℕ} {sum last i : ℕ} → Summing f sum last i → (r : ℕ) → among bits r ≡ true → last < r → rights_after last (drop i f) ≡ rights_after r (drop i f) → (k : ℕ) → 0 ≡ k → Summing f (sum + r * k) r (i + k)
next_miss {f} {sum} {last} {i} S r t m e k z =
    subst (λ (k : ℕ). Summing f (sum + r * k) r (i + k)) z
    (subst (λ (n : ℕ). Summing f n r (i + 0)) (omega arith)
    (subst (λ (n : ℕ). Summing f sum r n) (omega arith)
    (record {
      within = S.within;
      many = S.many;
      size = omega (arith, S.size);
      bit = t;
      value = S.value ∙ ap (λ (o : Option ℕ). o >>= λ rs. some (sum + rs)) e;
    })))

-- the letter of the right r looked for behind `last`
pub summing_step : {f : List ℕ} {sum last i : ℕ} → Summing f sum last i → (r letter : ℕ) → among bits r ≡ true → last < r → some r ≡ right_of letter → Apart last r letter → (k : ℕ) → k ≡ hit_at letter f i → Summing f (sum + r * k) r (i + k)
unfolding hit_at ◌&◌ rights_after
summing_step {f} {sum} {last} {i} S r letter t m q skip k h = go (ltb i (length f)) refl (eqb (get_or f i 0) letter) refl h
  where
    go : (b : Bool) → ltb i (length f) ≡ b → (c : Bool) → eqb (get_or f i 0) letter ≡ c → k ≡ cond (b & c) 1 0 → Summing f (sum + r * k) r (i + k)
    go false l c e z = next_miss S r t m (rw (drop_of_length-le f (ltb-false i (length f) l))) k (sym z)
    go true l false e z = next_miss S r t m (rw (drop-cons f i 0 (ltb-true i (length f) l)) (skip (get_or f i 0) (drop (suc i) f) e)) k (sym z)
    go true l true e z = next_hit S r (ltb-true i (length f) l) (q ∙ ap right_of (sym (eqb-true (get_or f i 0) letter e))) t m k (sym z)

-- the right of a byte, by the letter that it is
abbrev by_letter : Bool → Bool → Bool → Bool → Bool → Option ℕ
by_letter o i r e a =
    otherwise (given o (some 1))
    (otherwise (given i (some 2))
    (otherwise (given r (some 4))
    (otherwise (given e (some 8))
    (given a (some 16)))))

-- the rights of a byte's letter and those behind it, where the right behind `last` is due
abbrev after : ℕ → List ℕ → Option ℕ → Option ℕ
after last g o = o >>= λ x. rights_after x g >>= λ rs. given (ltb last x) (some (x + rs))

-- where no letter that stands tells them apart
alike : (last r : ℕ) (g : List ℕ) (o i q e a : Bool) → (o ≡ true → ltb last 1 ≡ ltb r 1) → (i ≡ true → ltb last 2 ≡ ltb r 2) → (q ≡ true → ltb last 4 ≡ ltb r 4) → (e ≡ true → ltb last 8 ≡ ltb r 8) → (a ≡ true → ltb last 16 ≡ ltb r 16) → after last g (by_letter o i q e a) ≡ after r g (by_letter o i q e a)
unfolding given otherwise ◌>>=◌
alike last r g true i q e a h1 h2 h4 h8 h16 = rw (h1 refl)
alike last r g false true q e a h1 h2 h4 h8 h16 = rw (h2 refl)
alike last r g false false true e a h1 h2 h4 h8 h16 = rw (h4 refl)
alike last r g false false false true a h1 h2 h4 h8 h16 = rw (h8 refl)
alike last r g false false false false true h1 h2 h4 h8 h16 = rw (h16 refl)
alike last r g false false false false false h1 h2 h4 h8 h16 = refl

-- the letter of r does not stand
never : {b : Bool} {x y : Bool} → b ≡ false → b ≡ true → x ≡ y
never n t = absurd (false≢true (sym n ∙ t))

same : {b x : Bool} → b ≡ true → x ≡ x
same t = refl

apart_o : Apart 0 1 111
unfolding rights_after right_of
apart_o b g n = alike 0 1 g _ _ _ _ _ (never n) same same same same

apart_i : Apart 1 2 105
unfolding rights_after right_of
apart_i b g n = alike 1 2 g _ _ _ _ _ same (never n) same same same

apart_r : Apart 2 4 114
unfolding rights_after right_of
apart_r b g n = alike 2 4 g _ _ _ _ _ same same (never n) same same

apart_e : Apart 4 8 101
unfolding rights_after right_of
apart_e b g n = alike 4 8 g _ _ _ _ _ same same same (never n) same

apart_a : Apart 8 16 97
unfolding rights_after right_of
apart_a b g n = alike 8 16 g _ _ _ _ _ same same same same (never n)

-- behind the last right no letter stands
behind_all : (b : ℕ) (g : List ℕ) → rights_after 16 (b ∷ g) ≡ none
unfolding rights_after right_of given otherwise ◌>>=◌
behind_all b g = go (eqb b 111) (eqb b 105) (eqb b 114) (eqb b 101) (eqb b 97)
  where
    no : (x : ℕ) → ◌≡◌ {A = Option ℕ} (rights_after x g >>= λ rs. none) none
    no x = bind_none (rights_after x g) (λ rs. none) (λ rs. refl)

    go : (o i r e a : Bool) → after 16 g (by_letter o i r e a) ≡ none
    go true i r e a = no 1
    go false true r e a = no 2
    go false false true e a = no 4
    go false false false true a = no 8
    go false false false false true = no 16
    go false false false false false = refl

pub summing_more : {f : List ℕ} {sum i : ℕ} → Summing f sum 16 i → (i ≡ length f → ⊥) → rights_field f ≡ none
unfolding rights_field ◌>>=◌ empty given
summing_more {f} {sum} {i} S h = rw (S.value, drop-cons f i 0 (omega (arith, S.within, h)), behind_all (get_or f i 0) (drop (suc i) f)) (go (not (empty f)))
  where
    go : (t : Bool) → given {A = ℕ} t none ≡ none
    go true = refl
    go false = refl

pub rights_none : (f : List ℕ) → eqb (length f) 0 ≡ true → none ≡ rights_field f
unfolding rights_field given empty
rights_none [] h = refl
rights_none (b ∷ f) h = absurd (false≢true (sym (ne_eqb (suc (length f)) 0 (λ e. omega arith)) ∙ h))

all_read : {f : List ℕ} {sum last i : ℕ} → Summing f sum last i → length f ≤ i → rights_after 0 f ≡ some (sum + 0)
unfolding rights_after ◌>>=◌
all_read {f} S h = S.value ∙ rw (drop_of_length-le f h)

pub summing_done : (f : List ℕ) → eqb (length f) 0 ≡ false → {sum last i : ℕ} → Summing f sum last i → length f ≤ i → some sum ≡ rights_field f
unfolding rights_field rights_after empty given
summing_done [] z {sum} S h = absurd (false≢true (sym z))
summing_done (b ∷ f) z {sum} S h = rw (all_read S h) (ap some (omega arith))

moved : {f : List ℕ} {last sum n i j : ℕ} → Summing f sum last i → sum ≡ n → i ≡ j → Summing f n last j
moved {f} {last} {sum} {n} {i} {j} S p q = subst (λ (k : ℕ). Summing f n last k) q (subst (λ (k : ℕ). Summing f k last i) p S)

-- each letter in turn
pub all_hits : (f : List ℕ) (o i r e a : ℕ) → o ≡ hit_at 111 f 0 → i ≡ hit_at 105 f o → r ≡ hit_at 114 f (o + i) → e ≡ hit_at 101 f (o + i + r) → a ≡ hit_at 97 f (o + i + r + e) → Summing f (o + 2 * i + 4 * r + 8 * e + 16 * a) 16 (o + i + r + e + a)
unfolding among any either right_of given otherwise
all_hits f o i r e a p1 p2 p3 p4 p5 =
    let S1 : Summing f o 1 o = moved (summing_step (summing_none f) 1 111 refl (omega arith) refl apart_o o p1) (omega arith) (omega arith) in
    let S2 : Summing f (o + 2 * i) 2 (o + i) = summing_step S1 2 105 refl (omega arith) refl apart_i i p2 in
    let S3 : Summing f (o + 2 * i + 4 * r) 4 (o + i + r) = summing_step S2 4 114 refl (omega arith) refl apart_r r p3 in
    let S4 : Summing f (o + 2 * i + 4 * r + 8 * e) 8 (o + i + r + e) = summing_step S3 8 101 refl (omega arith) refl apart_e e p4 in
    summing_step S4 16 97 refl (omega arith) refl apart_a a p5
