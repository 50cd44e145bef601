-- Laws of what a field says.
-- Assumes nothing.
use mathlib.Core.Path.{◌≡◌, refl, sym, ap, ◌∙◌}
use mathlib.Core.Bool.{Bool, true, false, not, ◌&&◌, false≢true}
use mathlib.Core.List.{List, [], ◌∷◌}
use mathlib.Core.Option.{Option, none, some}
use Prim.Native.Nat.{ℕ, suc, ◌+◌, ◌*◌, ◌≤◌, ◌<◌, ◌-◌}
use native.Mathlib.Omega.{arith}
use lib.Dec.{eqb, leb}
use lib.ListN.{length, get_or, take, drop, drop_of_length-le}
use lib.Seq.{drop-cons, take_all}
use native.Mathlib.Numerals.{add-one}
use borrow.Author.Tests.{eq-eqb, ne_eqb, leb-true, le-leb, lt-leb}
use Rattle.std.specs.Cmp.Lexicographic.{pointwise}
use Rattle.std.specs.Prelude as Some
use Rattle.std.specs.Prelude.{None, Some}
use Rattle.sets.specs.Options.{option_of}
use Rattle.sets.specs.Lists.{◌&◌, either, all, same}
use Rattle.sets.proofs.Lists.{and_l, and_r, and_false}
use Rattle.klaim.specs.Rows.{given, otherwise, digit, decimal, number, lettered, bind_field, var_field, ◌>>=◌}
use Rattle.text.specs.Fields.{shape_of, digit_field, bind}

-- the two tests of lists for equality
pub same_is : (a b : List ℕ) → pointwise eqb a b ≡ same a b
unfolding same ◌&◌
same_is [] [] = refl
same_is [] (y ∷ b) = refl
same_is (x ∷ a) [] = refl
same_is (x ∷ a) (y ∷ b) = go (eqb x y) (same_is a b)
  where
    go : (t : Bool) {p q : Bool} → p ≡ q → (t && p) ≡ (t & q)
    go true e = e
    go false e = refl

-- tests of two lists for equality
pub same_long : (a b : List ℕ) → (length a ≡ length b → ⊥) → same a b ≡ false
unfolding same
same_long [] [] h = absurd (h refl)
same_long [] (y ∷ b) h = refl
same_long (x ∷ a) [] h = refl
same_long (x ∷ a) (y ∷ b) h = rw (same_long a b (λ q. h (ap suc q))) (and_false (eqb x y))

module _ (a b : List ℕ) (i : ℕ) where
  pub same_next : i < length a → i < length b → get_or a i 0 ≡ get_or b i 0 → same (drop i a) (drop i b) ≡ same (drop (i + 1) a) (drop (i + 1) b)
  unfolding same ◌&◌
  same_next h k e = rw (add-one i, drop-cons a i 0 h, drop-cons b i 0 k, eq-eqb _ _ e)

  pub same_stop : i < length a → i < length b → (get_or a i 0 ≡ get_or b i 0 → ⊥) → same (drop i a) (drop i b) ≡ false
  unfolding same ◌&◌
  same_stop h k e = rw (drop-cons a i 0 h, drop-cons b i 0 k, ne_eqb _ _ e)

  pub same_end : length a ≤ i → length b ≤ i → same (drop i a) (drop i b) ≡ true
  unfolding same
  same_end h k = rw (drop_of_length-le a h, drop_of_length-le b k)

-- a second reading that gives nothing
pub otherwise_none : {A : Type 0} (x : Option A) → otherwise x none ≡ x
unfolding otherwise
otherwise_none none = refl
otherwise_none (some a) = refl

-- a number by its shape and its digits
number_by : (a b d e : Bool) (o : Option ℕ) → (a & b & e ≡ false) → given (a & b & d & e) o ≡ none
unfolding ◌&◌ given
number_by true true true true o h = absurd (false≢true (sym h))
number_by true true false true o h = refl
number_by true true true false o h = refl
number_by true true false false o h = refl
number_by true false d e o h = refl
number_by false b d e o h = refl

pub number_shape : (f : List ℕ) → shape_of f ≡ false → number f ≡ none
unfolding number shape_of
number_shape f h = number_by _ _ (all digit f) _ _ h

all_good : (a b d e : Bool) (o : Option ℕ) → a & b & e ≡ true → given (a & b & d & e) o ≡ given d o
unfolding ◌&◌ given
all_good true true true true o h = refl
all_good true true false true o h = refl
all_good true true d false o h = absurd (false≢true h)
all_good true false d e o h = absurd (false≢true h)
all_good false b d e o h = absurd (false≢true h)

pub number_digits : (f : List ℕ) → shape_of f ≡ true → number f ≡ given (all digit f) (some (decimal 0 f))
unfolding number shape_of
number_digits f h = all_good _ _ (all digit f) _ _ h

-- the digit of a byte
module _ (b : ℕ) where
  pub digit_some : {n : ℕ} → 48 ≤ b → b ≤ 57 → n ≡ b - 48 → some n ≡ digit_field b
  unfolding digit_field digit given ◌&◌
  digit_some h k e = rw (le-leb 48 b h, le-leb b 57 k, e)

  pub digit_low : b < 48 → none ≡ digit_field b
  unfolding digit_field digit given ◌&◌
  digit_low h = rw (lt-leb 48 b h)

  pub digit_high : 57 < b → none ≡ digit_field b
  unfolding digit_field digit given
  digit_high h = rw (lt-leb b 57 h, and_false (leb 48 b))

  pub digit_is : {n : ℕ} → some n ≡ digit_field b → (digit b ≡ true) × (n ≡ b - 48)
  unfolding digit_field given
  digit_is {n} h = go (digit b) refl
    where
      go : (t : Bool) → digit b ≡ t → (digit b ≡ true) × (n ≡ b - 48)
      go true e = let q : some n ≡ some (b - 48) = h ∙ rw e in (e, cc)
      go false e = let q : some n ≡ none = h ∙ rw e in absurd (cc)

  pub digit_no : none ≡ digit_field b → digit b ≡ false
  unfolding digit_field given
  digit_no h = go (digit b) refl
    where
      go : (t : Bool) → digit b ≡ t → digit b ≡ false
      go true e = let q : none ≡ some (b - 48) = h ∙ rw e in absurd (cc)
      go false e = e

-- one digit more, and a byte that is none
module _ (f : List ℕ) (i : ℕ) (h : i < length f) where
  pub digits_more : {d : ℕ} → some d ≡ digit_field (get_or f i 0) → (n : ℕ) → (all digit (drop i f) ≡ all digit (drop (i + 1) f)) × (decimal n (drop i f) ≡ decimal (10 * n + d) (drop (i + 1) f))
  unfolding all decimal ◌&◌
  digits_more {d} e n = let k = digit_is (get_or f i 0) e in (rw (add-one i, drop-cons f i 0 h, k.0), rw (add-one i, drop-cons f i 0 h, k.1))

  pub digits_stop : none ≡ digit_field (get_or f i 0) → all digit (drop i f) ≡ false
  unfolding all ◌&◌
  digits_stop e = rw (drop-cons f i 0 h, digit_no (get_or f i 0) e)

-- a number whose digits are read, and one with a byte that is none
module _ (f : List ℕ) (h : shape_of f ≡ true) where
  pub number_some : {n : ℕ} → (i : ℕ) → length f ≤ i → all digit f ≡ all digit (drop i f) → decimal 0 f ≡ decimal n (drop i f) → some n ≡ number f
  unfolding all decimal given
  number_some {n} i l a v = sym (number_digits f h ∙ rw (a, v, drop_of_length-le f l))

  pub number_none : all digit f ≡ false → none ≡ number f
  unfolding given
  number_none a = sym (number_digits f h ∙ rw a)

-- the shape of a number, by its length
pub shape_none : (f : List ℕ) → length f ≡ 0 → false ≡ shape_of f
unfolding shape_of ◌&◌
shape_none f h = rw h

pub shape_one : (f : List ℕ) → length f ≡ 1 → true ≡ shape_of f
unfolding shape_of ◌&◌ either
shape_one f h = rw h

pub shape_more : (f : List ℕ) → 2 ≤ length f → leb (length f) 3 & not (eqb (get_or f 0 0) 48) ≡ shape_of f
unfolding shape_of either ◌&◌
shape_more f h = rw (le-leb 1 (length f) (omega arith), ne_eqb (length f) 1 (λ e. omega arith)) refl

pub shape_short : (f : List ℕ) → shape_of f ≡ true → (1 ≤ length f) × (length f ≤ 3)
unfolding shape_of
shape_short f h = (leb-true _ _ (and_l _ _ h), leb-true _ _ (and_l _ _ (and_r _ _ h)))

-- a field by its first byte
pub letter_hit : (x : ℕ) (f : List ℕ) → 0 < length f → get_or f 0 0 ≡ x → lettered x f ≡ number (take (length f - 1) (drop 1 f))
unfolding lettered given
letter_hit x [] h e = absurd (omega arith)
letter_hit x (b ∷ f) h e = rw (eq-eqb b x e, take_all (suc (length f) - 1) f (omega arith))

pub letter_miss : (x : ℕ) (f : List ℕ) → (get_or f 0 0 ≡ x → ⊥) → none ≡ lettered x f
unfolding lettered given
letter_miss x [] e = refl
letter_miss x (b ∷ f) e = rw (ne_eqb b x e)

pub letter_none : (x : ℕ) (f : List ℕ) → length f < 1 → none ≡ lettered x f
unfolding lettered
letter_none x [] h = refl
letter_none x (b ∷ f) h = absurd (omega arith)

-- `!u`
pub bound_hit : (f : List ℕ) → 0 < length f → get_or f 0 0 ≡ 33 → bind_field f ≡ (var_field (take (length f - 1) (drop 1 f)) >>= λ u. some (bind u))
unfolding bind_field given
bound_hit [] h e = absurd (omega arith)
bound_hit (b ∷ f) h e = rw (eq-eqb b 33 e, take_all (suc (length f) - 1) f (omega arith))

pub bound_miss : (f : List ℕ) → (get_or f 0 0 ≡ 33 → ⊥) → none ≡ bind_field f
unfolding bind_field given
bound_miss [] e = refl
bound_miss (b ∷ f) e = rw (ne_eqb b 33 e)

pub bound_none : (f : List ℕ) → length f < 1 → none ≡ bind_field f
unfolding bind_field
bound_none [] h = refl
bound_none (b ∷ f) h = absurd (omega arith)

-- a number that is read, in what it stands for
pub viewed : {A B : Type 0} (view : A → B) (r : Some.Option A) → option_of view r ≡ (option_of (λ x. x) r >>= λ x. some (view x))
unfolding ◌>>=◌
viewed view None = refl
viewed view (Some x) = refl
