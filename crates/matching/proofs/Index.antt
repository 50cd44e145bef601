-- Laws of an index of rows.
-- Assumes nothing.
use mathlib.Core.Path.{◌≡◌, refl, sym, ap, ap₂, subst, ◌∙◌}
use mathlib.Core.Logic.{◌⊎◌, inl, inr}
use mathlib.Core.Bool.{not-not, Bool, true, false, not, cond, false≢true}
use mathlib.Core.List.{List, [], ◌∷◌, map}
use Prim.Native.Nat.{ℕ, zero, suc, ◌+◌, ◌*◌, ◌-◌, ◌/◌, ◌%◌, ◌^◌, ◌<◌, ◌≤◌, min}
use native.Mathlib.Omega.{arith}
use native.Mathlib.Numerals.{add-one}
use native.Mathlib.Nat.{pow-suc, div-one, one-mul}
use native.Mathlib.Decide.{ℕ_discrete, dec_lt}
use lib.Dec.{eqb, ltb}
use lib.Bits.{bit_or, bit_and, and_step, and_self, and_le_r}
use lib.Pow.{shr-shr, shl_exact}
use lib.Count.{count_trailing_zeros, under, ones, ones_in, ones_step}
use lib.ListN.{length, get_or, drop, set, replicate, length-set, get_or-replicate}
use lib.Seq.{ext_get_or, get_or-set_same, get_or-set_other}
use Rattle.sets.specs.Lists.{◌&◌, either, imp, all, any, only, keep, ◌⧺◌, same, below, table, table_from, fits, product}
use Rattle.sets.specs.Bits.{has, mem, sites, join}
use Rattle.sets.proofs.Lists.{and_true, and_false, and_yes, and_no, eqb_suc, iff, and_i, and_l, and_r, imp_e, any_at, any_i, length_cat, only_long, keep_short, or_case, or_l, or_r, eqb_eq, ltb_lt, lt-ltb}
use borrow.Author.Tests.{eq-eqb, ne_eqb, le-ltb}
use Rattle.sets.proofs.Shared.{mem_single, none_high}
use Rattle.sets.proofs.Bits.{digit, has_or, has_none, has_half, same_bits}
use Rattle.sets.proofs.Tables.{get_or_table, below_in, in_below, table_in, table_all}
use Rattle.klaim.specs.Analysis.{choices}
use Rattle.klaim.specs.Invariant.{all_below, distinct}
use Rattle.tables.specs.View.{Tuples, row_at, tuples_of}
use Rattle.matching.specs.Index.{in_column, in_rows, in_index, IndexedTo, Entered, Low}
use Rattle.matching.proofs.Laws.{count_rule, keep_more, keep_none, Sets, sets_long_lem, fits_long, fits_end, fits_at, among_low}

mem_low : (n d : ℕ) → n % 2 ≡ d → mem 0 n ≡ eqb d 1
unfolding has
mem_low n d e = rw (div-one, e)

-- a site that a set lacks
mem_other_site : (k p a b : ℕ) → a + b + 1 ≡ 2 ^ k → p < k → mem p b ≡ not (mem p a)
mem_other_site zero p a b e h = absurd (omega arith)
mem_other_site (suc k) zero a b e h = go (digit a)
  where
    twice : a + b + 1 ≡ 2 ^ k * 2
    twice = e ∙ pow-suc 2 k

    go : (a % 2 ≡ 0) ⊎ (a % 2 ≡ 1) → mem 0 b ≡ not (mem 0 a)
    go (inl q) = mem_low b 1 (omega (arith, twice)) ∙ sym (ap not (mem_low a 0 q))
    go (inr q) = mem_low b 0 (omega (arith, twice)) ∙ sym (ap not (mem_low a 1 q))
mem_other_site (suc k) (suc p) a b e h =
    let f : a + b + 1 ≡ 2 ^ k * 2 = e ∙ pow-suc 2 k in
    let g : a / 2 + b / 2 + 1 ≡ 2 ^ k = omega arith in
    sym (has_half p b) ∙ mem_other_site k p (a / 2) (b / 2) g (omega arith) ∙ ap not (has_half p a)

-- two sets put together, number by number
pub rows_by : (op : ℕ → ℕ → ℕ) (test : Bool → Bool → Bool) (is : (a b p : ℕ) → mem p (op a b) ≡ test (mem p a) (mem p b)) (x y : List ℕ) {r : List ℕ} → r ≡ table 4 (λ w. op (get_or x w 0) (get_or y w 0)) → (i : ℕ) → i < 256 → in_rows r i ≡ test (in_rows x i) (in_rows y i)
unfolding in_rows
rows_by op test is x y e i h =
    ap (λ (l : List ℕ). mem (i % 64) (get_or l (i / 64) 0)) e
    ∙ ap (mem (i % 64)) (get_or_table 4 (λ w. op (get_or x w 0) (get_or y w 0)) (i / 64) 0 (omega arith))
    ∙ is (get_or x (i / 64) 0) (get_or y (i / 64) 0) (i % 64)

-- the set that an index has in a column
pub rows_of : (t : List ℕ) (c v : ℕ) {r : List ℕ} → r ≡ table 4 (λ w. get_or t (128 * c + 4 * v + w) 0) → (i : ℕ) → i < 256 → in_rows r i ≡ in_index t c v i
unfolding in_rows in_index
rows_of t c v e i h =
    ap (λ (l : List ℕ). mem (i % 64) (get_or l (i / 64) 0)) e
    ∙ ap (mem (i % 64)) (get_or_table 4 (λ w. get_or t (128 * c + 4 * v + w) 0) (i / 64) 0 (omega arith))

four_none : (p w : ℕ) → mem p (get_or (0 ∷ 0 ∷ 0 ∷ 0 ∷ []) w 0) ≡ false
four_none p zero = has_none p
four_none p (suc zero) = has_none p
four_none p (suc (suc zero)) = has_none p
four_none p (suc (suc (suc zero))) = has_none p
four_none p (suc (suc (suc (suc w)))) = has_none p

pub no_rows : (i : ℕ) → in_rows (0 ∷ 0 ∷ 0 ∷ 0 ∷ []) i ≡ false
unfolding in_rows
no_rows i = four_none (i % 64) (i / 64)

untrue : {b : Bool} → (b ≡ true → ⊥) → b ≡ false
untrue {b = true} h = absurd (h refl)
untrue {b = false} h = refl

-- no column is entered yet
pub entered_none : (row : List ℕ) (i : ℕ) (s : List ℕ) → Entered row i 0 s s
unfolding either ◌&◌
entered_none row i s = record { long = refl; tells = λ c v k _ _ _. sym (ap (λ (b : Bool). either (b & (eqb k i & eqb (in_column row c) v)) (in_index s c v k)) (le-ltb c 0 (omega arith))) }

-- one column more
module _ (row : List ℕ) (i j at bit : ℕ) (s t : List ℕ) (low : i < 256) (cell : at ≡ 128 * j + 4 * in_column row j + i / 64) (key : in_column row j < 32) (col : j < 6) (one : bit ≡ 2 ^ (i % 64)) (long : length s ≡ 768) (E : Entered row i j s t) where
  bit_here : (c v k : ℕ) → 128 * c + 4 * v + k / 64 ≡ at → mem (k % 64) (get_or (set t at (bit_or (get_or t at 0) bit)) (128 * c + 4 * v + k / 64) 0) ≡ either (in_index t c v k) (eqb (i % 64) (k % 64))
  unfolding join in_index
  bit_here c v k e =
      ap (λ (x : ℕ). mem (k % 64) (get_or (set t at (bit_or (get_or t at 0) bit)) x 0)) e
      ∙ ap (λ (x : ℕ). mem (k % 64) x) (get_or-set_same t at (bit_or (get_or t at 0) bit) 0 (omega (arith, E.long)))
      ∙ has_or (get_or t at 0) bit (k % 64)
      ∙ ap (λ (x : ℕ). either (mem (k % 64) (get_or t at 0)) (mem (k % 64) x)) one
      ∙ ap (either (mem (k % 64) (get_or t at 0))) (mem_single (k % 64) (i % 64))
      ∙ ap (λ (x : ℕ). either (mem (k % 64) (get_or t x 0)) (eqb (i % 64) (k % 64))) (sym e)

  more_here : (c v k : ℕ) → c < 6 → v < 32 → k < 256 → 128 * c + 4 * v + k / 64 ≡ at → either (in_index t c v k) (eqb (i % 64) (k % 64)) ≡ either (ltb c (j + 1) & (eqb k i & eqb (in_column row c) v)) (in_index s c v k)
  more_here c v k hc hv hk e = iff (λ z. to (or_case _ _ z)) (λ z. from (or_case _ _ z))
    where
      same_col : c ≡ j
      same_col = omega arith

      same_key : in_column row c ≡ v
      same_key = ap (λ (x : ℕ). in_column row x) same_col ∙ omega arith

      old : (in_index t c v k ≡ true) → in_index s c v k ≡ true
      old z = go (or_case _ _ (sym (E.tells c v k hc hv hk) ∙ z))
        where
          go : (ltb c j & (eqb k i & eqb (in_column row c) v) ≡ true) ⊎ (in_index s c v k ≡ true) → in_index s c v k ≡ true
          go (inl q) = absurd (omega (arith, same_col, ltb_lt c j (and_l _ _ q)))
          go (inr q) = q

      to : (in_index t c v k ≡ true) ⊎ (eqb (i % 64) (k % 64) ≡ true) → either (ltb c (j + 1) & (eqb k i & eqb (in_column row c) v)) (in_index s c v k) ≡ true
      to (inl q) = or_r _ _ (old q)
      to (inr q) =
          let m : i % 64 ≡ k % 64 = eqb_eq q in
          let e : k ≡ i = omega arith in
          or_l _ _ (and_i (lt-ltb c (j + 1) (omega (arith, same_col))) (and_i (eq-eqb _ _ e) (eq-eqb _ _ same_key)))

      from : (ltb c (j + 1) & (eqb k i & eqb (in_column row c) v) ≡ true) ⊎ (in_index s c v k ≡ true) → either (in_index t c v k) (eqb (i % 64) (k % 64)) ≡ true
      from (inl q) = let e : k ≡ i = eqb_eq (and_l _ _ (and_r _ _ q)) in or_r _ _ (eq-eqb _ _ (ap (λ (x : ℕ). x % 64) (sym e)))
      from (inr q) = or_l _ _ (E.tells c v k hc hv hk ∙ or_r _ _ q)

  more_there : (c v k : ℕ) → c < 6 → v < 32 → k < 256 → (128 * c + 4 * v + k / 64 ≡ at → ⊥) → in_index t c v k ≡ either (ltb c (j + 1) & (eqb k i & eqb (in_column row c) v)) (in_index s c v k)
  more_there c v k hc hv hk h = E.tells c v k hc hv hk ∙ ap (λ (b : Bool). either b (in_index s c v k)) (iff to from)
    where
      to : ltb c j & (eqb k i & eqb (in_column row c) v) ≡ true → ltb c (j + 1) & (eqb k i & eqb (in_column row c) v) ≡ true
      to z = let l = ltb_lt c j (and_l _ _ z) in and_i (lt-ltb c (j + 1) (omega arith)) (and_r _ _ z)

      from : ltb c (j + 1) & (eqb k i & eqb (in_column row c) v) ≡ true → ltb c j & (eqb k i & eqb (in_column row c) v) ≡ true
      from z = and_i (lt-ltb c j (go (ℕ_discrete c j))) (and_r _ _ z)
        where
          go : Dec (c ≡ j) → c < j
          go (yes e) =
              let x : in_column row c ≡ in_column row j = ap (λ (x : ℕ). in_column row x) e in
              let y : in_column row c ≡ v = eqb_eq (and_r _ _ (and_r _ _ z)) in
              let w : k ≡ i = eqb_eq (and_l _ _ (and_r _ _ z)) in
              let u : k / 64 ≡ i / 64 = ap (λ (x : ℕ). x / 64) w in
              absurd (h (omega arith))
          go (no e) = let l = ltb_lt c (j + 1) (and_l _ _ z) in omega arith

  pub entered_more : Entered row i (j + 1) s (set t at (bit_or (get_or t at 0) bit))
  unfolding in_index
  entered_more = record { long = length-set t at (bit_or (get_or t at 0) bit) ∙ E.long; tells = λ c v k hc hv hk. go c v k hc hv hk (ℕ_discrete (128 * c + 4 * v + k / 64) at) }
    where
      go : (c v k : ℕ) → c < 6 → v < 32 → k < 256 → Dec (128 * c + 4 * v + k / 64 ≡ at) → mem (k % 64) (get_or (set t at (bit_or (get_or t at 0) bit)) (128 * c + 4 * v + k / 64) 0) ≡ either (ltb c (j + 1) & (eqb k i & eqb (in_column row c) v)) (in_index s c v k)
      go c v k hc hv hk (yes e) = bit_here c v k e ∙ more_here c v k hc hv hk e
      go c v k hc hv hk (no e) = ap (λ (x : ℕ). mem (k % 64) x) (get_or-set_other t at (128 * c + 4 * v + k / 64) (bit_or (get_or t at 0) bit) 0 e) ∙ more_there c v k hc hv hk e

-- one row more
module _ (rows : Tuples) where
  pub indexed_none : IndexedTo rows 0 (replicate 768 0)
  unfolding in_index ◌&◌
  indexed_none c v i hc hv hi =
      ap (λ (x : ℕ). mem (i % 64) x) (get_or-replicate 768 (128 * c + 4 * v + i / 64) 0 0 (omega arith)) ∙ has_none (i % 64)
      ∙ sym (ap (λ (b : Bool). b & eqb (in_column (row_at rows i) c) v) (le-ltb i 0 (omega arith)))

  pub indexed_more : (s t : List ℕ) (i m : ℕ) → i + 1 ≡ m → IndexedTo rows i s → Entered (row_at rows i) i 6 s t → IndexedTo rows m t
  indexed_more s t i m e I E c v k hc hv hk =
      E.tells c v k hc hv hk
      ∙ ap (either (ltb c 6 & (eqb k i & eqb (in_column (row_at rows i) c) v))) (I c v k hc hv hk)
      ∙ iff (λ z. to (or_case _ _ z)) (λ z. from z (ℕ_discrete k i))
    where
      to : (ltb c 6 & (eqb k i & eqb (in_column (row_at rows i) c) v) ≡ true) ⊎ (ltb k i & eqb (in_column (row_at rows k) c) v ≡ true) → ltb k m & eqb (in_column (row_at rows k) c) v ≡ true
      to (inl q) =
          let w : k ≡ i = eqb_eq (and_l _ _ (and_r _ _ q)) in
          and_i (lt-ltb k m (omega arith)) (ap (λ (x : ℕ). eqb (in_column (row_at rows x) c) v) w ∙ and_r _ _ (and_r _ _ q))
      to (inr q) = let l = ltb_lt k i (and_l _ _ q) in and_i (lt-ltb k m (omega arith)) (and_r _ _ q)

      from : ltb k m & eqb (in_column (row_at rows k) c) v ≡ true → Dec (k ≡ i) → either (ltb c 6 & (eqb k i & eqb (in_column (row_at rows i) c) v)) (ltb k i & eqb (in_column (row_at rows k) c) v) ≡ true
      from q (yes w) = or_l _ _ (and_i (lt-ltb c 6 hc) (and_i (eq-eqb _ _ w) (ap (λ (x : ℕ). eqb (in_column (row_at rows x) c) v) (sym w) ∙ and_r _ _ q)))
      from q (no w) = let l = ltb_lt k m (and_l _ _ q) in or_r _ _ (and_i (lt-ltb k i (omega arith)) (and_r _ _ q))

-- what a row has in a column after the first
key_later : (row : List ℕ) (j : ℕ) → in_column row (j + 1) ≡ get_or row j 0 % 32
unfolding in_column
key_later row j = ap (in_column row) (add-one j)

pub key_low : (row : List ℕ) (j : ℕ) → in_column row (j + 1) < 32
key_low row j = subst (λ (x : ℕ). x < 32) (sym (key_later row j)) (omega arith)

-- what a row has in a column, by the number of the column
pub column_first : (row : List ℕ) (c : ℕ) → c ≡ 0 → length row ≡ in_column row c
unfolding in_column
column_first row c e = sym (ap (in_column row) e)

pub column_later : (row : List ℕ) (c : ℕ) → (c ≡ 0 → ⊥) → get_or row (c - 1) 0 % 32 ≡ in_column row c
unfolding in_column
column_later row zero h = absurd (h refl)
column_later row (suc j) h = ap (λ (k : ℕ). get_or row k 0 % 32) (omega arith)

pub bit_one : (p : ℕ) → p < 64 → 1 * 2 ^ p % 18446744073709551616 ≡ 2 ^ p
bit_one p h = shl_exact {a = 1} 1 p 64 (omega arith) (omega arith) ∙ one-mul (2 ^ p)

-- the next site of a set
trailing : (k n : ℕ) → (n ≡ 0 → ⊥) → n < 2 ^ k → (count_trailing_zeros k n < k) × (mem (count_trailing_zeros k n) n ≡ true) × ((u : ℕ) → u < count_trailing_zeros k n → mem u n ≡ false)
unfolding count_trailing_zeros
trailing zero n p h = absurd (p (omega arith))
trailing (suc k) n p h = go (n % 2) refl (trailing k (n / 2))
  where
    half : n / 2 < 2 ^ k
    half = let e : n < 2 ^ k * 2 = rw pow-suc at h in omega arith

    go : (d : ℕ) → n % 2 ≡ d → ((n / 2 ≡ 0 → ⊥) → n / 2 < 2 ^ k → (count_trailing_zeros k (n / 2) < k) × (mem (count_trailing_zeros k (n / 2)) (n / 2) ≡ true) × ((u : ℕ) → u < count_trailing_zeros k (n / 2) → mem u (n / 2) ≡ false)) → (under d (count_trailing_zeros k (n / 2)) < suc k) × (mem (under d (count_trailing_zeros k (n / 2))) n ≡ true) × ((u : ℕ) → u < under d (count_trailing_zeros k (n / 2)) → mem u n ≡ false)
    go zero e ih =
        let r = ih (λ z. p (omega arith)) half in
        (omega (arith, r.0), sym (has_half (count_trailing_zeros k (n / 2)) n) ∙ r.1, λ u l. below u l r.2)
      where
        below : (u : ℕ) → u < suc (count_trailing_zeros k (n / 2)) → ((u : ℕ) → u < count_trailing_zeros k (n / 2) → mem u (n / 2) ≡ false) → mem u n ≡ false
        below zero l f = mem_low n 0 e
        below (suc u) l f = sym (has_half u n) ∙ f u (omega arith)
    go (suc zero) e ih = (omega arith, mem_low n 1 e, λ u l. absurd (omega arith))
    go (suc (suc d)) e ih = absurd (omega arith)

-- a number without its lowest bit
mem_even : (y u : ℕ) → mem (suc u) (y * 2) ≡ mem u y
mem_even y u = let e : y * 2 / 2 ≡ y = omega arith in sym (has_half u (y * 2)) ∙ ap (λ (x : ℕ). mem u x) e

without : (k n : ℕ) → (n ≡ 0 → ⊥) → n < 2 ^ k → (u : ℕ) → mem u (bit_and n (n - 1)) ≡ (mem u n & not (eqb u (count_trailing_zeros k n)))
unfolding count_trailing_zeros ◌&◌
without zero n p h = absurd (p (omega arith))
without (suc k) n p h = go (n % 2) refl (without k (n / 2))
  where
    half : n / 2 < 2 ^ k
    half = let e : n < 2 ^ k * 2 = rw pow-suc at h in omega arith

    go : (d : ℕ) → n % 2 ≡ d → ((n / 2 ≡ 0 → ⊥) → n / 2 < 2 ^ k → (u : ℕ) → mem u (bit_and (n / 2) (n / 2 - 1)) ≡ (mem u (n / 2) & not (eqb u (count_trailing_zeros k (n / 2))))) → (u : ℕ) → mem u (bit_and n (n - 1)) ≡ (mem u n & not (eqb u (under d (count_trailing_zeros k (n / 2)))))
    go zero e ih zero =
        mem_low (bit_and n (n - 1)) 0 (omega (arith, and_step n (n - 1)))
        ∙ sym (ap (λ (b : Bool). b & not (eqb 0 (suc (count_trailing_zeros k (n / 2))))) (mem_low n 0 e))
    go zero e ih (suc u) =
        let f : (n - 1) / 2 ≡ n / 2 - 1 = omega arith in
        let g : bit_and n (n - 1) ≡ bit_and (n / 2) ((n - 1) / 2) * 2 = omega (arith, and_step n (n - 1)) in
        ap (λ (x : ℕ). mem (suc u) x) g
        ∙ mem_even (bit_and (n / 2) ((n - 1) / 2)) u
        ∙ ap (λ (x : ℕ). mem u (bit_and (n / 2) x)) f
        ∙ ih (λ z. p (omega arith)) half u
        ∙ ap₂ (λ (a b : Bool). a & not b) (has_half u n) (eqb_suc u (count_trailing_zeros k (n / 2)))
    go (suc zero) e ih zero = mem_low (bit_and n (n - 1)) 0 (omega (arith, and_step n (n - 1))) ∙ sym (and_false (mem 0 n))
    go (suc zero) e ih (suc u) =
        let f : (n - 1) / 2 ≡ n / 2 = omega arith in
        let g : bit_and n (n - 1) ≡ bit_and (n / 2) ((n - 1) / 2) * 2 = omega (arith, and_step n (n - 1)) in
        let z : eqb (suc u) 0 ≡ false = ne_eqb (suc u) 0 (λ q. omega arith) in
        ap (λ (x : ℕ). mem (suc u) x) g
        ∙ mem_even (bit_and (n / 2) ((n - 1) / 2)) u
        ∙ ap (λ (x : ℕ). mem u (bit_and (n / 2) x)) f
        ∙ ap (λ (x : ℕ). mem u x) (and_self (n / 2))
        ∙ has_half u n
        ∙ sym (ap (λ (b : Bool). mem (suc u) n & not b) z ∙ and_true (mem (suc u) n))
    go (suc (suc d)) e ih u = absurd (omega arith)

-- of rows and sites: s in the set, r in the rest, e taken out of it
taken : (l s r e : Bool) → (e ≡ true → r ≡ true) → (r ≡ true → s ≡ true) → either (l & (s & not r)) (l & e) ≡ (l & (s & not (r & not e)))
unfolding either ◌&◌
taken false s r e f g = refl
taken true true true true f g = refl
taken true true true false f g = refl
taken true true false true f g = refl
taken true true false false f g = refl
taken true false true true f g = absurd (false≢true (g refl))
taken true false true false f g = refl
taken true false false true f g = absurd (false≢true (f refl))
taken true false false false f g = refl

module _ (set rest : ℕ) (some : rest ≡ 0 → ⊥) (low : rest < 4294967296) (within : (u : ℕ) → mem u rest ≡ true → mem u set ≡ true) where
  pub next_low : count_trailing_zeros 32 rest < 32
  next_low = (trailing 32 rest some low).0

  pub rest_less : bit_and rest (rest - 1) < rest
  rest_less = omega (arith, and_le_r rest (rest - 1))

  rest_is : (u : ℕ) → mem u (bit_and rest (rest - 1)) ≡ (mem u rest & not (eqb u (count_trailing_zeros 32 rest)))
  rest_is u = without 32 rest some low u

  pub rest_within : (u : ℕ) → mem u (bit_and rest (rest - 1)) ≡ true → mem u set ≡ true
  rest_within u t = within u (and_l _ _ (sym (rest_is u) ∙ t))

  -- one site more
  pub turn : (n x i : ℕ) → either (ltb i n & (mem x set & not (mem x rest))) (ltb i n & eqb x (count_trailing_zeros 32 rest)) ≡ (ltb i n & (mem x set & not (mem x (bit_and rest (rest - 1)))))
  turn n x i =
      taken (ltb i n) (mem x set) (mem x rest) (eqb x (count_trailing_zeros 32 rest)) (λ t. ap (λ (y : ℕ). mem y rest) (eqb_eq t) ∙ (trailing 32 rest some low).1) (within x)
      ∙ ap (λ (b : Bool). ltb i n & (mem x set & not b)) (sym (rest_is x))

-- no site left
pub turn_end : (set rest : ℕ) → rest ≡ 0 → (n x i : ℕ) → (ltb i n & (mem x set & not (mem x rest))) ≡ (ltb i n & mem x set)
turn_end set rest e n x i =
    ap (λ (b : Bool). ltb i n & (mem x set & not b)) (ap (λ (y : ℕ). mem x y) e ∙ has_none x) ∙ ap (λ (b : Bool). ltb i n & b) (and_true (mem x set))

-- no site yet
pub turn_none : (n x i set : ℕ) → false ≡ (ltb i n & (mem x set & not (mem x set)))
turn_none n x i set = sym (untrue (λ q. differ (mem x set) (and_r _ _ q)))
  where
    differ : (b : Bool) → b & not b ≡ true → ⊥
    differ true t = false≢true (and_r true false t)
    differ false t = false≢true (and_l false true t)

-- every site is in the set of all
pub every_site : (x : ℕ) → x < 32 → mem x 4294967295 ≡ true
every_site x h = mem_other_site 32 x 0 4294967295 refl h ∙ ap not (has_none x)

-- a set of rows and a set of sites
pub kept_all : (a : Bool) (x set : ℕ) → x < 32 → set ≡ 4294967295 → a ≡ (a & mem x set)
kept_all a x set h e = sym (and_true a) ∙ ap (λ (b : Bool). a & b) (sym (ap (mem x) e ∙ every_site x h))

pub kept_rest : (a : Bool) (i n x set : ℕ) → x < 32 → set < 4294967296 → (a ≡ true → i < n) → (a & not (ltb i n & mem x (4294967295 - set))) ≡ (a & mem x set)
unfolding ◌&◌
kept_rest true i n x set h l f =
    let e : set + (4294967295 - set) + 1 ≡ 4294967296 = omega arith in
    ap (λ (b : Bool). not (b & mem x (4294967295 - set))) (lt-ltb i n (f refl)) ∙ ap not (mem_other_site 32 x set (4294967295 - set) e h) ∙ not-not (mem x set)
kept_rest false i n x set h l f = refl

pub kept_some : (a : Bool) (i n x set : ℕ) → (a ≡ true → i < n) → (a & (ltb i n & mem x set)) ≡ (a & mem x set)
unfolding ◌&◌
kept_some true i n x set f = rw (lt-ltb i n (f refl))
kept_some false i n x set f = refl

-- a site of a row is below 32
pub row_low : (row : List ℕ) (j : ℕ) → all_below 32 row ≡ true → j < length row → get_or row j 0 < 32
unfolding all_below all
row_low [] j h l = absurd (omega arith)
row_low (v ∷ vs) zero h l = ltb_lt v 32 (and_l _ _ h)
row_low (v ∷ vs) (suc j) h l = row_low vs j (and_r _ _ h) (omega arith)

and_swap : (a b : Bool) → (a & b) ≡ (b & a)
unfolding ◌&◌
and_swap true true = refl
and_swap true false = refl
and_swap false true = refl
and_swap false false = refl

-- in column j + 1 stands the site at place j
row_key : (row : List ℕ) (j : ℕ) → all_below 32 row ≡ true → j < length row → in_column row (j + 1) ≡ get_or row j 0
row_key row j h l = key_later row j ∙ mod_low (get_or row j 0) (row_low row j h l)
  where
    mod_low : (x : ℕ) → x < 32 → x % 32 ≡ x
    mod_low x h = omega arith

-- row i of rows of sites, from place j on
module _ (ms : List ℕ) (rows : Tuples) (m i : ℕ) (five : length ms ≡ 5) (most : m ≤ 5) (L : Low rows) where
  abbrev row : List ℕ
  row = row_at rows i

  abbrev fits_past : ℕ → Bool
  fits_past j = fits (drop j (Sets ms m)) (drop j row)

  pub narrow_end : (a : Bool) → (a ≡ true → (i < rows.count) × (length row ≡ m)) → a ≡ (a & fits_past m)
  unfolding ◌&◌
  narrow_end true f = sym (fits_end (Sets ms m) row m (omega (arith, sets_long_lem ms m most five)) (omega (arith, (f refl).1)))
  narrow_end false f = refl

  narrow_at : (j : ℕ) → j < m → i < rows.count → length row ≡ m
      → (fits_past (suc j) & mem (in_column row (j + 1)) (get_or ms j 0)) ≡ fits_past j
  unfolding tuples_of
  narrow_at j h l e =
      let low : all_below 32 row ≡ true = table_all (all_below 32) rows.count (row_at rows) L i l in
      let here : j < length row = omega (arith, e) in
      ap (λ (x : ℕ). fits_past (suc j) & mem x (get_or ms j 0)) (row_key row j low here)
      ∙ and_swap _ _
      ∙ ap (λ (b : Bool). b & fits_past (suc j)) (among_low (get_or ms j 0) _ (row_low row j low here))
      ∙ sym (fits_at ms row m j five most e h)

  pub narrow_down : (j : ℕ) → 0 < j → j ≤ m → (a : Bool) → (a ≡ true → (i < rows.count) × (length row ≡ m))
      → ((a & fits_past j) & mem (in_column row (j - 1 + 1)) (get_or ms (j - 1) 0)) ≡ (a & fits_past (j - 1))
  unfolding ◌&◌
  narrow_down j p h true f =
      let back : j ≡ suc (j - 1) = omega arith in
      ap (λ (x : ℕ). fits_past x & mem (in_column row (j - 1 + 1)) (get_or ms (j - 1) 0)) back ∙ narrow_at (j - 1) (omega arith) (f refl).0 (f refl).1
  narrow_down j p h false f = refl

ones_none : ones 0 ≡ 0
unfolding ones ones_in
ones_none = refl

digit_is : (y : ℕ) → cond (eqb (y % 2) 1) 1 0 ≡ y % 2
digit_is y = go (y % 2) (omega arith)
  where
    go : (d : ℕ) → d < 2 → cond (eqb d 1) 1 0 ≡ d
    go zero h = refl
    go (suc zero) h = refl
    go (suc (suc d)) h = absurd (omega arith)

-- how many bits a number has
module _ (f : ℕ → Bool) where
  keep_split : (a b i : ℕ) → length (keep f (table_from (a + b) i (λ j. j))) ≡ length (keep f (table_from a i (λ j. j))) + length (keep f (table_from b (i + a) (λ j. j)))
  unfolding table_from keep
  keep_split zero b i = let e : i + 0 ≡ i = omega arith in let z : 0 + b ≡ b = omega arith in omega (arith, ap₂ (λ (n k : ℕ). length (keep f (table_from n k (λ j. j)))) z (sym e))
  keep_split (suc a) b i =
      let z : suc a + b ≡ suc (a + b) = omega arith in
      let e : suc i + a ≡ i + suc a = omega arith in
      ap (λ (n : ℕ). length (keep f (table_from n i (λ j. j)))) z
      ∙ omega (arith, length_cat (only (f i) i) (keep f (table_from (a + b) (suc i) (λ j. j))), length_cat (only (f i) i) (keep f (table_from a (suc i) (λ j. j))), keep_split a b (suc i), ap (λ (k : ℕ). length (keep f (table_from b k (λ j. j)))) e)

  keep_like : (g : ℕ → Bool) (k a i : ℕ) → ((b : ℕ) → b < i + k → f (a + b) ≡ g b) → length (keep f (table_from k (a + i) (λ j. j))) ≡ length (keep g (table_from k i (λ j. j)))
  unfolding table_from keep
  keep_like g zero a i h = refl
  keep_like g (suc k) a i h =
      let e : suc (a + i) ≡ a + suc i = omega arith in
      length_cat (only (f (a + i)) (a + i)) (keep f (table_from k (suc (a + i)) (λ j. j)))
      ∙ ap₂ ◌+◌ (only_long (f (a + i)) (a + i) ∙ ap (λ (b : Bool). cond b 1 0) (h i (omega arith)) ∙ sym (only_long (g i) i)) (ap (λ (n : ℕ). length (keep f (table_from k n (λ j. j)))) e ∙ keep_like g k a (suc i) (λ b l. h b (omega arith)))
      ∙ sym (length_cat (only (g i) i) (keep g (table_from k (suc i) (λ j. j))))

ones_from : (x k i : ℕ) → x / 2 ^ i < 2 ^ k → length (keep (λ b. mem b x) (table_from k i (λ j. j))) ≡ ones (x / 2 ^ i)
unfolding table_from keep has
ones_from x zero i h = let e : x / 2 ^ i ≡ 0 = omega arith in sym (ap ones e ∙ ones_none)
ones_from x (suc k) i h =
    length_cat (only (mem i x) i) (keep (λ b. mem b x) (table_from k (suc i) (λ j. j)))
    ∙ ap₂ ◌+◌ (only_long (mem i x) i ∙ digit_is (x / 2 ^ i)) (ones_from x k (suc i) (subst (λ (y : ℕ). y < 2 ^ k) next less) ∙ ap ones (sym next))
    ∙ sym (ones_step (x / 2 ^ i))
  where
    next : x / 2 ^ i / 2 ≡ x / 2 ^ suc i
    next = let e : i + 1 ≡ suc i = omega arith in shr-shr x i 1 ∙ ap (λ (n : ℕ). x / 2 ^ n) e

    less : x / 2 ^ i / 2 < 2 ^ k
    less = let e : x / 2 ^ i < 2 ^ k * 2 = rw pow-suc at h in omega arith

-- number w of a set of rows
module _ (r : List ℕ) (w : ℕ) (here : w < 4) where
  in_word : (b : ℕ) → b < 64 → in_rows r (64 * w + b) ≡ mem b (get_or r w 0)
  unfolding in_rows
  in_word b h =
      let x : (64 * w + b) % 64 ≡ b = omega arith in
      let y : (64 * w + b) / 64 ≡ w = omega arith in
      ap₂ (λ (p q : ℕ). mem p (get_or r q 0)) x y

  word_ones : get_or r w 0 < 2 ^ 64 → length (keep (in_rows r) (table_from 64 (64 * w + 0) (λ j. j))) ≡ ones (get_or r w 0)
  word_ones h =
      keep_like (in_rows r) (λ b. mem b (get_or r w 0)) 64 (64 * w) 0 (λ b l. in_word b (omega arith))
      ∙ ones_from (get_or r w 0) 64 0 (subst (λ (y : ℕ). y < 2 ^ 64) (sym (div-one (get_or r w 0))) h)
      ∙ ap ones (div-one (get_or r w 0))

pub word_same : (x y : List ℕ) (w : ℕ) → w < 4 → get_or x w 0 < 2 ^ 64 → get_or y w 0 < 2 ^ 64 → ((i : ℕ) → i < 256 → in_rows x i ≡ in_rows y i) → get_or x w 0 ≡ get_or y w 0
word_same x y w here a b h = same_bits (get_or x w 0) (get_or y w 0) (λ p. go p (dec_lt p 64))
  where
    go : (p : ℕ) → Dec (p < 64) → mem p (get_or x w 0) ≡ mem p (get_or y w 0)
    go p (yes l) = sym (in_word x w here p l) ∙ h (64 * w + p) (omega arith) ∙ in_word y w here p l
    go p (no l) = none_high 64 (get_or x w 0) p a (omega arith) ∙ sym (none_high 64 (get_or y w 0) p b (omega arith))

-- the rows of a set are as many as the bits of its numbers
pub rows_ones : (r : List ℕ) → ((w : ℕ) → w < 4 → get_or r w 0 < 2 ^ 64) → ones (get_or r 0 0) + ones (get_or r 1 0) + (ones (get_or r 2 0) + ones (get_or r 3 0)) ≡ length (keep (in_rows r) (below 256))
unfolding below table
rows_ones r low =
    let f = in_rows r in
    omega (
      arith,
      word_ones r 0 (omega arith) (low 0 (omega arith)),
      word_ones r 1 (omega arith) (low 1 (omega arith)),
      word_ones r 2 (omega arith) (low 2 (omega arith)),
      word_ones r 3 (omega arith) (low 3 (omega arith)),
      keep_split f 64 192 0,
      keep_split f 64 128 64,
      keep_split f 64 64 128,
    )

-- a list has an element that passes where one is kept
pub any_kept : {A : Type 0} (f : A → Bool) (xs : List A) → not (eqb (length (keep f xs)) 0) ≡ any f xs
unfolding any keep only ◌⧺◌ either
any_kept f [] = refl
any_kept f (x ∷ xs) = go (f x) (any_kept f xs)
  where
    go : (b : Bool) → not (eqb (length (keep f xs)) 0) ≡ any f xs → not (eqb (length (only b x ⧺ keep f xs)) 0) ≡ either b (any f xs)
    go true e = ap not (ne_eqb (suc (length (keep f xs))) 0 (λ q. omega arith)) ∙ sym (or_l true (any f xs) refl)
    go false e = e

-- some element of a table passes
from_any : {A : Type 0} (g : A → Bool) (n i : ℕ) (h : ℕ → A) → any g (table_from n i h) ≡ true → (k : ℕ) × (k < i + n) × (g (h k) ≡ true)
unfolding any table_from
from_any g zero i h t = absurd (false≢true t)
from_any g (suc n) i h t = go (or_case (g (h i)) (any g (table_from n (suc i) h)) t) (from_any g n (suc i) h)
  where
    go : (g (h i) ≡ true) ⊎ (any g (table_from n (suc i) h) ≡ true) → (any g (table_from n (suc i) h) ≡ true → (k : ℕ) × (k < suc i + n) × (g (h k) ≡ true)) → (k : ℕ) × (k < i + suc n) × (g (h k) ≡ true)
    go (inl q) ih = (i, omega arith, q)
    go (inr q) ih = let r = ih q in (r.0, omega (arith, r.1), r.2)

table_any : {A : Type 0} (g : A → Bool) (n : ℕ) (h : ℕ → A) → any g (table n h) ≡ true → (i : ℕ) × (i < n) × (g (h i) ≡ true)
unfolding table
table_any g n h t = let r = from_any g n 0 h t in (r.0, omega (arith, r.1), r.2)

-- a set that has, of n rows, those that pass
module _ {A : Type 0} (r : List ℕ) (n : ℕ) (g : A → Bool) (h : ℕ → A) (few : n ≤ 256) (is : (i : ℕ) → i < 256 → in_rows r i ≡ (ltb i n & g (h i))) where
  pub rows_any : any (in_rows r) (below 256) ≡ any g (table n h)
  rows_any = iff to from
    where
      to : any (in_rows r) (below 256) ≡ true → any g (table n h) ≡ true
      to t =
          let e = any_at (in_rows r) (below 256) t in
          let q = sym (is e.0 (in_below 256 e.0 e.1)) ∙ e.2 in
          any_i g (table_in n h e.0 (ltb_lt e.0 n (and_l _ _ q))) (and_r _ _ q)

      from : any g (table n h) ≡ true → any (in_rows r) (below 256) ≡ true
      from t =
          let e = table_any g n h t in
          any_i (in_rows r) (below_in 256 e.0 (omega (arith, e.1))) (is e.0 (omega (arith, e.1)) ∙ and_i (lt-ltb e.0 n e.1) e.2)

  count_to : (k : ℕ) → k ≤ 256 → length (keep (in_rows r) (table k (λ i. i))) ≡ length (keep g (table (min k n) h))
  count_to zero l = keep_none (in_rows r) (λ i. i) ∙ sym (let e : min 0 n ≡ 0 = omega arith in ap (λ (x : ℕ). length (keep g (table x h))) e ∙ keep_none g h)
  count_to (suc k) l =
      sym (keep_more (in_rows r) k (λ i. i) (suc k) refl)
      ∙ ap₂ (λ (x : ℕ) (b : Bool). x + cond b 1 0) (count_to k (omega arith)) (is k (omega arith))
      ∙ go (dec_lt k n)
    where
      go : Dec (k < n) → length (keep g (table (min k n) h)) + cond (ltb k n & g (h k)) 1 0 ≡ length (keep g (table (min (suc k) n) h))
      go (yes m) =
          let e : min k n ≡ k = omega arith in
          let f : suc k ≡ min (suc k) n = omega arith in
          ap₂ (λ (x : ℕ) (b : Bool). length (keep g (table x h)) + cond b 1 0) e (and_yes _ (lt-ltb k n m)) ∙ keep_more g k h (min (suc k) n) f
      go (no m) =
          let e : min k n ≡ min (suc k) n = omega arith in
          ap₂ (λ (x : ℕ) (b : Bool). length (keep g (table x h)) + cond b 1 0) e (and_no (g (h k)) (le-ltb k n (omega arith))) ∙ omega arith

  pub rows_count : length (keep (in_rows r) (below 256)) ≡ length (keep g (table n h))
  unfolding below
  rows_count = let e : min 256 n ≡ n = omega arith in count_to 256 (omega arith) ∙ ap (λ (x : ℕ). length (keep g (table x h))) e

imp_i : {a b : Bool} → (a ≡ true → b ≡ true) → imp a b ≡ true
unfolding imp
imp_i {a = true} h = h refl
imp_i {a = false} h = refl

from_all : {A : Type 0} (f : A → Bool) (n i : ℕ) (h : ℕ → A) → ((k : ℕ) → k < i + n → f (h k) ≡ true) → all f (table_from n i h) ≡ true
unfolding all table_from
from_all f zero i h e = refl
from_all f (suc n) i h e = and_i (e i (omega arith)) (from_all f n (suc i) h (λ k l. e k (omega arith)))

all_table : {A : Type 0} (f : A → Bool) (n : ℕ) (h : ℕ → A) → ((k : ℕ) → k < n → f (h k) ≡ true) → all f (table n h) ≡ true
unfolding table
all_table f n h e = from_all f n 0 h (λ k l. e k (omega arith))

-- of the rows that pass, those that pass another test too are all of them
pub rows_all : {A : Type 0} (x y : List ℕ) (n : ℕ) (f g : A → Bool) (h : ℕ → A) → n ≤ 256 → ((i : ℕ) → i < 256 → in_rows x i ≡ (ltb i n & f (h i))) → ((i : ℕ) → i < 256 → in_rows y i ≡ (in_rows x i & g (h i))) → {b : Bool} → (b ≡ true → (i : ℕ) → i < 256 → in_rows x i ≡ in_rows y i) → (((i : ℕ) → i < 256 → in_rows x i ≡ in_rows y i) → b ≡ true) → b ≡ all (λ a. imp (f a) (g a)) (table n h)
rows_all {A} x y n f g h few ex ey {b} to from = iff (λ t. every (to t)) (λ t. from (λ i l. alike t i l))
  where
    every : ((i : ℕ) → i < 256 → in_rows x i ≡ in_rows y i) → all (λ a. imp (f a) (g a)) (table n h) ≡ true
    every e = all_table (λ a. imp (f a) (g a)) n h (λ i l. imp_i (λ t. let i256 : i < 256 = omega arith in let q = and_i (lt-ltb i n l) t in and_r _ _ (sym (ey i i256) ∙ sym (e i i256) ∙ ex i i256 ∙ q)))

    alike : all (λ a. imp (f a) (g a)) (table n h) ≡ true → (i : ℕ) → i < 256 → in_rows x i ≡ in_rows y i
    alike t i l = iff (λ q. let p = sym (ex i l) ∙ q in ey i l ∙ and_i q (imp_e _ _ (table_all (λ a. imp (f a) (g a)) n h t i (ltb_lt i n (and_l _ _ p))) (and_r _ _ p))) (λ q. and_l _ _ (sym (ey i l) ∙ q))

-- two sets are equal where they have the same rows
pub words_same : (x y : List ℕ) → length x ≡ 4 → length y ≡ 4 → ((w : ℕ) → w < 4 → get_or x w 0 < 2 ^ 64) → ((w : ℕ) → w < 4 → get_or y w 0 < 2 ^ 64) → ((i : ℕ) → i < 256 → in_rows x i ≡ in_rows y i) → x ≡ y
words_same x y p q a b h = ext_get_or 0 x y (p ∙ sym q) (λ w l. let k : w < 4 = omega arith in word_same x y w k (a w k) (b w k) h)

-- the rows with as many sites as there are sets
pub chosen_is : (xss : List (List ℕ)) (row : List ℕ) (m : ℕ) → length xss ≡ m → (b : Bool) → ((b & eqb (length row) m) & fits xss row) ≡ (b & fits xss row)
unfolding ◌&◌
chosen_is xss row m e true = iff (λ t. and_r (eqb (length row) m) (fits xss row) t) (λ t. and_i (eq-eqb _ _ (fits_long xss row t ∙ e)) t)
chosen_is xss row m e false = refl

-- a tuple's sites, each as a set
singles_are : (t row : List ℕ) → all_below 32 row ≡ true → fits (map sites (map (λ v. 2 ^ v) t)) row ≡ same t row
unfolding fits same all_below all
singles_are [] [] h = refl
singles_are [] (x ∷ xs) h = refl
singles_are (v ∷ vs) [] h = refl
singles_are (v ∷ vs) (x ∷ xs) h = ap₂ ◌&◌ (sym (among_low (2 ^ v) x (ltb_lt x 32 (and_l _ _ h))) ∙ mem_single x v) (singles_are vs xs (and_r _ _ h))

pub singles_fit : (b : Bool) (t row : List ℕ) → (b ≡ true → all_below 32 row ≡ true) → (b & fits (map sites (map (λ v. 2 ^ v) t)) row) ≡ (b & same t row)
unfolding ◌&◌
singles_fit true t row h = singles_are t row (h refl)
singles_fit false t row h = refl

-- how many sites a set has
pub sites_ones : (m : ℕ) → m < 4294967296 → ones m ≡ length (sites m)
unfolding sites below table
sites_ones m h = sym (ones_from m 32 0 (subst (λ (y : ℕ). y < 4294967296) (sym (div-one m)) h) ∙ ap ones (div-one m))

-- more choices than rows
pub many_rule : (ms : List ℕ) (m : ℕ) (rows : List (List ℕ)) (need : ℕ) → distinct rows ≡ true → length rows ≤ 256 → need ≡ min (product (Sets ms m)) 257 → 257 ≤ need → false ≡ choices (Sets ms m) (λ t. any (same t) rows)
many_rule ms m rows need d few e h =
    let l : length (keep (fits (Sets ms m)) rows) ≤ 256 = omega (arith, keep_short (fits (Sets ms m)) rows) in
    sym (ne_eqb _ need (λ q. less q l)) ∙ count_rule ms m rows (length (keep (fits (Sets ms m)) rows)) need d refl l e
  where
    less : {x : ℕ} → x ≡ need → x ≤ 256 → ⊥
    less q l = omega arith
