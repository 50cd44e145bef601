-- Laws of a table with an entry more, with another entry, or with one entry less, by what its entries stand for.
-- Assumes nothing.
use mathlib.Core.Path.{◌≡◌, refl, sym, ap, ◌∙◌}
use mathlib.Core.List.{List, [], ◌∷◌, ◌++◌, map}
use Prim.Native.Nat.{ℕ, suc, ◌+◌, ◌<◌, ◌≤◌}
use native.Mathlib.Omega.{arith}
use native.Mathlib.Numerals.{add-one}
use native.Mathlib.Decide.{ℕ_discrete, dec_lt}
use lib.ListN.{length, get_or, set, length-set, take}
use lib.Seq.{get_or-set_same, get_or-set_other, ext_get_or}
use Rattle.sets.specs.Lists.{splice, table}
use Rattle.sets.proofs.Splice.{splice_long, splice_low, splice_high, splice_set}
use Rattle.sets.proofs.Tables.{list_table, map_table, get_or_table, length_table, same_table, table_snoc, table_short}
use Rattle.tables.specs.declared.table.Table.{Table}
use Rattle.tables.specs.Entries.{entries, Removed}

module _ {A B : Type 0} {N : ℕ} (f : A → B) (d : A) where
  -- what the entries stand for
  abbrev pub viewed : Table A N → List B
  viewed t = table t.count (λ k. f (get_or t.items k d))

  -- the same by the list of the entries
  pub viewed_map : (t : Table A N) → viewed t ≡ map f (entries t)
  viewed_map t = sym (ap (map f) (list_table d t.count t.items (omega (arith, t.few, t.long))) ∙ map_table f t.count (λ k. get_or t.items k d))

  -- the first of them alone
  pub truncated : (old new : Table A N) → new.items ≡ old.items → new.count ≤ old.count → viewed new ≡ take new.count (viewed old)
  truncated old new e h =
      ap (λ (xs : List A). table new.count (λ k. f (get_or xs k d))) e
      ∙ sym (table_short old.count new.count (λ k. f (get_or old.items k d)) h)

  -- one more
  pub pushed : (old new : Table A N) (x : A) → old.count < N → new.items ≡ set old.items old.count x → new.count ≡ old.count + 1 → viewed new ≡ viewed old ++ (f x ∷ [])
  pushed old new x h e c =
      ap (λ (n : ℕ). table n (λ k. f (get_or new.items k d))) (c ∙ add-one old.count)
      ∙ table_snoc old.count (λ k. f (get_or new.items k d))
      ∙ rw (before, last) refl
    where
      before : table old.count (λ k. f (get_or new.items k d)) ≡ viewed old
      before = same_table old.count _ _ (f d) (λ k l. ap f (ap (λ (xs : List A). get_or xs k d) e ∙ get_or-set_other old.items old.count k x d (λ q. omega arith)))

      last : get_or new.items old.count d ≡ x
      last = ap (λ (xs : List A). get_or xs old.count d) e ∙ get_or-set_same old.items old.count x d (omega (arith, old.long))

  -- another
  pub replaced : (old new : Table A N) (k : ℕ) (x : A) → k < old.count → new.items ≡ set old.items k x → new.count ≡ old.count → viewed new ≡ splice k (f x ∷ []) (viewed old)
  replaced old new k x h e c =
      ext_get_or (f d) (viewed new) (set (viewed old) k (f x)) (length_table new.count _ ∙ c ∙ sym (length-set (viewed old) k (f x) ∙ length_table old.count _))
      (λ j l. at j (omega (arith, l, length_table new.count (λ k. f (get_or new.items k d)), c)) (ℕ_discrete j k))
      ∙ splice_set k (f x) (viewed old) (omega (arith, h, length_table old.count (λ k. f (get_or old.items k d))))
    where
      at : (j : ℕ) → j < old.count → Dec (j ≡ k) → get_or (viewed new) j (f d) ≡ get_or (set (viewed old) k (f x)) j (f d)
      at j l (yes p) =
          get_or_table new.count _ j (f d) (omega (arith, c, l))
          ∙ rw p
          (ap f (ap (λ (xs : List A). get_or xs k d) e ∙ get_or-set_same old.items k x d (omega (arith, h, old.few, old.long)))
          ∙ sym (get_or-set_same (viewed old) k (f x) (f d) (omega (arith, h, length_table old.count (λ k. f (get_or old.items k d))))))
      at j l (no n) =
          get_or_table new.count _ j (f d) (omega (arith, c, l))
          ∙ ap f (ap (λ (xs : List A). get_or xs j d) e ∙ get_or-set_other old.items k j x d n)
          ∙ sym (get_or-set_other (viewed old) k j (f x) (f d) n ∙ get_or_table old.count _ j (f d) l)

  -- one less
  pub removed : (old new : Table A N) (k : ℕ) → k < old.count → Removed k old new → viewed new ≡ splice k [] (viewed old)
  removed old new k h R =
      ext_get_or (f d) (viewed new) (splice k [] (viewed old)) (length_table new.count _ ∙ sym long)
      (λ j l. let i : j < new.count = omega (arith, l, length_table new.count (λ k. f (get_or new.items k d))) in get_or_table new.count _ j (f d) i ∙ at j i (dec_lt j k))
    where
      many : length (viewed old) ≡ old.count
      many = length_table old.count _

      long : length (splice k [] (viewed old)) ≡ new.count
      long = omega (arith, splice_long k [] (viewed old) (omega (arith, h, many)), many, R.count)

      at : (j : ℕ) → j < new.count → Dec (j < k) → f (get_or new.items j d) ≡ get_or (splice k [] (viewed old)) j (f d)
      at j i (yes l) = ap f (R.before j d l) ∙ sym (splice_low k (viewed old) j (f d) l ∙ get_or_table old.count _ j (f d) (omega (arith, l, h)))
      at j i (no n) = ap f (R.moved j d (omega arith) i) ∙ sym (splice_high k (viewed old) j (f d) (omega arith) ∙ get_or_table old.count _ (suc j) (f d) (omega (arith, i, R.count)))

-- the loop that takes an entry out
module _ {A : Type 0} where
  pub record Moving (k : ℕ) (l₀ l : List A) (i : ℕ) : Type 0 where
    pub long : length l ≡ length l₀
    pub before : (j : ℕ) (d : A) → j < k → get_or l j d ≡ get_or l₀ j d
    pub moved : (j : ℕ) (d : A) → k ≤ j → j < i → get_or l j d ≡ get_or l₀ (suc j) d
    pub behind : (j : ℕ) (d : A) → i ≤ j → get_or l j d ≡ get_or l₀ j d

  pub moving_none : (k : ℕ) (l : List A) → Moving k l l k
  moving_none k l = record { long = refl; before = λ j d h. refl; moved = λ j d h i. absurd (omega arith); behind = λ j d h. refl }

  pub moving_more : {k i : ℕ} {l₀ l : List A} {x : A} → Moving k l₀ l i → k ≤ i → i < length l₀ → ((d : A) → x ≡ get_or l (suc i) d) → Moving k l₀ (set l i x) (suc i)
  moving_more {k} {i} {l₀} {l} {x} M h t e = record {
    long = length-set l i x ∙ M.long;
    before = λ j d u. get_or-set_other l i j x d (λ q. omega arith) ∙ M.before j d u;
    moved = λ j d u v. here j d u v (ℕ_discrete j i);
    behind = λ j d u. get_or-set_other l i j x d (λ q. omega arith) ∙ M.behind j d (omega arith);
  }
    where
      here : (j : ℕ) (d : A) → k ≤ j → j < suc i → Dec (j ≡ i) → get_or (set l i x) j d ≡ get_or l₀ (suc j) d
      here j d u v (yes p) = rw p (get_or-set_same l i x d (omega (arith, M.long)) ∙ e d ∙ M.behind (suc i) d (omega arith))
      here j d u v (no n) = get_or-set_other l i j x d n ∙ M.moved j d u (omega arith)
