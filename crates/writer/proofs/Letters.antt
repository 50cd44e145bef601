-- The table of letters: its entry for any byte, and that the letters of an entry end at its first dot.
-- Assumes nothing.
use mathlib.Core.Path.{◌≡◌, sym, ap, ◌∙◌}
use mathlib.Core.List.{List, [], ◌++◌}
use Prim.Native.Nat.{ℕ, ◌+◌, ◌-◌, ◌%◌, ◌<◌, ◌≤◌}
use native.Mathlib.Omega.{arith}
use native.Mathlib.Decide.{dec_lt}
use lib.ListN.{length, get_or, replicate, get_or-replicate, get_or-append}
use lib.Seq.{get_or-append-add}
use Rattle.sets.specs.Bits.{right_count, set_count}
use Rattle.sets.proofs.Lists.{All-in, in_get_or, cat_append}
use Rattle.sets.proofs.Tables.{get_or_table}
use Rattle.klaim.specs.Listing.{letters}
use Rattle.klaim.proofs.Letters.{letters_lowercase, letters_low}
use Rattle.writer.specs.Letters.{dot, padded, letter_table}

-- a place of a padded list: one of the list's own, or a dot
module _ (xs : List ℕ) (i : ℕ) where
  pub at_letter : i < length xs → get_or (padded xs) i 0 ≡ get_or xs i 0
  unfolding padded
  at_letter h = ap (λ (l : List ℕ). get_or l i 0) (cat_append xs _) ∙ get_or-append xs _ 0 i h

  at_dot : length xs ≤ i → i < right_count → get_or (padded xs) i 0 ≡ dot
  unfolding padded
  at_dot h k =
      let n = right_count - length xs in
      let e : i ≡ length xs + (i - length xs) = omega (arith, h) in
      ap (λ (l : List ℕ). get_or l i 0) (cat_append xs (replicate n dot))
      ∙ ap (λ (j : ℕ). get_or (xs ++ replicate n dot) j 0) e
      ∙ get_or-append-add xs (replicate n dot) (i - length xs) 0
      ∙ get_or-replicate n (i - length xs) dot 0 (omega (arith, h, k))

-- the entry of a byte: bits that are no right do not count
pub entry_right : (m : ℕ) → get_or letter_table (m % set_count) [] ≡ padded (letters m)
unfolding letter_table
entry_right m = get_or_table set_count (λ k. padded (letters k)) (m % set_count) [] (omega arith) ∙ ap padded (letters_low m)

module _ (m i : ℕ) where
  -- at a dot all letters are behind
  pub dot_ends : get_or (padded (letters m)) i 0 ≡ dot → length (letters m) ≤ i
  dot_ends e = go (dec_lt i (length (letters m)))
    where
      go : Dec (i < length (letters m)) → length (letters m) ≤ i
      go (yes l) = absurd (omega (arith, (All-in (letters_lowercase m) (in_get_or 0 (letters m) i l)).0, sym (at_letter (letters m) i l) ∙ e))
      go (no l) = omega arith

  -- before the first dot there is one more
  pub letter_goes_on : i < right_count → (get_or (padded (letters m)) i 0 ≡ dot → ⊥) → i < length (letters m)
  letter_goes_on k e = go (dec_lt i (length (letters m)))
    where
      go : Dec (i < length (letters m)) → i < length (letters m)
      go (yes l) = l
      go (no l) = absurd (e (at_dot (letters m) i (omega arith) k))

-- place i of the entry s of the table, the entry of a byte m
module _ {t : List (List ℕ)} (is : t ≡ letter_table) {s : ℕ} (m i : ℕ) (e : s ≡ m % set_count) where
  pub entry_read : get_or (get_or t s []) i 0 ≡ get_or (padded (letters m)) i 0
  entry_read = ap (λ (l : List (List ℕ)). get_or (get_or l s []) i 0) is ∙ ap (λ (k : ℕ). get_or (get_or letter_table k []) i 0) e ∙ ap (λ (l : List ℕ). get_or l i 0) (entry_right m)

  pub read_ends : get_or (get_or t s []) i 0 ≡ dot → length (letters m) ≤ i
  read_ends q = dot_ends m i (sym entry_read ∙ q)

  pub read_goes_on : i < right_count → (get_or (get_or t s []) i 0 ≡ dot → ⊥) → i < length (letters m)
  read_goes_on k q = letter_goes_on m i k (λ z. q (entry_read ∙ z))
