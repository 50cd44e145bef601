-- Laws of a loop over the rows of a text.
-- Assumes nothing.
use mathlib.Core.Path.{◌≡◌, refl, sym, ap, subst, ◌∙◌}
use mathlib.Core.List.{List, [], ◌∷◌, ◌++◌}
use mathlib.Core.Option.{Option, none}
use Prim.Native.Nat.{ℕ, zero, suc, ◌+◌, ◌-◌, ◌<◌, ◌≤◌}
use native.Mathlib.Omega.{arith}
use lib.ListN.{length, take, drop, replicate, length-append}
use Rattle.sets.specs.Lists.{keep, table, table_from}
use Rattle.sets.specs.Bits.{joins}
use Rattle.klaim.specs.Rows.{Row, newline, rows_of, row_of}
use Rattle.klaim.specs.Reader.{refused, gives, Text, Judged, bad, good, judge, scan, read_rows, gather, of_group}
use Rattle.text.specs.Pieces.{end_of}
use Rattle.text.proofs.Pieces.{end_le}
use Rattle.text.proofs.Rows.{rows_next, rows_left_lem, rows_end}
use Rattle.scan.specs.Progress.{rows_left, Progress}

-- at the beginning no row is read
pub progress_none : (t : Text) {P : List Row → Type 0} (bytes : List ℕ) → P [] → Progress t P bytes 0 0
unfolding read_rows rows_of
progress_none t bytes p = record { above = []; many = refl; held = p; rest = refl }

-- the row that ends at e, and the rows behind it
module _ (s : List ℕ) (at e : ℕ) (q : e ≡ end_of newline s at) where
  pub row_whole : {o : Option Row} → at < length s → e < length s → o ≡ row_of (take (e - at) (drop at s)) → rows_left s at ≡ o ∷ rows_left s (e + 1)
  row_whole h m v = rw v (rows_next s at e q (omega arith) m)

  pub row_left : at < length s → length s ≤ e → rows_left s at ≡ none ∷ rows_left s (e + 1)
  row_left h m = rw (rows_end s (e + 1) (omega arith)) (rows_left_lem s at e q h m)

scan_by : (t : Text) (above : List Row) (o : Option Row) (os : List (Option Row)) {j : Judged} → judge t above o ≡ j → scan t above (o ∷ os) ≡ elim j [ bad n ↦ refused n (suc (length above)) | good r ↦ scan t (above ++ (r ∷ [])) os ]
unfolding scan
scan_by t above o os e = ap (λ (j : Judged). elim j [ bad n ↦ refused n (suc (length above)) | good r ↦ scan t (above ++ (r ∷ [])) os ]) e

-- a row is let through, or refused
module _ {t : Text} {P : List Row → Type 0} {bytes : List ℕ} {at count : ℕ} (R : Progress t P bytes at count) (o : Option Row) (next : ℕ) (left : rows_left bytes at ≡ o ∷ rows_left bytes next) where
  pub progress_more : {Q : List Row → Type 0} (r : Row) → (judge t R.above o ≡ good r) × Q (R.above ++ (r ∷ [])) → Progress t Q bytes next (count + 1)
  progress_more r j = record {
    above = R.above ++ (r ∷ []);
    many = length-append R.above (r ∷ []) ∙ ap (λ (n : ℕ). n + 1) R.many;
    held = j.1;
    rest = R.rest ∙ ap (scan t R.above) left ∙ scan_by t R.above o (rows_left bytes next) j.0;
  }

  pub progress_bad : (n : ℕ) → judge t R.above o ≡ bad n → read_rows t bytes ≡ refused n (count + 1)
  progress_bad n j = R.rest ∙ ap (scan t R.above) left ∙ scan_by t R.above o (rows_left bytes next) j ∙ ap (refused n) (omega (arith, R.many))

-- a row without a form
pub no_form : (t : Text) (above : List Row) → judge t above none ≡ bad 1
unfolding judge
no_form t above = refl

-- all rows are read
pub progress_end : {t : Text} {P : List Row → Type 0} {bytes : List ℕ} {at count : ℕ} → (R : Progress t P bytes at count) → length bytes ≤ at → read_rows t bytes ≡ gives R.above
unfolding scan
progress_end {t} {P} {bytes} {at} {count} R h = R.rest ∙ rw (rows_end bytes at h)

-- a row ends within the text
pub row_within : (s : List ℕ) (at e : ℕ) → e ≡ end_of newline s at → at < length s → e ≤ length s
row_within s at e q h = subst (λ (k : ℕ). k ≤ length s) (sym q) (end_le newline s at (omega arith))

-- a table of zeros holds no rows
zeros : (m i : ℕ) → replicate {A = ℕ} m 0 ≡ table_from m i (λ k. 0)
unfolding table_from
zeros zero i = refl
zeros (suc m) i = ap (λ (xs : List ℕ). 0 ∷ xs) (zeros m (suc i))

pub gather_none : (m : ℕ) (place value : Row → ℕ) (g : ℕ) → replicate {A = ℕ} m 0 ≡ gather m place value (of_group g [])
unfolding gather of_group keep joins table
gather_none m place value g = zeros m 0
