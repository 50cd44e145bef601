-- From 256 present lines on, it does not matter how many they are.
-- Assumes nothing.
use mathlib.Core.Path.{◌≡◌, refl, sym, ap, ◌∙◌}
use mathlib.Core.Bool.{Bool, true, false, not, cond}
use mathlib.Core.List.{List, [], ◌∷◌, ◌++◌}
use mathlib.Core.Option.{Option, none, some}
use Prim.Native.Nat.{ℕ, suc, ◌+◌, min}
use native.Mathlib.Omega.{arith}
use lib.Dec.{eqb, leb}
use lib.ListN.{length}
use borrow.Author.Tests.{le-leb}
use Rattle.sets.specs.Lists.{◌&◌, either}
use Rattle.sets.proofs.Lists.{leb_le, nleb_lt}
use Rattle.klaim.specs.Limits.{tuple_limit, thread_limit, line_limit}
use Rattle.klaim.specs.Process.{Line, template, clash}
use Rattle.klaim.specs.Rows.{Row, group_t, group_l, group_q, group_a, rows_of}
use Rattle.klaim.specs.Reader.{Answer, refused, gives, and_then, an_arrival, in_limits, of_group, present, full, over, headed, own, in_order, repeated, misplaced, site_count, absent, Judged, bad, good, judge, scan, read_rows, whole, numbers_of, lines_of, read_arrival}

room_same : (d k : ℕ) → leb line_limit (min d 256 + k) ≡ leb line_limit (d + k)
room_same d k = go (leb 256 d) refl
  where
    go : (b : Bool) → leb 256 d ≡ b → leb line_limit (min d 256 + k) ≡ leb line_limit (d + k)
    go true e = let h = leb_le 256 d e in le-leb line_limit (min d 256 + k) (omega arith) ∙ sym (le-leb line_limit (d + k) (omega arith))
    go false e = let h = nleb_lt 256 d e in ap (λ (x : ℕ). leb line_limit (x + k)) (omega arith)

module _ (n d : ℕ) where
  full_same : (g k : ℕ) → full (an_arrival n (min d 256)) g k ≡ full (an_arrival n d) g k
  unfolding full present
  full_same g k = ap (λ (b : Bool). either (eqb g group_t & leb tuple_limit k) (either (eqb g group_l & leb thread_limit k) (either (eqb g group_q & b) (eqb g group_a & leb tuple_limit k)))) (room_same d k)

  judge_same : (above : List Row) (o : Option Row) → judge (an_arrival n (min d 256)) above o ≡ judge (an_arrival n d) above o
  unfolding judge over misplaced headed own site_count
  judge_same above none = refl
  judge_same above (some r) = ap (λ (b : Bool). cond (either (not (in_limits r)) b) (bad 2) (cond (either (not (true & eqb r.group group_q & in_order above r)) (repeated above r)) (bad 3) (cond (absent n r) (bad 4) (cond (clash (template r.process)) (bad 7) (good r))))) (full_same r.group (length (of_group r.group above)))

  scan_same : (above : List Row) (os : List (Option Row)) → scan (an_arrival n (min d 256)) above os ≡ scan (an_arrival n d) above os
  unfolding scan
  scan_same above [] = refl
  scan_same above (o ∷ os) = go (judge (an_arrival n d) above o) (judge_same above o) (λ r. scan_same (above ++ (r ∷ [])) os)
    where
      go : (j : Judged) → judge (an_arrival n (min d 256)) above o ≡ j → ((r : Row) → scan (an_arrival n (min d 256)) (above ++ (r ∷ [])) os ≡ scan (an_arrival n d) (above ++ (r ∷ [])) os) → ◌≡◌ {A = Answer (List Row)} (elim (judge (an_arrival n (min d 256)) above o) [ bad m ↦ refused m (suc (length above)) | good r ↦ scan (an_arrival n (min d 256)) (above ++ (r ∷ [])) os ]) (elim j [ bad m ↦ refused m (suc (length above)) | good r ↦ scan (an_arrival n d) (above ++ (r ∷ [])) os ])
      go (bad m) e ih = ap {B = Answer (List Row)} (λ (j : Judged). elim j [ bad m ↦ refused m (suc (length above)) | good r ↦ scan (an_arrival n (min d 256)) (above ++ (r ∷ [])) os ]) e
      go (good r) e ih = ap {B = Answer (List Row)} (λ (j : Judged). elim j [ bad m ↦ refused m (suc (length above)) | good r ↦ scan (an_arrival n (min d 256)) (above ++ (r ∷ [])) os ]) e ∙ ih r

  pub arrival_clamped : (bytes : List ℕ) → read_arrival n (min d 256) bytes ≡ read_arrival n d bytes
  unfolding read_arrival read_rows
  arrival_clamped bytes = ap (λ (a : Answer (List Row)). and_then a (λ rows. whole (numbers_of rows) (lines_of rows) (0 ∷ []) (lines_of rows))) (scan_same [] (rows_of bytes))

-- what the reading of the rows comes to
module _ (n d : ℕ) (bytes : List ℕ) where
  rows_refused : {number row : ℕ} → read_rows (an_arrival n d) bytes ≡ refused number row → refused number row ≡ read_arrival n d bytes
  unfolding read_arrival and_then
  rows_refused e = rw e

  rows_given : {rows : List Row} → read_rows (an_arrival n d) bytes ≡ gives rows → whole (numbers_of rows) (lines_of rows) (0 ∷ []) (lines_of rows) ≡ read_arrival n d bytes
  unfolding read_arrival and_then
  rows_given e = rw e

-- the arrival that is read behind so many lines is that behind d
module _ (n d k : ℕ) (few : k ≡ min d 256) (bytes : List ℕ) where
  pub behind_refused : {number row : ℕ} → read_rows (an_arrival n k) bytes ≡ refused number row → refused number row ≡ read_arrival n d bytes
  behind_refused e = rows_refused n k bytes e ∙ ap (λ (j : ℕ). read_arrival n j bytes) few ∙ arrival_clamped n d bytes

  pub behind_read : {rows : List Row} → read_rows (an_arrival n k) bytes ≡ gives rows → {a : Answer (List Line)} → a ≡ whole (numbers_of rows) (lines_of rows) (0 ∷ []) (lines_of rows) → a ≡ read_arrival n d bytes
  behind_read e q = q ∙ rows_given n k bytes e ∙ ap (λ (j : ℕ). read_arrival n j bytes) few ∙ arrival_clamped n d bytes
