-- How long the rows of a listing are.
-- Assumes nothing.
use mathlib.Core.Path.{◌≡◌, refl, ap, ◌∙◌}
use mathlib.Core.List.{List, [], ◌∷◌}
use Prim.Native.Nat.{ℕ, ◌+◌, ◌<◌, ◌≤◌}
use Prim.Native.Char.{code}
use Prim.Native.String.{String}
use native.Mathlib.Omega.{arith}
use lib.ListN.{length}
use Rattle.sets.proofs.Lists.{length_cat}
use Rattle.klaim.specs.Rows.{text}
use Rattle.klaim.specs.Reader.{refused, World}
use Rattle.klaim.specs.Analysis.{broken_t, broken_q}
use Rattle.klaim.specs.Listing.{numeral, site_name, letters, tail, row, list_read, list_verdict}
use Rattle.klaim.proofs.Numeral.{numeral_short, site_short}
use Rattle.klaim.proofs.Letters.{letters_short}

-- the bytes of fields, each behind its comma, and of the newline
abbrev pub width : List (List ℕ) → ℕ
width [] = 1
width (f ∷ fs) = 1 + length f + width fs

length_tail : (fs : List (List ℕ)) → length (tail fs) ≡ width fs
unfolding tail
length_tail [] = refl
length_tail (f ∷ fs) = omega (arith, length_cat f (tail fs), length_tail fs)

pub length_row : (w : String) (fs : List (List ℕ)) → length (row w fs) ≡ length (text w) + width fs
unfolding row
length_row w fs = length_cat (text w) (tail fs) ∙ ap (λ (n : ℕ). length (text w) + n) (length_tail fs)

-- the longest of each row
pub accepted_short : (n : ℕ) → n < 10000 → length (row "accepted" (numeral n ∷ [])) ≤ 14
unfolding text
accepted_short n h = omega (arith, length_row "accepted" (numeral n ∷ []), numeral_short 3 n h)

pub v_short : (s t m : ℕ) → s < 32 → t < 32 → length (row "V" (site_name s ∷ site_name t ∷ letters m ∷ [])) ≤ 16
unfolding text
v_short s t m h k = omega (arith, length_row "V" (site_name s ∷ site_name t ∷ letters m ∷ []), site_short s h, site_short t k, letters_short m)

pub u_short : (s p q r : ℕ) → s < 32 → p < 1000 → q < 1000 → r < 10000 → length (row "U" (site_name s ∷ numeral p ∷ numeral q ∷ numeral r ∷ [])) ≤ 19
unfolding text
u_short s p q r h i j k = omega (arith, length_row "U" (site_name s ∷ numeral p ∷ numeral q ∷ numeral r ∷ []), site_short s h, numeral_short 2 p i, numeral_short 2 q j, numeral_short 3 r k)

-- the one row of a refusal, and of a broken rule
pub refused_list : (n r : ℕ) → row "refused" (numeral n ∷ numeral r ∷ []) ≡ list_read (refused n r)
unfolding list_read
refused_list n r = refl

pub broken_tuple_list : (w : World) (i : ℕ) → row "broken" ((code "T" ∷ []) ∷ numeral i ∷ []) ≡ list_verdict w (broken_t i)
unfolding list_verdict text
broken_tuple_list w i = refl

pub broken_line_list : (w : World) (q : ℕ) → row "broken" ((code "Q" ∷ []) ∷ numeral q ∷ []) ≡ list_verdict w (broken_q q)
unfolding list_verdict text
broken_line_list w q = refl
