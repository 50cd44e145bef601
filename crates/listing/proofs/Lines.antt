-- Laws of the V rows and the U rows: one more at the end, and how long each is.
-- Assumes nothing.
use mathlib.Core.Path.{◌≡◌, refl, ap, ◌∙◌}
use mathlib.Core.Bool.{Bool, true, false, not}
use mathlib.Core.List.{List, [], ◌∷◌}
use Prim.Native.Nat.{ℕ, ◌+◌, ◌/◌, ◌%◌, ◌<◌, ◌≤◌}
use native.Mathlib.Omega.{arith}
use native.Mathlib.Decide.{ℕ_discrete}
use lib.Dec.{eqb}
use lib.ListN.{length, get_or}
use borrow.Author.Tests.{ne_eqb}
use Rattle.sets.specs.Lists.{◌⧺◌, only, keep, concat, below, table, table_from}
use Rattle.sets.proofs.Runs.{concat_below, concat_keep, concat_one}
use Rattle.klaim.specs.Listing.{site_name, letters, row, share, row_v, rows_v}
use Rattle.klaim.proofs.Share.{share_most}
use Rattle.rows.proofs.Rows.{v_short, u_short}
use Rattle.listing.specs.Lines.{entry_v, line_u, lines_u}

-- a byte with no right, and with one
pub entry_none : (i m : ℕ) → m ≡ 0 → entry_v i m ≡ []
unfolding entry_v only concat
entry_none i m h = rw h

pub entry_some : (i m : ℕ) → (m ≡ 0 → ⊥) → entry_v i m ≡ row "V" (site_name (i / 32) ∷ site_name (i % 32) ∷ letters m ∷ [])
unfolding entry_v only
entry_some i m h = rw (ne_eqb m 0 h) (concat_one (λ j. row "V" (site_name (j / 32) ∷ site_name (j % 32) ∷ letters m ∷ [])) i)

pub entry_short : (i m : ℕ) → i < 1024 → length (entry_v i m) ≤ 16
entry_short i m h = go (ℕ_discrete m 0)
  where
    go : Dec (m ≡ 0) → length (entry_v i m) ≤ 16
    go (yes e) = omega (arith, ap length (entry_none i m e))
    go (no e) = omega (arith, ap length (entry_some i m e), v_short (i / 32) (i % 32) m (omega arith) (omega arith))

-- the V rows of the bytes below i
abbrev pub rows_to : List ℕ → ℕ → List ℕ
rows_to bytes i = concat (row_v bytes) (keep (λ j. not (eqb (get_or bytes j 0) 0)) (below i))

pub rows_none : (bytes : List ℕ) → rows_to bytes 0 ≡ []
unfolding below table table_from keep concat
rows_none bytes = refl

one : (bytes : List ℕ) (i : ℕ) (b : Bool) → concat (row_v bytes) (only b i) ≡ concat (λ j. row "V" (site_name (j / 32) ∷ site_name (j % 32) ∷ letters (get_or bytes i 0) ∷ [])) (only b i)
unfolding row_v concat only
one bytes i true = refl
one bytes i false = refl

pub rows_more : (bytes : List ℕ) (i : ℕ) → rows_to bytes (i + 1) ≡ rows_to bytes i ⧺ entry_v i (get_or bytes i 0)
unfolding entry_v
rows_more bytes i = concat_keep (row_v bytes) (λ j. not (eqb (get_or bytes j 0) 0)) i ∙ ap (λ (l : List ℕ). rows_to bytes i ⧺ l) (one bytes i (not (eqb (get_or bytes i 0) 0)))

pub rows_all : (bytes : List ℕ) → rows_to bytes 1024 ≡ rows_v bytes
unfolding rows_v
rows_all bytes = refl

pub line_short : (s p q : ℕ) → s < 32 → q ≤ p → p ≤ 160 → length (line_u s p q) ≤ 19
unfolding line_u
line_short s p q h k l = u_short s p q (share p q) h (omega arith) (omega arith) (omega (arith, share_most p q k))

pub lines_none : (held used : List ℕ) → lines_u held used 0 ≡ []
unfolding lines_u below table table_from concat
lines_none held used = refl

pub lines_more : (held used : List ℕ) (s : ℕ) → lines_u held used (s + 1) ≡ lines_u held used s ⧺ line_u s (get_or held s 0) (get_or used s 0)
unfolding lines_u
lines_more held used s = concat_below (λ s. line_u s (get_or held s 0) (get_or used s 0)) s
