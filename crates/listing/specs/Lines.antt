-- The V row of one byte of a report, and the U rows from tables of counts.
-- Assumes nothing.
use Rattle.std.specs.Prelude.{◌≡◌, not, List, [], ◌∷◌, ℕ, ◌/◌, ◌%◌, ◌≤◌, eqb, length, get_or}
use Rattle.sets.specs.Lists.{only, concat, below, ◌⧺◌}
use Rattle.klaim.specs.Listing.{numeral, site_name, letters, row, share, reported, rows_v}

-- the row of byte i, if it has a right
unfoldable pub entry_v : ℕ → ℕ → List ℕ
entry_v i m = concat (λ j. row "V" (site_name (j / 32) ∷ site_name (j % 32) ∷ letters m ∷ [])) (only (not (eqb m 0)) i)

-- the row of a site that holds p rights and uses q of them
unfoldable pub line_u : ℕ → ℕ → ℕ → List ℕ
line_u s p q = row "U" (site_name s ∷ numeral p ∷ numeral q ∷ numeral (share p q) ∷ [])

-- the rows of the sites below n
unfoldable pub lines_u : List ℕ → List ℕ → ℕ → List ℕ
lines_u held used n = concat (λ s. line_u s (get_or held s 0) (get_or used s 0)) (below n)

-- the listing of an accepted net from its report and its counts
unfoldable pub accepted_list : List ℕ → List ℕ → List ℕ → ℕ → List ℕ
accepted_list report held used n = row "accepted" (numeral (reported report) ∷ []) ⧺ (rows_v report ⧺ lines_u held used n)

-- counts of 32 sites: five rights towards each of 32 sites at most, and no more used than held
pub record Counts (held used : List ℕ) : Type 0 where
  pub held_long : length held ≡ 32
  pub used_long : length used ≡ 32
  pub held_most : (s : ℕ) → get_or held s 0 ≤ 160
  pub used_most : (s : ℕ) → get_or used s 0 ≤ get_or held s 0
