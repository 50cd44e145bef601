-- The listing of an accepted net is the one of document 01, the counts being those of its sites.
-- Assumes nothing.
use mathlib.Core.Path.{◌≡◌, refl, ap}
use mathlib.Core.List.{List, [], ◌∷◌}
use Prim.Native.Nat.{ℕ, ◌<◌, ◌≤◌}
use native.Mathlib.Omega.{arith}
use native.Mathlib.Decide.{dec_lt}
use lib.ListN.{get_or, get_or-eq_default}
use Rattle.sets.specs.Lists.{◌⧺◌, concat, below, table}
use Rattle.sets.proofs.Tables.{length_table, get_or_table}
use Rattle.sets.proofs.Runs.{concat_same}
use Rattle.klaim.specs.Reader.{World}
use Rattle.klaim.specs.Analysis.{accepted}
use Rattle.klaim.specs.Report.{report}
use Rattle.klaim.specs.Listing.{numeral, row, home_count, used_count, row_u, list_verdict, reported, rows_v}
use Rattle.counts.proofs.Bounds.{held_most, used_most}
use Rattle.listing.specs.Lines.{line_u, lines_u, accepted_list, Counts}

-- what a table has at most, where its function has
at_most : (f : ℕ → ℕ) (k : ℕ) → ((s : ℕ) → f s ≤ k) → (s : ℕ) → get_or (table 32 f) s 0 ≤ k
at_most f k h s = go (dec_lt s 32)
  where
    go : Dec (s < 32) → get_or (table 32 f) s 0 ≤ k
    go (yes p) = omega (arith, get_or_table 32 f s 0 p, h s)
    go (no p) = omega (arith, get_or-eq_default (table 32 f) 0 {n = s} (omega (arith, length_table 32 f)))

within : (f g : ℕ → ℕ) → ((s : ℕ) → f s ≤ g s) → (s : ℕ) → get_or (table 32 f) s 0 ≤ get_or (table 32 g) s 0
within f g h s = go (dec_lt s 32)
  where
    go : Dec (s < 32) → get_or (table 32 f) s 0 ≤ get_or (table 32 g) s 0
    go (yes p) = omega (arith, get_or_table 32 f s 0 p, get_or_table 32 g s 0 p, h s)
    go (no p) = omega (arith, get_or-eq_default (table 32 f) 0 {n = s} (omega (arith, length_table 32 f)))

module _ (w : World) where
  -- the counts of its sites are within limits
  pub counts_tables : Counts (table 32 (home_count w.net)) (table 32 (used_count w))
  counts_tables = record {
    held_long = length_table 32 (home_count w.net);
    used_long = length_table 32 (used_count w);
    held_most = at_most (home_count w.net) 160 (held_most w.net);
    used_most = within (used_count w) (home_count w.net) (used_most w);
  }

  pub lines_rows : (n : ℕ) → n ≤ 32 → lines_u (table 32 (home_count w.net)) (table 32 (used_count w)) n ≡ concat (row_u w) (below n)
  unfolding lines_u line_u row_u
  lines_rows n h =
      concat_same (λ s. line_u s (get_or (table 32 (home_count w.net)) s 0) (get_or (table 32 (used_count w)) s 0)) (row_u w) n
      (λ s k. rw (get_or_table 32 (home_count w.net) s 0 (omega arith), get_or_table 32 (used_count w) s 0 (omega arith)) refl)

  pub accepted_list_lem : w.net.size ≤ 32 → accepted_list (report w.net w.estimate) (table 32 (home_count w.net)) (table 32 (used_count w)) w.net.size ≡ list_verdict w accepted
  unfolding accepted_list list_verdict
  accepted_list_lem h =
      let r = report w.net w.estimate in
      ap (λ (l : List ℕ). row "accepted" (numeral (reported r) ∷ []) ⧺ (rows_v r ⧺ l)) (lines_rows w.net.size h)
