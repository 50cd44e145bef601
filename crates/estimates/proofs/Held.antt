-- The reader of an estimate before its first row, and the estimate behind its last one.
-- Assumes nothing.
use mathlib.Core.Path.{◌≡◌, refl, ap, ◌∙◌}
use mathlib.Core.List.{List, []}
use Prim.Native.Nat.{ℕ}
use lib.ListN.{replicate, take}
use Rattle.sets.specs.Lists.{done, keep, table, table_from}
use Rattle.klaim.specs.Rows.{Row, group_b, group_e}
use Rattle.klaim.specs.Reader.{Text, an_estimate, of_group, estimate_of}
use Rattle.klaim.proofs.Above.{last_none}
use Rattle.tables.specs.View.{row_at, tuples_of, estimate_view}
use Rattle.scan.specs.Tallies.{start_of}
use Rattle.scan.proofs.Progress.{gather_none}
use Rattle.estimates.specs.declared.reading.EstimateReader.{EstimateReader}
use Rattle.estimates.specs.Rows.{EstimateHolds}

pub nothing_held : (n : ℕ) (r : EstimateReader) → r.binds ≡ replicate {A = ℕ} 32 0 → r.hold ≡ replicate {A = ℕ} 1024 0 → r.stand.count ≡ 0 →
    r.tally ≡ start_of n → EstimateHolds (an_estimate n) [] r
unfolding tuples_of of_group keep table table_from
nothing_held n r b h i t = record {
  n = n;
  text = refl;
  tables = record {
    binds_is = b ∙ gather_none 32 _ _ group_b;
    stand_is = ap (λ (k : ℕ). table k (row_at r.stand)) i;
    hold_is = h ∙ gather_none 1024 _ _ group_e;
    keys_are = record { is = ap (λ (k : ℕ). take k r.keys.items) (r.keyed ∙ i) };
  };
  counts = record { kept = done; owned = done; order = λ x. rw t (last_none x); size_is = rw t };
}

pub estimate_is : {t : Text} {rows : List Row} {r : EstimateReader} → EstimateHolds t rows r →
    estimate_view (record { binds = r.binds; stand = r.stand; hold = r.hold }) ≡ estimate_of rows
unfolding estimate_of
estimate_is H = rw (H.tables.binds_is, H.tables.stand_is, H.tables.hold_is)
