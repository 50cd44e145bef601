-- The reader of an arrival before its first row, and the arrival behind its last one.
-- Assumes nothing.
use mathlib.Core.Path.{◌≡◌, refl, sym, ap, ap₂, ◌∙◌}
use mathlib.Core.List.{List, [], ◌∷◌, ◌++◌, map}
use Prim.Native.Nat.{ℕ, ◌+◌}
use native.Mathlib.Omega.{arith}
use lib.ListN.{set}
use Rattle.sets.specs.Lists.{done, keep, table, table_from, below, same}
use Rattle.klaim.specs.Process.{Line}
use Rattle.klaim.specs.Rows.{Row}
use Rattle.klaim.specs.Reader.{Text, an_arrival, of_group, whole, numbers_of, lines_of}
use Rattle.klaim.specs.Net.{Root}
use Rattle.tables.specs.View as View
use Rattle.tables.specs.View.{Roots, no_root, roots_of}
use Rattle.entries.proofs.Pushed.{root_pushed}
use Rattle.scan.specs.Tallies.{start_of}
use Rattle.whole.specs.Reasons.{whole_of, whole_answer}
use Rattle.whole.proofs.Reasons.{whole_is}
use Rattle.arrivals.specs.declared.reading.ArrivalReader.{ArrivalReader}
use Rattle.arrivals.specs.Rows.{ArrivalHolds}

pub nothing_held : (n d : ℕ) (r : ArrivalReader) → r.present ≡ d → r.lines.count ≡ 0 → r.tally ≡ start_of n → ArrivalHolds (an_arrival n d) [] r
unfolding View.lines_of lines_of numbers_of of_group keep table table_from below same
nothing_held n d r p i t = record {
  n = n;
  text = rw p;
  counts = record { owned = done; lines_is = ap (λ (k : ℕ). table k (View.line_of r.lines)) i; turn = rw t; size_is = rw t };
}

-- one root, at line 0
pub root_zero : (none one : Roots) → none.count ≡ 0 → one.items ≡ set none.items none.count no_root → one.count ≡ none.count + 1 →
    map (λ x. x.line) (roots_of one) ≡ 0 ∷ []
unfolding roots_of table table_from
root_zero none one z i n =
    ap (map (λ x. x.line)) (root_pushed none one no_root (omega arith) i n refl ∙ ap (λ (k : ℕ). table k (View.root_at none) ++ (View.root_view no_root ∷ [])) z)

-- "Then 5, 6, 8, each over the whole text."
pub arrival_is : {t : Text} {rows : List Row} {r : ArrivalReader} (roots : List Root) → ArrivalHolds t rows r → map (λ x. x.line) roots ≡ 0 ∷ [] →
    whole_answer (whole_of r.tally.turn (View.lines_of r.lines) (map (λ x. x.line) roots)) (View.lines_of r.lines) ≡ whole (numbers_of rows) (lines_of rows) (0 ∷ []) (lines_of rows)
arrival_is {rows = rows} {r = r} roots H z =
    ap₂ (λ (ns : List ℕ) (ls : List Line). whole_answer (whole_of r.tally.turn ls ns) ls) z H.counts.lines_is
    ∙ sym (whole_is r.tally.turn (numbers_of rows) (lines_of rows) (0 ∷ []) (lines_of rows) H.counts.turn)
