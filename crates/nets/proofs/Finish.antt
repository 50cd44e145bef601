-- The net that the rows say, or why the text as a whole is refused.
-- Assumes nothing.
use mathlib.Core.Path.{◌≡◌, sym, ap, ap₂, ◌∙◌}
use mathlib.Core.Bool.{Bool, true, false, cond}
use mathlib.Core.List.{List, map}
use Prim.Native.Nat.{ℕ}
use Rattle.sets.specs.Lists.{empty}
use Rattle.klaim.specs.Rows.{Row}
use Rattle.klaim.specs.Reader.{a_net, refused, whole, numbers_of, lines_of, net_of, whole_net}
use Rattle.tables.specs.declared.Net.{Net}
use Rattle.tables.specs.View as View
use Rattle.tables.specs.View.{roots_of, net_view}
use Rattle.whole.specs.Reasons.{whole_of, whole_answer}
use Rattle.whole.proofs.Reasons.{whole_is}
use Rattle.nets.specs.declared.reading.NetReader.{NetReader}
use Rattle.nets.specs.Defaults.{with_own, cleared}
use Rattle.nets.specs.Rows.{NetHolds}
use Rattle.nets.proofs.Defaults.{defaults_put}

-- "An empty net is 3, row 1."
pub empty_net : (rows : List Row) → empty rows ≡ true → refused 3 1 ≡ whole_net rows
unfolding whole_net
empty_net rows e = rw e

-- the net of the tables
abbrev pub read_off : NetReader → Net
read_off r = record {
  size = r.tally.size;
  homes = r.homes;
  boxes = cleared (with_own r.boxes);
  tuples = r.tuples;
  roots = r.roots;
  lines = r.lines;
}

module _ {rows : List Row} {r : NetReader} (H : NetHolds a_net rows r) where
  tables_say : net_view (read_off r) ≡ net_of rows
  unfolding net_of
  tables_say = rw (sym H.counts.size_is, H.tables.homes_is, ap (λ (t : List ℕ). cleared (with_own t)) H.tables.boxes_is ∙ defaults_put H.counts.kept, H.tables.tuples_is, H.tables.roots_is, H.tables.lines_is)

  lines_say : whole_of r.tally.turn (View.lines_of r.lines) (map (λ x. x.line) (roots_of r.roots)) ≡ whole_of r.tally.turn (lines_of rows) (map (λ x. x.line) (net_of rows).roots)
  unfolding net_of
  lines_say = ap₂ (whole_of r.tally.turn) H.tables.lines_is (ap (map (λ x. x.line)) H.tables.roots_is)

  -- "Then 5, 6, 8, each over the whole text."
  pub net_is : empty rows ≡ false →
      whole_answer (whole_of r.tally.turn (View.lines_of r.lines) (map (λ x. x.line) (roots_of r.roots))) (net_view (read_off r)) ≡ whole_net rows
  unfolding whole_net
  net_is e =
      ap₂ whole_answer lines_say tables_say
      ∙ sym (whole_is r.tally.turn (numbers_of rows) (lines_of rows) (map (λ x. x.line) (net_of rows).roots) (net_of rows) H.counts.turn)
      ∙ ap (λ (b : Bool). cond b (refused 3 1) (whole (numbers_of rows) (lines_of rows) (map (λ r. r.line) (net_of rows).roots) (net_of rows))) (sym e)
