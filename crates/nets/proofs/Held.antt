-- The reader of a net before its first row.
-- Assumes nothing.
use mathlib.Core.Path.{◌≡◌, refl, ap, ◌∙◌}
use mathlib.Core.List.{[]}
use Prim.Native.Nat.{ℕ}
use lib.ListN.{replicate, take}
use Rattle.sets.specs.Lists.{done, keep, empty, table, table_from, below, same}
use Rattle.klaim.specs.Rows.{group_r}
use Rattle.klaim.specs.Reader.{a_net, of_group, size_of, put_boxes, numbers_of, lines_of}
use Rattle.klaim.proofs.Above.{last_none}
use Rattle.tables.specs.View as View
use Rattle.tables.specs.View.{tuples_of, roots_of}
use Rattle.scan.specs.Tallies.{start_of}
use Rattle.scan.proofs.Progress.{gather_none}
use Rattle.repeats.specs.Kept.{unsaid_boxes}
use Rattle.nets.specs.declared.reading.NetReader.{NetReader}
use Rattle.nets.specs.Rows.{NetHolds}

none : {A : Type 0} {n : ℕ} (f : ℕ → A) → n ≡ 0 → table n f ≡ []
unfolding table table_from
none f h = rw h refl

pub nothing_held : (r : NetReader) → r.homes ≡ replicate {A = ℕ} 1024 0 → r.boxes ≡ unsaid_boxes → r.tuples.count ≡ 0 → r.roots.count ≡ 0 →
    r.lines.count ≡ 0 → r.tally ≡ start_of 0 → NetHolds a_net [] r
unfolding tuples_of roots_of View.lines_of lines_of of_group keep put_boxes table table_from size_of numbers_of below same empty
nothing_held r h b i j q t = record {
  text = refl;
  tables = record {
    homes_is = h ∙ gather_none 1024 _ _ group_r;
    boxes_is = b;
    tuples_is = none (View.row_at r.tuples) i;
    roots_is = none (View.root_at r.roots) j;
    lines_is = none (View.line_of r.lines) q;
    keys_are = record { is = ap (λ (n : ℕ). take n r.keys.items) (r.keyed ∙ i) };
  };
  counts = record { kept = done; owned = done; size_is = rw t; order = λ x. rw t (last_none x); turn = rw t; first = rw t };
}
