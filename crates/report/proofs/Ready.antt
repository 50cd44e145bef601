-- What a net and an estimate that were read meet: the conditions of `report`.
-- Assumes nothing.
use Prim.Native.Nat.{ℕ, ◌<◌}
use native.Mathlib.Omega.{arith}
use Rattle.sets.proofs.Lists.{All-in}
use Rattle.sets.proofs.Tables.{table_in}
use Rattle.klaim.specs.WellFormed.{RootOk, NetOk}
use Rattle.tables.specs.declared.Net.{Net}
use Rattle.tables.specs.View.{root_at, roots_of, net_view}
use Rattle.tables.proofs.LineTable.{lines_long}
use Rattle.report.specs.Given.{Rooted}

root_ok : (N : Net) → NetOk (net_view N) → (i : ℕ) → i < N.roots.count → RootOk (net_view N) (root_at N.roots i)
unfolding roots_of
root_ok N ok i h = All-in ok.roots_ok (table_in N.roots.count (root_at N.roots) i h)

pub rooted : (N : Net) → NetOk (net_view N) → Rooted N.lines N.roots
rooted N ok = record {
  in_order = ok.lines_ordered;
  placed = λ i h. omega (arith, (root_ok N ok i h).placed, ok.sites_few);
  present = λ i h. omega (arith, (root_ok N ok i h).present, lines_long N.lines);
}
