-- The invariant: n is the value of the digits that were passed.
-- Assumes nothing.
use mathlib.Core.Path.{◌≡◌}
use Prim.Native.Nat.{◌<◌, ◌≤◌}
use lib.ListN.{drop}
use Rattle.sets.specs.Lists.{all}
use Rattle.klaim.specs.Rows.{digit, decimal}
use Rattle.text.proofs.number.Given as goal

abbrev pub invariant-loop-b : goal.invariant-loop-b
invariant-loop-b l = record {
  digits : all digit l.f ≡ all digit (drop l.b-index l.f);
  value : decimal 0 l.f ≡ decimal l.n (drop l.b-index l.f);
  none_low : l.b-index ≤ 0 → l.n < 1;
  one_low : l.b-index ≤ 1 → l.n < 10;
  two_low : l.b-index ≤ 2 → l.n < 100;
}
