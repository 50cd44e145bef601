-- Lines in order, with roots among them.
-- Assumes nothing.
use Rattle.std.specs.Prelude.{◌≡◌, true, map, ltb}
use Rattle.sets.specs.Lists.{all}
use Rattle.klaim.specs.Process.{ordered}
use Rattle.tables.specs.View.{Lines, Roots, lines_of, roots_of}

pub record RootsIn (ls : Lines) (rs : Roots) : Type 0 where
  pub in_order : ordered (lines_of ls) ≡ true
  pub present : all (λ q. ltb q ls.count) (map (λ x. x.line) (roots_of rs)) ≡ true
