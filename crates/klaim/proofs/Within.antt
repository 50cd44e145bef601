-- What 2 leaves of the numbers of a row.
-- Assumes nothing.
use mathlib.Core.Path.{◌≡◌}
use mathlib.Core.Bool.{true}
use lib.Dec.{ltb}
use Rattle.sets.specs.Lists.{all}
use Rattle.sets.proofs.Lists.{and_l, and_r}
use Rattle.klaim.specs.Limits.{site_limit, box_limit, var_limit, line_limit}
use Rattle.klaim.specs.Rows.{Row}
use Rattle.klaim.specs.Reader.{in_limits}

pub record Within (R : Row) : Type 0 where
  pub boxes_low : all (λ k. ltb k box_limit) R.boxes ≡ true
  pub vars_low : all (λ u. ltb u var_limit) R.vars ≡ true
  pub sites_low : all (λ s. ltb s site_limit) R.sites ≡ true
  pub lines_low : all (λ q. ltb q line_limit) R.lines ≡ true

pub within : (R : Row) → in_limits R ≡ true → Within R
unfolding in_limits
within R h =
    let b = and_r _ _ h in
    let v = and_r _ _ b in
    let s = and_r _ _ v in
    record { boxes_low = and_l _ _ b; vars_low = and_l _ _ v; sites_low = and_l _ _ s; lines_low = and_r _ _ s }
