-- Well-formed: what the tests 1 to 8 leave of a net, of an estimate and of an arrival (proofs/Reader.antt).
-- Assumes nothing.
use Rattle.std.specs.Prelude.{◌≡◌, true, List, map, ℕ, ◌+◌, ◌<◌, ◌≤◌, length}
use Rattle.sets.specs.Lists.{All, all, empty}
use Rattle.klaim.specs.Limits.{site_limit, var_limit, tuple_limit, thread_limit, line_limit, policy_size, boxes_size}
use Rattle.klaim.specs.Process.{Line, ordered, tree, free}
use Rattle.klaim.specs.Net.{Root, Net, Estimate}
use Rattle.klaim.specs.Reader.{named_once}
use Rattle.klaim.specs.Invariant.{all_below, line_fits, distinct}

-- a root stands at a site, on a line, and has no free variable
pub record RootOk (N : Net) (r : Root) : Type 0 where
  pub placed : r.site < N.size
  pub present : r.line < length N.lines
  pub closed : empty (free (tree N.lines r.line)) ≡ true

-- what 1 to 8 leave of a net
pub record NetOk (N : Net) : Type 0 where
  pub sites_some : 1 ≤ N.size
  pub sites_few : N.size ≤ site_limit
  pub homes_long : length N.homes ≡ policy_size
  pub boxes_long : length N.boxes ≡ boxes_size
  pub tuples_few : length N.tuples ≤ tuple_limit
  pub tuples_fit : all (all_below N.size) N.tuples ≡ true
  pub roots_few : length N.roots ≤ thread_limit
  pub roots_ok : All (RootOk N) N.roots
  pub lines_few : length N.lines ≤ line_limit
  pub lines_ordered : ordered N.lines ≡ true
  pub lines_fit : all (line_fits N.size) N.lines ≡ true
  pub each_named_once : named_once N.lines (map (λ r. r.line) N.roots) ≡ true

-- what 1 to 4 leave of an estimate, among n sites
pub record EstimateOk (n : ℕ) (E : Estimate) : Type 0 where
  pub binds_long : length E.binds ≡ var_limit
  pub stand_few : length E.stand ≤ tuple_limit
  pub stand_fit : all (all_below n) E.stand ≡ true
  pub stand_distinct : distinct E.stand ≡ true
  pub hold_long : length E.hold ≡ policy_size

-- what 1 to 8 leave of an arrival, among n sites and behind d lines
pub record ArrivalRead (n d : ℕ) (ls : List Line) : Type 0 where
  pub some_line : 0 < length ls
  pub few : d + length ls ≤ line_limit
  pub lines_ordered : ordered ls ≡ true
  pub lines_fit : all (line_fits n) ls ≡ true
  pub closed : empty (free (tree ls 0)) ≡ true
