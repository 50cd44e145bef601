-- What No. 3 asks, said of the rows of a net. It is true of the rows of every net that are let through (proofs/Sandboxes.antt).
-- Assumes nothing.
use Rattle.std.specs.Prelude.{◌≡◌, Bool, true, false, List, [], ◌∷◌, ℕ, ◌<◌, eqb, get_or}
use Rattle.std.proofs.Math.Option.{none, some}
use Rattle.sets.specs.Lists.{Elem, ◌&◌, any, same}
use Rattle.sets.specs.Bits.{every_right}
use Rattle.klaim.specs.Limits.{site_limit, box_limit, self_place}
use Rattle.klaim.specs.Process.{Nil}
use Rattle.klaim.specs.Rows.{Row, group_d, at, text, number, towards, rights_field, box_rights_field, row_pair, row_d}
use Rattle.klaim.specs.Net.{box, box_self, box_at}
use Rattle.klaim.specs.Reader.{gives, a_net, read_rows, nth, net_of}

-- "where `-` is the empty set, allowed in D rows only"
pub record Dash : Type 0 where
  -- a D row may have it, towards a site and towards `self`, and has no rights then
  pub box_row : (k : ℕ) (letter fk ft ts : List ℕ) → number fk ≡ some k → towards ft ≡ some ts → row_d (letter ∷ fk ∷ ft ∷ text "-" ∷ []) ≡ some (record { group = group_d; size = 0; boxes = k ∷ []; vars = []; sites = ts; lines = []; rights = 0; process = Nil })
  -- any other field is read as in other rows
  pub letters : (f : List ℕ) → same f (text "-") ≡ false → box_rights_field f ≡ rights_field f
  -- no R and no E row may
  pub pair_row : (group : ℕ) (fs : List (List ℕ)) → at fs 3 ≡ text "-" → row_pair group fs ≡ none

-- the row is one of sandbox k towards t, a site or `self`
unfoldable pub speaks : ℕ → ℕ → Row → Bool
speaks k t r = eqb r.group group_d & eqb (nth r.boxes 0) k & eqb (get_or r.sites 0 self_place) t

-- the sandboxes of the net that the rows say
pub record Sandboxes (rows : List Row) : Type 0 where
  -- "sandbox k (0 to 31) towards t, a site or `self`": it has what its row says
  pub site_row : (k t : ℕ) (r : Row) → Elem r rows → speaks k t r ≡ true → box (net_of rows) k t ≡ r.rights
  pub self_row : (k : ℕ) (r : Row) → Elem r rows → speaks k self_place r ≡ true → box_self (net_of rows) k ≡ r.rights
  -- towards a site, "empty where no row speaks"
  pub no_site_row : (k t : ℕ) → k < box_limit → t < site_limit → any (speaks k t) rows ≡ false → box (net_of rows) k t ≡ 0
  -- "a sandbox with no `self` row has all five rights for `self`"
  pub no_self_row : (k : ℕ) → k < box_limit → any (speaks k self_place) rows ≡ false → box_self (net_of rows) k ≡ every_right
  -- so that agents do not "lose every right at the receiving site": evaluated at any l, it gives each site t the set d(t)
  pub anywhere : (k l t : ℕ) → k < box_limit → t < site_limit → any (speaks k self_place) rows ≡ false → box_at (net_of rows) k l t ≡ box (net_of rows) k t
  -- "Houses that relied on the old default write `D,k,self,-`": evaluated at any l, it gives l itself nothing
  pub closed : (k l : ℕ) (r : Row) → Elem r rows → speaks k self_place r ≡ true → r.rights ≡ 0 → box_at (net_of rows) k l l ≡ 0

-- so it is with the rows of every net, unless one is refused
abbrev pub Statement : Type 0
Statement = (bytes : List ℕ) (rows : List Row) → read_rows a_net bytes ≡ gives rows → Sandboxes rows
