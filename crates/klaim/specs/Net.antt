-- A net and an estimate as read: T, L, Q and A rows as lists in order; R, D, B and E rows as tables.
-- Assumes nothing.
use Rattle.std.specs.Prelude.{cond, List, ℕ, eqb, get_or}
use Rattle.sets.specs.Bits.{meet}
use Rattle.klaim.specs.Limits.{pair_index, box_index, self_place}
use Rattle.klaim.specs.Process.{Line}

-- "`L,s,q`: process line q runs at s under the home policy"
pub record Root : Type 0 where
  pub site : ℕ
  pub line : ℕ

-- N; R rows, byte 32 × s + t; D rows, byte 33 × k + t, `self` counting as t = 32; T rows, the site first; L rows; Q rows
pub record Net : Type 0 where
  pub size : ℕ
  pub homes : List ℕ
  pub boxes : List ℕ
  pub tuples : List (List ℕ)
  pub roots : List Root
  pub lines : List Line

-- B rows, a set of sites for each variable; A rows, the site first; E rows, byte 32 × s + t
pub record Estimate : Type 0 where
  pub binds : List ℕ
  pub stand : List (List ℕ)
  pub hold : List ℕ

-- "home policy of site s towards t", "empty where no row speaks"
unfoldable pub home : Net → ℕ → ℕ → ℕ
home N s t = get_or N.homes (pair_index s t) 0

-- "sandbox k (0 to 31) towards t": d(t)
unfoldable pub box : Net → ℕ → ℕ → ℕ
box N k t = get_or N.boxes (box_index k t) 0

-- "A sandbox may also have a row for `self`": d(self); where it has none, the reader has put in all rights (No. 3)
unfoldable pub box_self : Net → ℕ → ℕ
box_self N k = get_or N.boxes (box_index k self_place) 0

-- "Evaluated at site l, sandbox d gives site t the set d(t), but gives l itself d(l) ∩ d(self)."
unfoldable pub box_at : Net → ℕ → ℕ → ℕ → ℕ
box_at N k l t = cond (eqb t l) (meet (box N k t) (box_self N k)) (box N k t)

-- "`B,u,s` (u may become s)": the sites that u may become
unfoldable pub may : Estimate → ℕ → ℕ
may E u = get_or E.binds u 0

-- "`E,s,t,rights` (sandboxes at s may hold these towards t)"
unfoldable pub holds : Estimate → ℕ → ℕ → ℕ
holds E s t = get_or E.hold (pair_index s t) 0
