-- A template and what its `!u` may become, as sets of sites: one set for the target and for each field.
-- Assumes nothing.
use Rattle.std.specs.Prelude.{◌≡◌, true, List, ℕ}
use Rattle.sets.specs.Lists.{all}
use Rattle.klaim.specs.declared.Slot.{Slot}
use Rattle.klaim.specs.declared.Slot.TheVariants.{Value, Bind, Wildcard}
use Rattle.klaim.specs.Net.{Estimate, may}
use Rattle.klaim.specs.Analysis.{reach}
use Rattle.klaim.specs.Invariant.{all_below, distinct}
use Rattle.tables.specs.View.{Tuples, tuples_of}
use Rattle.matching.specs.Index.{Indexed}

-- all sites
abbrev pub any_site : ℕ
any_site = 4294967295

-- what a field agrees with: a value's reach, and `!u` and `_` any site
unfoldable pub wanted : Estimate → ℕ → Slot → ℕ
wanted E P (Value x) = reach E P x
wanted E P (Bind u) = any_site
wanted E P Wildcard = any_site

-- what a row's field may be: for `!u` what u may become, else any site
unfoldable pub allowed : Estimate → Slot → ℕ
allowed E (Value x) = any_site
allowed E (Bind u) = may E u.0
allowed E Wildcard = any_site

-- rows as the reader leaves them: of sites, no two alike
pub record Sized (rows : Tuples) : Type 0 where
  pub alone : distinct (tuples_of rows) ≡ true
  pub low : all (all_below 32) (tuples_of rows) ≡ true

-- t is the index of the A rows of E
pub record IndexOf (E : Estimate) (t : List ℕ) : Type 0 where
  pub rows : Tuples
  pub stand : E.stand ≡ tuples_of rows
  pub sized : Sized rows
  pub made : Indexed rows t
