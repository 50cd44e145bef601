-- Laws of the use maps of a site's roots.
-- Assumes nothing.
use mathlib.Core.Path.{◌≡◌, refl, sym, ap, ◌∙◌}
use mathlib.Core.Bool.{Bool}
use mathlib.Core.List.{List}
use Prim.Native.Nat.{ℕ, ◌^◌}
use borrow.Author.Tests.{eq-eqb, ne_eqb}
use lib.Dec.{eqb}
use lib.ListN.{get_or}
use Rattle.sets.specs.Lists.{table}
use Rattle.sets.specs.Bits.{join, grant, joins}
use Rattle.sets.proofs.Tables.{same_table, get_or_table}
use Rattle.klaim.specs.Process.{tree}
use Rattle.klaim.specs.Net.{Root, Net, Estimate, holds}
use Rattle.klaim.specs.Reader.{World}
use Rattle.klaim.specs.Analysis.{place_set, process}
use Rattle.klaim.specs.Report.{uses}
use Rattle.klaim.specs.Listing.{usable}

-- a root at site s or elsewhere
module _ (N : Net) (E : Estimate) (root : Root) (s : ℕ) where
  pub root_here : {P : ℕ} → P ≡ 2 ^ s → root.site ≡ s
      → table 32 (uses N E P (tree N.lines root.line)) ≡ table 32 (λ t. grant (eqb root.site s) (uses N E (place_set s) (process N root) t))
  unfolding place_set grant
  root_here p h = rw (p, eq-eqb root.site s h) refl

  pub root_away : (root.site ≡ s → ⊥) → table 32 (λ t. 0) ≡ table 32 (λ t. grant (eqb root.site s) (uses N E (place_set s) (process N root) t))
  unfolding grant
  root_away h = ap (λ (b : Bool). table 32 (λ t. grant b (uses N E (place_set s) (process N root) t))) (sym (ne_eqb root.site s h))

-- the usable rights of a site, from its use maps
pub usable_table : (w : World) (s : ℕ) {a : List ℕ} → a ≡ table 32 (λ t. joins (λ x. grant (eqb x.site s) (uses w.net w.estimate (place_set s) (process w.net x) t)) w.net.roots) → table 32 (λ t. join (get_or a t 0) (holds w.estimate s t)) ≡ table 32 (usable w s)
unfolding usable
usable_table w s e = same_table 32 _ _ 0 (λ t h. ap (λ (x : ℕ). join x (holds w.estimate s t)) (ap (λ (l : List ℕ). get_or l t 0) e ∙ get_or_table 32 _ t 0 h))
