-- What 2 leaves of the numbers of a row of each group.
-- Assumes nothing.
use mathlib.Core.Path.{◌≡◌}
use mathlib.Core.Bool.{true}
use mathlib.Core.List.{[]}
use Prim.Native.Nat.{ℕ, ◌≤◌, ◌<◌}
use native.Mathlib.Omega.{arith}
use lib.Dec.{ltb}
use lib.ListN.{get_or}
use borrow.Author.Tests.{leb-true}
use Rattle.sets.specs.Lists.{imp, all}
use Rattle.sets.proofs.Lists.{and_l, and_r, low_first, low_rest}
use Rattle.klaim.specs.Reader.{in_limits}
use Rattle.klaim.proofs.Within.{within}
use Rattle.text.specs.declared.Toward.{Toward}
use Rattle.text.specs.declared.Toward.TheVariants.{Site, Own}
use Rattle.text.specs.Fields.{sites_to}
use Rattle.forms.specs.declared.rows.Pair.{Pair}
use Rattle.forms.specs.declared.rows.Sandbox.{Sandbox}
use Rattle.forms.specs.declared.rows.Tuple.{Tuple}
use Rattle.forms.specs.declared.rows.Root.{Root}
use Rattle.forms.specs.declared.rows.Bound.{Bound}
use Rattle.forms.specs.Forms.{sites_of, size_data, pair_data, box_data, tuple_data, root_data, bound_data}

pub size_low : (n : ℕ) → in_limits (size_data n) ≡ true → (1 ≤ n) × (n ≤ 32)
unfolding in_limits size_data imp
size_low n h = let s = and_l _ _ h in (leb-true 1 n (and_l _ _ s), leb-true n 32 (and_r _ _ s))

pub pair_low : (g : ℕ) (p : Pair) → in_limits (pair_data g p) ≡ true → (p.from < 32) × (p.to < 32)
unfolding pair_data
pair_low g p h = let l = (within (pair_data g p) h).sites_low in (low_first 32 p.from _ l, low_first 32 p.to [] (low_rest 32 p.from _ l))

toward_low : (t : Toward) → all (λ s. ltb s 32) (sites_to t) ≡ true → get_or (sites_to t) 0 32 ≤ 32
unfolding sites_to
toward_low (Site s) h = omega (arith, low_first 32 s [] h)
toward_low Own h = omega arith

pub sandbox_low : (b : Sandbox) → in_limits (box_data b) ≡ true → (b.number < 32) × (get_or (sites_to b.toward) 0 32 ≤ 32)
unfolding box_data
sandbox_low b h = let W = within (box_data b) h in (low_first 32 b.number [] W.boxes_low, toward_low b.toward W.sites_low)

pub tuple_low : (g : ℕ) (t : Tuple) → in_limits (tuple_data g t) ≡ true → all (λ s. ltb s 32) (sites_of t) ≡ true
unfolding tuple_data
tuple_low g t h = (within (tuple_data g t) h).sites_low

pub root_low : (r : Root) → in_limits (root_data r) ≡ true → (r.site < 32) × (r.line < 256)
unfolding root_data
root_low r h = let W = within (root_data r) h in (low_first 32 r.site [] W.sites_low, low_first 256 r.line [] W.lines_low)

pub bound_low : (b : Bound) → in_limits (bound_data b) ≡ true → (b.variable < 32) × (b.site < 32)
unfolding bound_data
bound_low b h = let W = within (bound_data b) h in (low_first 32 b.variable [] W.vars_low, low_first 32 b.site [] W.sites_low)
