-- What a row of each group shows: its key, its place in a table, its numbers within their limits.
-- Assumes nothing.
use mathlib.Core.Path.{◌≡◌, refl, sym, ap, subst, ◌∙◌}
use mathlib.Core.Bool.{true}
use mathlib.Core.List.{List, [], ◌∷◌}
use Prim.Native.Nat.{ℕ, ◌+◌, ◌*◌, ◌<◌, ◌≤◌}
use native.Mathlib.Omega.{arith}
use lib.ListN.{length}
use Rattle.sets.specs.Lists.{◌⧺◌}
use Rattle.sets.proofs.Runs.{cat_none}
use Rattle.klaim.specs.Rows.{Row, group_d, group_l, group_b}
use Rattle.klaim.specs.Reader.{in_limits, key, nth, pair_place, root_of}
use Rattle.klaim.proofs.BoxRows.{BoxShaped}
use Rattle.text.specs.declared.Toward.{Toward}
use Rattle.text.specs.declared.Toward.TheVariants.{Site, Own}
use Rattle.text.specs.Fields.{unsaid, sites_to}
use Rattle.forms.specs.declared.rows.Pair.{Pair}
use Rattle.forms.specs.declared.rows.Sandbox.{Sandbox}
use Rattle.forms.specs.declared.rows.Tuple.{Tuple}
use Rattle.forms.specs.declared.rows.Root.{Root}
use Rattle.forms.specs.declared.rows.Bound.{Bound}
use Rattle.forms.specs.declared.rows.Row as Form
use Rattle.forms.specs.Forms.{pair_group, tuple_group, sites_of, pair_data, box_data, tuple_data, root_data, bound_data, row_data}
use Rattle.forms.proofs.Groups.{as_pair, as_sandbox, as_tuple, as_root, as_bound}
use Rattle.judge.proofs.Limits.{pair_low, root_low, bound_low}
use Rattle.repeats.specs.Kept.{Kept}

-- R and E rows
pub record PairRow (s t : ℕ) (x : Row) : Type 0 where
  pub keyed : key x ≡ x.group ∷ s ∷ t ∷ []
  pub placed : pair_place x ≡ 32 * s + t
  pub some : 0 < x.rights
  pub s_low : s < 32
  pub t_low : t < 32

-- D rows
pub record BoxRow (x : Row) : Type 0 where
  pub shaped : BoxShaped x
  pub low : in_limits x ≡ true
  pub said : x.rights < unsaid

-- B rows
pub record BoundRow (u s : ℕ) (x : Row) : Type 0 where
  pub keyed : key x ≡ x.group ∷ u ∷ s ∷ []
  pub var_is : nth x.vars 0 ≡ u
  pub site_is : nth x.sites 0 ≡ s
  pub u_low : u < 32
  pub s_low : s < 32

-- L rows
pub record RootRow (s q : ℕ) (x : Row) : Type 0 where
  pub keyed : key x ≡ x.group ∷ s ∷ q ∷ []
  pub root_is : root_of x ≡ record { site = s; line = q }
  pub s_low : s < 32
  pub q_low : q < 256

-- what the code's form of a row stands for
pub pair_row : (g : ℕ) (p : Pair) → p.from < 32 → p.to < 32 → PairRow p.from p.to (pair_data g p)
unfolding key pair_place ◌⧺◌ pair_data
pair_row g p s t = record { keyed = refl; placed = refl; some = p.some; s_low = s; t_low = t }

few : (t : Toward) → length (sites_to t) ≤ 1
unfolding sites_to
few (Site s) = omega arith
few Own = omega arith

pub box_row : (b : Sandbox) → in_limits (box_data b) ≡ true → BoxRow (box_data b)
unfolding key ◌⧺◌ box_data
box_row b L = record { shaped = record { boxes_one = refl; sites_few = few b.toward; key_is = refl }; low = L; said = b.said }

pub bound_row : (b : Bound) → b.variable < 32 → b.site < 32 → BoundRow b.variable b.site (bound_data b)
unfolding key ◌⧺◌ bound_data
bound_row b u s = record { keyed = refl; var_is = refl; site_is = refl; u_low = u; s_low = s }

pub root_row : (r : Root) → r.site < 32 → r.line < 256 → RootRow r.site r.line (root_data r)
unfolding key root_of ◌⧺◌ root_data
root_row r s q = record { keyed = refl; root_is = refl; s_low = s; q_low = q }

pub tuple_row : (g : ℕ) (t : Tuple) → key (tuple_data g t) ≡ g ∷ sites_of t
unfolding key ◌⧺◌ tuple_data
tuple_row g t = ap (λ (l : List ℕ). g ∷ l) (cat_none (sites_of t))

-- a row that stands above
module _ {b : Row} (k : Kept b) where
  kept_group : (row_data k.row).group ≡ b.group
  kept_group = ap (λ (x : Row). x.group) k.is

  same_row : {x : Row} → row_data k.row ≡ x → x ≡ b
  same_row e = sym e ∙ k.is

  kept_low : {x : Row} → row_data k.row ≡ x → in_limits x ≡ true
  kept_low e = subst (λ (x : Row). in_limits x ≡ true) (sym (same_row e)) k.low

  pub kept_pair : pair_group b.group ≡ true → (p : Pair) × PairRow p.from p.to b
  kept_pair h =
      let e = as_pair k.row (subst (λ (x : ℕ). pair_group x ≡ true) (sym kept_group) h) in
      let l = pair_low (row_data k.row).group e.0 (kept_low e.1) in
      (e.0, subst (λ (x : Row). PairRow e.0.from e.0.to x) (same_row e.1) (pair_row _ e.0 l.0 l.1))

  pub kept_box : b.group ≡ group_d → BoxRow b
  kept_box h = let e = as_sandbox k.row (kept_group ∙ h) in subst BoxRow (same_row e.1) (box_row e.0 (kept_low e.1))

  pub kept_bound : b.group ≡ group_b → (x : Bound) × BoundRow x.variable x.site b
  kept_bound h =
      let e = as_bound k.row (kept_group ∙ h) in
      let l = bound_low e.0 (kept_low e.1) in
      (e.0, subst (λ (x : Row). BoundRow e.0.variable e.0.site x) (same_row e.1) (bound_row e.0 l.0 l.1))

  pub kept_root : b.group ≡ group_l → (x : Root) × RootRow x.site x.line b
  kept_root h =
      let e = as_root k.row (kept_group ∙ h) in
      let l = root_low e.0 (kept_low e.1) in
      (e.0, subst (λ (x : Row). RootRow e.0.site e.0.line x) (same_row e.1) (root_row e.0 l.0 l.1))

  pub kept_tuple : tuple_group b.group ≡ true → key b ≡ b.group ∷ b.sites
  unfolding tuple_data
  kept_tuple h =
      let e = as_tuple k.row (subst (λ (x : ℕ). tuple_group x ≡ true) (sym kept_group) h) in
      subst (λ (x : Row). key x ≡ x.group ∷ x.sites) (same_row e.1) (tuple_row _ e.0)

-- the row that is read, as one of those
pub as_kept : (r : Form.Row) → in_limits (row_data r) ≡ true → Kept (row_data r)
as_kept r L = record { row = r; is = refl; low = L }
