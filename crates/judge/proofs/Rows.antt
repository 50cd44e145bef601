-- Laws of the limits and the sites of a row.
-- Assumes nothing.
use mathlib.Core.Path.{◌≡◌, refl, sym, ap, ◌∙◌}
use mathlib.Core.Logic.{◌⊎◌, inl, inr}
use mathlib.Core.Bool.{Bool, not}
use mathlib.Core.List.{List, [], ◌∷◌}
use Prim.Native.Nat.{ℕ}
use lib.Dec.{leb, ltb}
use Rattle.sets.specs.Lists.{◌&◌, imp, all, any, concat, ◌⧺◌}
use Rattle.sets.proofs.Lists.{and_true, and_assoc}
use Rattle.klaim.specs.Limits.{site_limit, box_limit, var_limit, line_limit}
use Rattle.klaim.specs.Process.{boxes_of, children, slots_of, sites_in, used_in, bound_in}
use Rattle.klaim.specs.Rows as Spec
use Rattle.klaim.specs.Rows.{row_line}
use Rattle.klaim.specs.Reader.{in_limits, absent}
use Rattle.lines.specs.Lines.{line_view}
use Rattle.forms.specs.declared.rows.Pair.{Pair}
use Rattle.forms.specs.declared.rows.Tuple.{Tuple}
use Rattle.forms.specs.declared.rows.Process.{Process}
use Rattle.forms.specs.declared.rows.Row.{Row}
use Rattle.forms.specs.declared.rows.Row.TheVariants.{R, T, A, E}
use Rattle.forms.specs.Forms.{row_data, pair_data, tuple_data, process_data, sites_of}
use Rattle.judge.proofs.Tests.{none_reaches}

-- 4, by the sites of a row
pub sites_low : (n : ℕ) (r : Spec.Row) (xs : List ℕ) → r.sites ≡ xs → all (λ s. ltb s n) xs ≡ not (absent n r)
unfolding absent
sites_low n r xs e = sym (none_reaches n xs) ∙ ap (λ (ys : List ℕ). not (any (λ s. leb n s) ys)) (sym e)

-- R and E rows
pub pair_sites : (r : Row) (p : Pair) → (r ≡ R p) ⊎ (r ≡ E p) → (row_data r).sites ≡ p.from ∷ p.to ∷ []
unfolding row_data pair_data
pair_sites r p (inl e) = rw e refl
pair_sites r p (inr e) = rw e refl

pub pair_limits : (r : Row) (p : Pair) → (r ≡ R p) ⊎ (r ≡ E p) → all (λ s. ltb s site_limit) (p.from ∷ p.to ∷ []) ≡ in_limits (row_data r)
unfolding row_data pair_data in_limits imp all ◌&◌
pair_limits r p (inl e) = rw e (sym (and_true _))
pair_limits r p (inr e) = rw e (sym (and_true _))

-- T and A rows
pub tuple_sites : (r : Row) (t : Tuple) → (r ≡ T t) ⊎ (r ≡ A t) → (row_data r).sites ≡ sites_of t
unfolding row_data tuple_data
tuple_sites r t (inl e) = rw e refl
tuple_sites r t (inr e) = rw e refl

pub tuple_limits : (r : Row) (t : Tuple) → (r ≡ T t) ⊎ (r ≡ A t) → all (λ s. ltb s site_limit) (sites_of t) ≡ in_limits (row_data r)
unfolding row_data tuple_data in_limits imp all ◌&◌
tuple_limits r t (inl e) = rw e (sym (and_true _))
tuple_limits r t (inr e) = rw e (sym (and_true _))

-- Q rows
abbrev pub boxes_low : Process → Bool
boxes_low p = all (λ k. ltb k box_limit) (boxes_of (line_view p.line))

abbrev pub variables_low : Process → Bool
variables_low p = all (λ u. ltb u var_limit) (concat used_in (slots_of (line_view p.line)) ⧺ concat bound_in (slots_of (line_view p.line)))

abbrev pub names_low : Process → Bool
names_low p = all (λ s. ltb s site_limit) (concat sites_in (slots_of (line_view p.line)))

abbrev pub children_low : Process → Bool
children_low p = all (λ q. ltb q line_limit) (children (line_view p.line))

pub process_limits : (p : Process) → (((boxes_low p & variables_low p) & names_low p) & ltb p.number line_limit) & children_low p ≡ in_limits (process_data p)
unfolding process_data row_line in_limits imp all ◌&◌
process_limits p = rw (and_assoc, and_assoc, and_assoc) refl
