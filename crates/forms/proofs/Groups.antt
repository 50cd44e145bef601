-- A row by the number of its group.
-- Assumes nothing.
use mathlib.Core.Path.{◌≡◌, refl}
use mathlib.Core.Logic.{◌⊎◌, inl, inr, ⊎_elim}
use mathlib.Core.Bool.{true, false≢true}
use Prim.Native.Nat.{ℕ}
use native.Mathlib.Omega.{arith}
use lib.Dec.{eqb, ltb}
use Rattle.sets.specs.Lists.{either}
use Rattle.sets.proofs.Lists.{eqb_eq, or_case}
use Rattle.klaim.specs.Rows.{row_line, group_r, group_d, group_t, group_l, group_b, group_a, group_e}
use Rattle.forms.specs.declared.rows.Pair.{Pair}
use Rattle.forms.specs.declared.rows.Sandbox.{Sandbox}
use Rattle.forms.specs.declared.rows.Tuple.{Tuple}
use Rattle.forms.specs.declared.rows.Root.{Root}
use Rattle.forms.specs.declared.rows.Bound.{Bound}
use Rattle.forms.specs.declared.rows.Row.{Row}
use Rattle.forms.specs.declared.rows.Row.TheVariants.{N, R, D, T, L, Q, B, A, E}
use Rattle.forms.specs.Forms.{group_number, group_of, pair_group, tuple_group, size_data, pair_data, box_data, tuple_data, root_data, process_data, bound_data, row_data}

-- the groups of pairs and of tuples
pub pair_group_lem : (g : ℕ) → (g ≡ group_r) ⊎ (g ≡ group_e) → pair_group g ≡ true
unfolding pair_group either
pair_group_lem g (inl e) = rw e refl
pair_group_lem g (inr e) = rw e refl

pub tuple_group_lem : (g : ℕ) → (g ≡ group_t) ⊎ (g ≡ group_a) → tuple_group g ≡ true
unfolding tuple_group either
tuple_group_lem g (inl e) = rw e refl
tuple_group_lem g (inr e) = rw e refl

pub pair_case : (g : ℕ) → pair_group g ≡ true → (g ≡ group_r) ⊎ (g ≡ group_e)
unfolding pair_group
pair_case g h = go (or_case _ _ h)
  where
    go : (eqb g group_r ≡ true) ⊎ (eqb g group_e ≡ true) → (g ≡ group_r) ⊎ (g ≡ group_e)
    go (inl e) = inl (eqb_eq e)
    go (inr e) = inr (eqb_eq e)

pub tuple_case : (g : ℕ) → tuple_group g ≡ true → (g ≡ group_t) ⊎ (g ≡ group_a)
unfolding tuple_group
tuple_case g h = go (or_case _ _ h)
  where
    go : (eqb g group_t ≡ true) ⊎ (eqb g group_a ≡ true) → (g ≡ group_t) ⊎ (g ≡ group_a)
    go (inl e) = inl (eqb_eq e)
    go (inr e) = inr (eqb_eq e)

pub pair_some : (g : ℕ) → pair_group g ≡ true → ltb 0 g ≡ true
pair_some g h = ⊎_elim (λ e. rw e) (λ e. rw e) (pair_case g h)

pub tuple_some : (g : ℕ) → tuple_group g ≡ true → ltb 0 g ≡ true
tuple_some g h = ⊎_elim (λ e. rw e) (λ e. rw e) (tuple_case g h)

-- R and E rows
pub as_pair : (r : Row) → pair_group (row_data r).group ≡ true → (p : Pair) × (row_data r ≡ pair_data (row_data r).group p)
unfolding row_data size_data pair_data box_data tuple_data root_data process_data bound_data row_line pair_group either
as_pair (N x) h = absurd (false≢true h)
as_pair (R x) h = (x, refl)
as_pair (D x) h = absurd (false≢true h)
as_pair (T x) h = absurd (false≢true h)
as_pair (L x) h = absurd (false≢true h)
as_pair (Q x) h = absurd (false≢true h)
as_pair (B x) h = absurd (false≢true h)
as_pair (A x) h = absurd (false≢true h)
as_pair (E x) h = (x, refl)

-- D rows
pub as_sandbox : (r : Row) → (row_data r).group ≡ group_d → (b : Sandbox) × (row_data r ≡ box_data b)
unfolding row_data size_data pair_data box_data tuple_data root_data process_data bound_data row_line
as_sandbox (N x) h = absurd (omega arith)
as_sandbox (R x) h = absurd (omega arith)
as_sandbox (D x) h = (x, refl)
as_sandbox (T x) h = absurd (omega arith)
as_sandbox (L x) h = absurd (omega arith)
as_sandbox (Q x) h = absurd (omega arith)
as_sandbox (B x) h = absurd (omega arith)
as_sandbox (A x) h = absurd (omega arith)
as_sandbox (E x) h = absurd (omega arith)

-- T and A rows
pub as_tuple : (r : Row) → tuple_group (row_data r).group ≡ true → (t : Tuple) × (row_data r ≡ tuple_data (row_data r).group t)
unfolding row_data size_data pair_data box_data tuple_data root_data process_data bound_data row_line tuple_group either
as_tuple (N x) h = absurd (false≢true h)
as_tuple (R x) h = absurd (false≢true h)
as_tuple (D x) h = absurd (false≢true h)
as_tuple (T x) h = (x, refl)
as_tuple (L x) h = absurd (false≢true h)
as_tuple (Q x) h = absurd (false≢true h)
as_tuple (B x) h = absurd (false≢true h)
as_tuple (A x) h = (x, refl)
as_tuple (E x) h = absurd (false≢true h)

-- L rows
pub as_root : (r : Row) → (row_data r).group ≡ group_l → (x : Root) × (row_data r ≡ root_data x)
unfolding row_data size_data pair_data box_data tuple_data root_data process_data bound_data row_line
as_root (N x) h = absurd (omega arith)
as_root (R x) h = absurd (omega arith)
as_root (D x) h = absurd (omega arith)
as_root (T x) h = absurd (omega arith)
as_root (L x) h = (x, refl)
as_root (Q x) h = absurd (omega arith)
as_root (B x) h = absurd (omega arith)
as_root (A x) h = absurd (omega arith)
as_root (E x) h = absurd (omega arith)

-- B rows
pub as_bound : (r : Row) → (row_data r).group ≡ group_b → (b : Bound) × (row_data r ≡ bound_data b)
unfolding row_data size_data pair_data box_data tuple_data root_data process_data bound_data row_line
as_bound (N x) h = absurd (omega arith)
as_bound (R x) h = absurd (omega arith)
as_bound (D x) h = absurd (omega arith)
as_bound (T x) h = absurd (omega arith)
as_bound (L x) h = absurd (omega arith)
as_bound (Q x) h = absurd (omega arith)
as_bound (B x) h = (x, refl)
as_bound (A x) h = absurd (omega arith)
as_bound (E x) h = absurd (omega arith)

-- the group of a row, by its number
pub group_is : (r : Row) → (row_data r).group ≡ group_number (group_of r)
unfolding row_data size_data pair_data box_data tuple_data root_data process_data bound_data row_line
group_is (N x) = refl
group_is (R x) = refl
group_is (D x) = refl
group_is (T x) = refl
group_is (L x) = refl
group_is (Q x) = refl
group_is (B x) = refl
group_is (A x) = refl
group_is (E x) = refl
