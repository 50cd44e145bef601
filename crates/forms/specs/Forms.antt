-- The row that the code's form of a row stands for.
-- Assumes nothing.
use Rattle.std.specs.Prelude.{Bool, List, [], ◌∷◌, map, ℕ, eqb}
use Rattle.sets.specs.Lists.{either}
use Rattle.klaim.specs.Process.{Nil}
use Rattle.klaim.specs.Rows as Rows
use Rattle.klaim.specs.Rows.{row_line, group_n, group_r, group_d, group_t, group_l, group_q, group_b, group_a, group_e}
use Rattle.text.specs.Fields.{sites_to}
use Rattle.text.specs.declared.SiteName.{SiteName}
use Rattle.klaim.specs.Fields.{items}
use Rattle.lines.specs.Lines.{line_view}
use Rattle.forms.specs.declared.rows.Group.{Group}
use Rattle.forms.specs.declared.rows.Group.TheVariants as Groups
use Rattle.forms.specs.declared.rows.Pair.{Pair}
use Rattle.forms.specs.declared.rows.Sandbox.{Sandbox}
use Rattle.forms.specs.declared.rows.Tuple.{Tuple}
use Rattle.forms.specs.declared.rows.Root.{Root}
use Rattle.forms.specs.declared.rows.Process.{Process}
use Rattle.forms.specs.declared.rows.Bound.{Bound}
use Rattle.forms.specs.declared.rows.Row.{Row}
use Rattle.forms.specs.declared.rows.Row.TheVariants.{N, R, D, T, L, Q, B, A, E}

-- the groups as the documents number them
abbrev pub group_number : Group → ℕ
group_number Groups.N = group_n
group_number Groups.R = group_r
group_number Groups.D = group_d
group_number Groups.T = group_t
group_number Groups.L = group_l
group_number Groups.Q = group_q
group_number Groups.B = group_b
group_number Groups.A = group_a
group_number Groups.E = group_e

-- the groups of pairs and of tuples
unfoldable pub pair_group : ℕ → Bool
pair_group g = either (eqb g group_r) (eqb g group_e)

unfoldable pub tuple_group : ℕ → Bool
tuple_group g = either (eqb g group_t) (eqb g group_a)

-- a row that is no Q row
abbrev pub row_as : ℕ → ℕ → List ℕ → List ℕ → List ℕ → List ℕ → ℕ → Rows.Row
row_as group size boxes vars sites lines rights = record { group = group; size = size; boxes = boxes; vars = vars; sites = sites; lines = lines; rights = rights; process = Nil }

-- an N row
unfoldable pub size_data : ℕ → Rows.Row
size_data n = row_as group_n n [] [] [] [] 0

-- an R or an E row
unfoldable pub pair_data : ℕ → Pair → Rows.Row
pair_data g p = row_as g 0 [] [] (p.from ∷ p.to ∷ []) [] p.rights

-- a D row
unfoldable pub box_data : Sandbox → Rows.Row
box_data b = row_as group_d 0 (b.number ∷ []) [] (sites_to b.toward) [] b.rights

-- the sites of a tuple
unfoldable pub sites_of : Tuple → List ℕ
sites_of t = t.site ∷ map (λ (s : SiteName). s.0) (items t.fields)

-- a T or an A row
unfoldable pub tuple_data : ℕ → Tuple → Rows.Row
tuple_data g t = row_as g 0 [] [] (sites_of t) [] 0

-- an L row
unfoldable pub root_data : Root → Rows.Row
root_data r = row_as group_l 0 [] [] (r.site ∷ []) (r.line ∷ []) 0

-- a Q row
unfoldable pub process_data : Process → Rows.Row
process_data p = row_line p.number (line_view p.line)

-- a B row
unfoldable pub bound_data : Bound → Rows.Row
bound_data b = row_as group_b 0 [] (b.variable ∷ []) (b.site ∷ []) [] 0

-- a row
unfoldable pub row_data : Row → Rows.Row
row_data (N n) = size_data n
row_data (R p) = pair_data group_r p
row_data (D b) = box_data b
row_data (T t) = tuple_data group_t t
row_data (L r) = root_data r
row_data (Q p) = process_data p
row_data (B b) = bound_data b
row_data (A t) = tuple_data group_a t
row_data (E p) = pair_data group_e p

-- the group of a row
abbrev pub group_of : Row → Group
group_of (N n) = Groups.N
group_of (R p) = Groups.R
group_of (D b) = Groups.D
group_of (T t) = Groups.T
group_of (L r) = Groups.L
group_of (Q p) = Groups.Q
group_of (B b) = Groups.B
group_of (A t) = Groups.A
group_of (E p) = Groups.E
