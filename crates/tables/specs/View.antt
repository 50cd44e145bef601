-- What a net and an estimate stand for.
-- Assumes nothing.
use Rattle.std.specs.Prelude.{◌≡◌, refl, true, List, [], ◌∷◌, ℕ, ◌<◌, get_or}
use Rattle.sets.specs.Lists.{table}
use Rattle.klaim.specs.Fields.{items}
use Rattle.klaim.specs.declared.Fields.TheVariants.{One}
use Rattle.klaim.specs.Process.{ordered}
use Rattle.klaim.specs.Process as Process
use Rattle.klaim.specs.Net as Spec
use Rattle.klaim.specs.Reader.{World}
use Rattle.tables.specs.declared.table.Table.{Table}
use Rattle.tables.specs.declared.line.Line.{Line}
use Rattle.tables.specs.declared.Tuple.{Tuple}
use Rattle.tables.specs.declared.Root.{Root}
use Rattle.tables.specs.declared.Net.{Net}
use Rattle.tables.specs.declared.Estimate.{Estimate}
use Rattle.tables.specs.declared.Action.{Action}
use Rattle.tables.specs.declared.Action.TheVariants.{Nil, Par, Rep, Out, In, Read, Eval, Accept}
use Rattle.tables.specs.Low.{LowAction}

abbrev pub Lines : Type 0
Lines = Table Line 256

abbrev pub Tuples : Type 0
Tuples = Table Tuple 256

abbrev pub Roots : Type 0
Roots = Table Root 64

-- what stands where a list ends
abbrev pub no_line : Line
no_line = record { action = Nil; low = refl }

abbrev pub no_tuple : Tuple
no_tuple = record { site = 0; fields = One (0 ∷ []) }

abbrev pub no_root : Root
no_root = record { site = 0; line = 0 }

-- what an action stands for
unfoldable pub action_line : Action → Process.Line
action_line Nil = Process.Nil
action_line (Par a b) = Process.Par a b
action_line (Rep a) = Process.Rep a
action_line (Out a g fs) = Process.Out a g (items fs)
action_line (In a g fs) = Process.In a g (items fs)
action_line (Read a g fs) = Process.Read a g (items fs)
action_line (Eval a g b k) = Process.Eval a g b k
action_line (Accept a k) = Process.Accept a k

-- line q
unfoldable pub line_of : Lines → ℕ → Process.Line
line_of t q = action_line (get_or t.items q no_line).action

-- a tuple: its site, then its fields; and tuple i
abbrev pub tuple_view : Tuple → List ℕ
tuple_view t = t.site ∷ items t.fields

unfoldable pub row_at : Tuples → ℕ → List ℕ
row_at t i = tuple_view (get_or t.items i no_tuple)

-- a root, and root i
abbrev pub root_view : Root → Spec.Root
root_view r = record { site = r.site; line = r.line }

unfoldable pub root_at : Roots → ℕ → Spec.Root
root_at t i = root_view (get_or t.items i no_root)

-- the lines, the tuples and the roots that stand in their tables
unfoldable pub lines_of : Lines → List Process.Line
lines_of t = table t.count (line_of t)

unfoldable pub tuples_of : Tuples → List (List ℕ)
tuples_of t = table t.count (row_at t)

unfoldable pub roots_of : Roots → List Spec.Root
roots_of t = table t.count (root_at t)

abbrev pub net_view : Net → Spec.Net
net_view N = record {
  size = N.size;
  homes = N.homes;
  boxes = N.boxes;
  tuples = tuples_of N.tuples;
  roots = roots_of N.roots;
  lines = lines_of N.lines;
}

abbrev pub estimate_view : Estimate → Spec.Estimate
estimate_view E = record {
  binds = E.binds;
  stand = tuples_of E.stand;
  hold = E.hold;
}

-- a net and an estimate together
abbrev pub world_of : Net → Estimate → World
world_of N E = record { net = net_view N; estimate = estimate_view E }

-- r is what line q does
pub record ActionAt (t : Lines) (q : ℕ) (r : Action) : Type 0 where
  pub line : action_line r ≡ line_of t q
  pub low : LowAction r

-- line q is one of the lines, and children are greater than their parents
pub record InForm (t : Lines) (q : ℕ) : Type 0 where
  pub in_order : ordered (lines_of t) ≡ true
  pub present : q < t.count
