-- Process lines, and the process that a line stands for.
-- Assumes nothing.
use Rattle.std.specs.Prelude.{Bool, true, not, List, [], ◌∷◌, map, ℕ, suc, ◌+◌, ◌-◌, ltb, length, get_or}
use Rattle.sets.specs.Lists.{◌&◌, all, any, keep, concat, count, among, ◌⧺◌}
use Rattle.sets.specs.Bits.{in_bit, read_bit}
use Rattle.klaim.specs.declared.Loc.{Loc}
use Rattle.klaim.specs.declared.Loc.TheVariants.{At, Here, Use}
use Rattle.klaim.specs.declared.Slot.{Slot}
use Rattle.klaim.specs.declared.Slot.TheVariants.{Value, Bind, Wildcard}

-- "`nil`; `par,a,b`; `rep,a`; `out,a,g,f..`; `in,a,g,f..`; `read,a,g,f..`; `eval,a,g,b,k`; `accept,a,k`":
-- "a is the line that follows, b the second branch or the body sent, g the target", f.. the fields, k a sandbox
pub data Line : Type 0 where
  Nil : Line
  Par : ℕ → ℕ → Line
  Rep : ℕ → Line
  Out : ℕ → Loc → List Loc → Line
  In : ℕ → Loc → List Slot → Line
  Read : ℕ → Loc → List Slot → Line
  Eval : ℕ → Loc → ℕ → ℕ → Line
  Accept : ℕ → ℕ → Line

-- the line of a number; past the end, nil
abbrev pub line_at : List Line → ℕ → Line
line_at ls q = get_or ls q Nil

-- the lines that a line names
unfoldable pub children : Line → List ℕ
children Nil = []
children (Par a b) = a ∷ b ∷ []
children (Rep a) = a ∷ []
children (Out a g fs) = a ∷ []
children (In a g fs) = a ∷ []
children (Read a g fs) = a ∷ []
children (Eval a g b k) = a ∷ b ∷ []
children (Accept a k) = a ∷ []

-- the sandboxes that a line names
unfoldable pub boxes_of : Line → List ℕ
boxes_of Nil = []
boxes_of (Par a b) = []
boxes_of (Rep a) = []
boxes_of (Out a g fs) = []
boxes_of (In a g fs) = []
boxes_of (Read a g fs) = []
boxes_of (Eval a g b k) = k ∷ []
boxes_of (Accept a k) = k ∷ []

-- a line's target and its fields
unfoldable pub slots_of : Line → List Slot
slots_of Nil = []
slots_of (Par a b) = []
slots_of (Rep a) = []
slots_of (Out a g fs) = map Value (g ∷ fs)
slots_of (In a g fs) = Value g ∷ fs
slots_of (Read a g fs) = Value g ∷ fs
slots_of (Eval a g b k) = Value g ∷ []
slots_of (Accept a k) = []

-- the fields of `in` and `read`
unfoldable pub template : Line → List Slot
template Nil = []
template (Par a b) = []
template (Rep a) = []
template (Out a g fs) = []
template (In a g fs) = fs
template (Read a g fs) = fs
template (Eval a g b k) = []
template (Accept a k) = []

-- the sites that stand in a field
unfoldable pub sites_in : Slot → List ℕ
sites_in (Value (At s)) = s.0 ∷ []
sites_in (Value Here) = []
sites_in (Value (Use u)) = []
sites_in (Bind u) = []
sites_in Wildcard = []

-- the variables used in a field
unfoldable pub used_in : Slot → List ℕ
used_in (Value (At s)) = []
used_in (Value Here) = []
used_in (Value (Use u)) = u.0 ∷ []
used_in (Bind u) = []
used_in Wildcard = []

-- "`!u`, which binds u": the variables that a field binds; No. 1: `_` "binds nothing"
unfoldable pub bound_in : Slot → List ℕ
bound_in (Value x) = []
bound_in (Bind u) = u.0 ∷ []
bound_in Wildcard = []

-- 7: "`!u` twice, or with u in one template"
unfoldable pub clash : List Slot → Bool
clash fs = any (λ u. ltb 1 (count u (concat used_in fs ⧺ concat bound_in fs))) (concat bound_in fs)

-- the process that a line stands for; where a rule is to hold, with the line's number; `get_t` is in or read, by its right
pub data Tree : Type 0 where
  nil_t : Tree
  par_t : Tree → Tree → Tree
  rep_t : Tree → Tree
  out_t : ℕ → Loc → List Loc → Tree → Tree
  get_t : ℕ → ℕ → Loc → List Slot → Tree → Tree
  eval_t : ℕ → Loc → ℕ → Tree → Tree → Tree
  accept_t : ℕ → Tree → Tree

-- line q, the processes of its children given by their numbers
unfoldable pub node : (ℕ → Tree) → ℕ → Line → Tree
node f q Nil = nil_t
node f q (Par a b) = par_t (f a) (f b)
node f q (Rep a) = rep_t (f a)
node f q (Out a g fs) = out_t q g fs (f a)
node f q (In a g fs) = get_t q in_bit g fs (f a)
node f q (Read a g fs) = get_t q read_bit g fs (f a)
node f q (Eval a g b k) = eval_t q g k (f b) (f a)
node f q (Accept a k) = accept_t k (f a)

-- the processes of lines whose first has number q: "A child line has a greater number than its parent"
unfoldable pub trees : ℕ → List Line → List Tree
trees q [] = []
trees q (l ∷ ls) = let ts = trees (suc q) ls in node (λ c. get_or ts (c - suc q) nil_t) q l ∷ ts

-- the process of line q; `nil` past the end
unfoldable pub tree : List Line → ℕ → Tree
tree ls q = get_or (trees 0 ls) q nil_t

-- "child or L line absent, child not greater" is 5: each child is greater than its parent and below n; the first line has number q
unfoldable pub ordered_from : ℕ → ℕ → List Line → Bool
ordered_from q n [] = true
ordered_from q n (l ∷ ls) = all (λ c. ltb q c & ltb c n) (children l) & ordered_from (suc q) n ls

-- 5, over all lines
unfoldable pub ordered : List Line → Bool
ordered ls = ordered_from 0 (length ls) ls

-- the list without the numbers in us
unfoldable pub without : List ℕ → List ℕ → List ℕ
without us xs = keep (λ x. not (among us x)) xs

-- the free variables of a process: "`!u`, which binds u in a"
unfoldable pub free : Tree → List ℕ
free nil_t = []
free (par_t a b) = free a ⧺ free b
free (rep_t a) = free a
free (out_t q g fs a) = concat used_in (map Value (g ∷ fs)) ⧺ free a
free (get_t q r g fs a) = concat used_in (Value g ∷ fs) ⧺ without (concat bound_in fs) (free a)
free (eval_t q g k b a) = used_in (Value g) ⧺ (free b ⧺ free a)
free (accept_t k a) = free a

-- a line numbered from 0, moved behind d present lines
unfoldable pub move : ℕ → Line → Line
move d Nil = Nil
move d (Par a b) = Par (d + a) (d + b)
move d (Rep a) = Rep (d + a)
move d (Out a g fs) = Out (d + a) g fs
move d (In a g fs) = In (d + a) g fs
move d (Read a g fs) = Read (d + a) g fs
move d (Eval a g b k) = Eval (d + a) g (d + b) k
move d (Accept a k) = Accept (d + a) k
