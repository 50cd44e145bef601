-- Laws of reach and use map as the code computes them.
-- Assumes nothing.
use mathlib.Core.Path.{◌≡◌, refl, sym, ap, subst, ◌∙◌}
use mathlib.Core.List.{List}
use Prim.Native.Nat.{ℕ, ◌<◌}
use lib.ListN.{get_or}
use Rattle.sets.specs.Lists.{table}
use Rattle.sets.specs.Bits.{accept_bit, mem, sites, join, grant, joins}
use Rattle.sets.proofs.Tables.{get_or_table, same_table}
use Rattle.klaim.specs.Process.{Tree, node, tree}
use Rattle.klaim.specs.Net.{Net, Estimate, box_at}
use Rattle.klaim.specs.Analysis.{reach}
use Rattle.klaim.specs.Report.{uses}
use Rattle.tables.specs.declared.Action.{Action}
use Rattle.tables.specs.Low.{LowLoc}
use Rattle.tables.specs.View.{Lines, lines_of, action_line, ActionAt, InForm}
use Rattle.tables.specs.declared.Action.TheVariants.{Nil, Par, Rep, Out, In, Read, Eval, Accept}
use Rattle.tables.proofs.LineTable.{tree_at, Child, Next, next}
use Rattle.flow.specs.declared.Part.{Part}
use Rattle.flow.specs.declared.Part.TheVariants.{Nothing, Both, Same, Acts, Accepts}
use Rattle.flow.specs.Part.{part_of}

-- an element of a list that is a table
pub at_table : (n : ℕ) (f : ℕ → ℕ) {l : List ℕ} → l ≡ table n f → (k : ℕ) → k < n → get_or l k 0 ≡ f k
at_table n f e k h = ap (λ (l : List ℕ). get_or l k 0) e ∙ get_or_table n f k 0 h

-- use maps joined, site by site
pub join_table : (f g : ℕ → ℕ) {a : List ℕ} → a ≡ table 32 f → table 32 (λ s. join (get_or a s 0) (g s)) ≡ table 32 (λ s. join (f s) (g s))
join_table f g e = same_table 32 _ _ 0 (λ s h. ap (λ (x : ℕ). join x (g s)) (at_table 32 f e s h))

pub join_right : (a : List ℕ) (g : ℕ → ℕ) {b : List ℕ} → b ≡ table 32 g → table 32 (λ s. join (get_or a s 0) (get_or b s 0)) ≡ table 32 (λ s. join (get_or a s 0) (g s))
join_right a g h = same_table 32 _ _ 0 (λ s l. ap (join (get_or a s 0)) (at_table 32 g h s l))

pub join_tables : (f g : ℕ → ℕ) {a b : List ℕ} → a ≡ table 32 f → b ≡ table 32 g → table 32 (λ s. join (get_or a s 0) (get_or b s 0)) ≡ table 32 (λ s. join (f s) (g s))
join_tables f g {a} {b} e h = join_right a g h ∙ join_table f g e

-- what the recursion meets in each arm: the children, and numbers within limits
abbrev pub Below : Lines → ℕ → Part → Type 0
Below t q Nothing = Unit {0}
Below t q (Both a b) = Child t q a × Child t q b
Below t q (Same a) = Child t q a × Unit {0}
Below t q (Acts a r g) = Child t q a × LowLoc g
Below t q (Accepts a k) = Child t q a × (k < 32)

below_of : (t : Lines) (q : ℕ) (x : Action) → Next t q x → Below t q (part_of x)
unfolding part_of
below_of t q Nil h = tt
below_of t q (Par a b) h = h
below_of t q (Rep a) h = h
below_of t q (Out a g fs) h = (h.0, h.1)
below_of t q (In a g fs) h = (h.0, h.1)
below_of t q (Read a g fs) h = (h.0, h.1)
below_of t q (Eval a g b k) h = (h.0, h.1)
below_of t q (Accept a k) h = h

-- the use map of a line, its children's processes given by their numbers
unfoldable pub uses_by : (N : Net) (E : Estimate) (P : ℕ) → (ℕ → Tree) → Part → ℕ → ℕ
uses_by N E P f Nothing s = 0
uses_by N E P f (Both a b) s = join (uses N E P (f a) s) (uses N E P (f b) s)
uses_by N E P f (Same a) s = uses N E P (f a) s
uses_by N E P f (Acts a r g) s = join (uses N E P (f a) s) (grant (mem s (reach E P g)) r)
uses_by N E P f (Accepts a k) s = join (uses N E P (f a) s) (join (grant (mem s P) accept_bit) (joins (λ l. box_at N k l s) (sites P)))

uses_of : (N : Net) (E : Estimate) (P : ℕ) (f : ℕ → Tree) (q : ℕ) (x : Action) (s : ℕ) → uses_by N E P f (part_of x) s ≡ uses N E P (node f q (action_line x)) s
unfolding uses_by part_of uses node action_line
uses_of N E P f q Nil s = refl
uses_of N E P f q (Par a b) s = refl
uses_of N E P f q (Rep a) s = refl
uses_of N E P f q (Out a g fs) s = refl
uses_of N E P f q (In a g fs) s = refl
uses_of N E P f q (Read a g fs) s = refl
uses_of N E P f q (Eval a g b k) s = refl
uses_of N E P f q (Accept a k) s = refl

-- line q by what it adds
module _ {t : Lines} {q : ℕ} (w : InForm t q) {r : Action} (d : ActionAt t q r) {p x : Part} (h : p ≡ part_of r) (e : p ≡ x) where
  pub below_at : Below t q x
  below_at = subst (Below t q) (sym h ∙ e) (below_of t q r (next w d refl))

  pub uses_at : (N : Net) (E : Estimate) (P : ℕ) → table 32 (uses_by N E P (tree (lines_of t)) x) ≡ table 32 (uses N E P (tree (lines_of t) q))
  uses_at N E P = same_table 32 _ _ 0 (λ s l.
      ap (λ (y : Part). uses_by N E P (tree (lines_of t)) y s) (sym e ∙ h)
      ∙ uses_of N E P (tree (lines_of t)) q r s
      ∙ ap (λ (x : Tree). uses N E P x s) (sym (tree_at w d refl)))
