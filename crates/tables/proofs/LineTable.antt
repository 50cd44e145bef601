-- Laws of the process lines in their table: the line of a number, its process, its children.
-- Assumes nothing.
use mathlib.Core.Path.{◌≡◌, refl, sym, ap, subst, ◌∙◌}
use mathlib.Core.Logic.{◌⊎◌, inl, inr}
use mathlib.Core.Bool.{true, false}
use Prim.Native.Nat.{ℕ, ◌<◌, ◌≤◌}
use native.Mathlib.Omega.{arith}
use lib.ListN.{length, get_or, take, get_or-eq_default}
use Rattle.std.proofs.lemmas.List.{get_or_default}
use Rattle.sets.specs.Lists.{Elem, first, later, All, table}
use Rattle.sets.proofs.Tables.{get_or_table, length_table, table_short}
use Rattle.klaim.specs.Fields.{items}
use Rattle.klaim.specs.declared.Fields.{Fields}
use Rattle.klaim.specs.declared.Loc.{Loc}
use Rattle.klaim.specs.declared.Slot.{Slot}
use Rattle.klaim.specs.Process.{line_at, children, node, tree}
use Rattle.klaim.specs.Process as Process
use Rattle.klaim.specs.State.{is_nil}
use Rattle.klaim.proofs.Process.{tree_node, child_greater, child_line}
use Rattle.tables.specs.declared.Action.{Action}
use Rattle.tables.specs.declared.Action.TheVariants.{Nil, Par, Rep, Out, In, Read, Eval, Accept}
use Rattle.tables.specs.Low.{LowLoc, LowSlot, LowAction}
use Rattle.tables.specs.declared.line.Line.{Line}
use Rattle.tables.specs.View.{no_line, Lines, action_line, line_of, lines_of, ActionAt, InForm}

pub lines_long : (t : Lines) → length (lines_of t) ≡ t.count
unfolding lines_of
lines_long t = length_table t.count (line_of t)

pub line_at_lem : (t : Lines) (q : ℕ) → q < t.count → line_at (lines_of t) q ≡ line_of t q
unfolding lines_of
line_at_lem t q h = get_or_table t.count (line_of t) q Process.Nil h

-- what is read at place q
pub read_at : (t : Lines) (q : ℕ) (x : Line) → q < 256 → action_line (get_or t.items q x).action ≡ line_of t q
unfolding line_of
read_at t q x h = ap (λ (l : Line). action_line l.action) (get_or_default t.items q x no_line (omega (arith, t.long)))

-- the first r lines
pub first_lines : (t : Lines) (r : ℕ) → r ≤ t.count → take r (lines_of t) ≡ table r (line_of t)
unfolding lines_of
first_lines t r h = table_short t.count r (line_of t) h

-- an action is that of `nil` where its line is
pub is_nil_at : (t : Lines) (q : ℕ) {r : Action} → q < t.count → ActionAt t q r → is_nil (action_line r) ≡ is_nil (line_at (lines_of t) q)
is_nil_at t q h d = ap is_nil (d.line ∙ sym (line_at_lem t q h))

pub nil_past : (t : Lines) (q : ℕ) → t.count ≤ q → true ≡ is_nil (line_at (lines_of t) q)
unfolding is_nil
nil_past t q h = sym (ap is_nil (get_or-eq_default (lines_of t) Process.Nil {n = q} (omega (arith, lines_long t))))

module _ {t : Lines} {q : ℕ} (w : InForm t q) {r : Action} (d : ActionAt t q r) where
  line_is : line_at (lines_of t) q ≡ action_line r
  line_is = line_at_lem t q w.present ∙ sym d.line

  -- the process of line q by its action
  pub tree_at : {x : Action} → r ≡ x → tree (lines_of t) q ≡ node (tree (lines_of t)) q (action_line x)
  tree_at e = tree_node (lines_of t) q w.in_order ∙ ap (node (tree (lines_of t)) q) (line_is ∙ ap action_line e)

-- a line that line q names
pub record Child (t : Lines) (q c : ℕ) : Type 0 where
  pub greater : q < c
  pub form : InForm t c

-- what a recursion over lines meets in each arm: the children, and numbers within limits
abbrev pub Next : (t : Lines) (q : ℕ) → Action → Type 0
Next t q Nil = Unit {0}
Next t q (Par a b) = Child t q a × Child t q b
Next t q (Rep a) = Child t q a × Unit {0}
Next t q (Out a g fs) = Child t q a × LowLoc g × All LowLoc (items fs)
Next t q (In a g fs) = Child t q a × LowLoc g × All LowSlot (items fs)
Next t q (Read a g fs) = Child t q a × LowLoc g × All LowSlot (items fs)
Next t q (Eval a g b k) = Child t q a × LowLoc g × Child t q b × (k < 32)
Next t q (Accept a k) = Child t q a × (k < 32)

next_of : (t : Lines) (q : ℕ) (x : Action) → LowAction x → ((c : ℕ) → Elem c (children (action_line x)) → Child t q c) → Next t q x
unfolding children action_line
next_of t q Nil l h = tt
next_of t q (Par a b) l h = (h a (first refl), h b (later (first refl)))
next_of t q (Rep a) l h = (h a (first refl), tt)
next_of t q (Out a g fs) l h = (h a (first refl), l.0, l.1)
next_of t q (In a g fs) l h = (h a (first refl), l.0, l.1)
next_of t q (Read a g fs) l h = (h a (first refl), l.0, l.1)
next_of t q (Eval a g b k) l h = (h a (first refl), l.0, h b (later (first refl)), l.1)
next_of t q (Accept a k) l h = (h a (first refl), l)

pub next : {t : Lines} {q : ℕ} → InForm t q → {r : Action} → ActionAt t q r → {x : Action} → r ≡ x → Next t q x
next {t = t} {q = q} w {r = r} d e = subst (Next t q) e (next_of t q r d.low child)
  where
    child : (c : ℕ) → Elem c (children (action_line r)) → Child t q c
    child c i =
        let j : Elem c (children (line_at (lines_of t) q)) = subst (λ (l : Process.Line). Elem c (children l)) (sym (line_is w d)) i in
        record {
          greater = child_greater (lines_of t) q w.in_order c j;
          form = record { in_order = w.in_order; present = omega (arith, child_line (lines_of t) q w.in_order c j, lines_long t) };
        }

-- of the lines that an arm for two kinds meets: in and read; rep and accept
module _ {t : Lines} {q : ℕ} (w : InForm t q) {r : Action} (d : ActionAt t q r) {a : ℕ} where
  pub next_of_get : {g : Loc} {fs : Fields Slot} → (r ≡ In a g fs) ⊎ (r ≡ Read a g fs) → Child t q a × LowLoc g × All LowSlot (items fs)
  next_of_get (inl e) = next w d e
  next_of_get (inr e) = next w d e

  pub next_of_same : (r ≡ Rep a) ⊎ ((k : ℕ) × (r ≡ Accept a k)) → Child t q a
  next_of_same (inl e) = (next w d e).0
  next_of_same (inr e) = (next w d e.1).0

-- an action that is not `nil`
pub not_nil : (x : Action) → (x ≡ Nil → ⊥) → false ≡ is_nil (action_line x)
unfolding is_nil action_line
not_nil Nil h = absurd (h refl)
not_nil (Par a b) h = refl
not_nil (Rep a) h = refl
not_nil (Out a g fs) h = refl
not_nil (In a g fs) h = refl
not_nil (Read a g fs) h = refl
not_nil (Eval a g b k) h = refl
not_nil (Accept a k) h = refl
