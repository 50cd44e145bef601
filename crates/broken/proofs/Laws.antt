-- Laws of the least broken line.
-- Assumes nothing.
use mathlib.Core.Path.{◌≡◌, refl, sym, ap, ◌∙◌}
use mathlib.Core.Bool.{Bool, true, false, not, cond}
use mathlib.Core.List.{List, [], ◌∷◌}
use mathlib.Core.Logic.{◌⊎◌, inl, inr}
use mathlib.Core.Option.{Option, none, some}
use Prim.Native.Nat.{ℕ}
use native.Mathlib.Omega.{arith}
use Rattle.sets.specs.Lists.{◌⧺◌, only}
use Rattle.klaim.specs.declared.Loc.{Loc}
use Rattle.klaim.specs.declared.Slot.{Slot}
use Rattle.klaim.specs.declared.Fields.{Fields}
use Rattle.klaim.specs.Process.{Tree, node, tree}
use Rattle.klaim.specs.Net.{Net, Estimate}
use Rattle.klaim.specs.Analysis.{reach, broken, lesser, least}
use Rattle.tables.specs.declared.Action.{Action}
use Rattle.tables.specs.declared.Action.TheVariants.{Nil, Par, Rep, Out, In, Read, Eval, Accept}
use Rattle.tables.specs.View.{Lines, action_line, line_of, lines_of, ActionAt, InForm}
use Rattle.tables.proofs.LineTable.{tree_at, Child, next}
use Rattle.broken.specs.Lesser.{lesser_of}
use Rattle.rules.specs.Own.{own_rule}

-- of three, the lesser of the first two and the third
lesser_turn : (x : ℕ) (a b : Option ℕ) → lesser x (lesser_of a b) ≡ lesser (lesser x a) b
unfolding lesser lesser_of
lesser_turn x none b = refl
lesser_turn x (some y) none = refl
lesser_turn x (some y) (some z) = omega arith

pub least_both : (xs ys : List ℕ) → least (xs ⧺ ys) ≡ lesser_of (least xs) (least ys)
unfolding least lesser_of ◌⧺◌
least_both [] ys = refl
least_both (x ∷ xs) ys = ap (λ (o : Option ℕ). some (lesser x o)) (least_both xs ys) ∙ ap some (lesser_turn x (least xs) (least ys))

pub least_here : (b : Bool) (q : ℕ) (xs : List ℕ) → least (only (not b) q ⧺ xs) ≡ cond b (least xs) (lesser_of (some q) (least xs))
unfolding least lesser_of ◌⧺◌ only
least_here true q xs = refl
least_here false q xs = refl

-- the broken lines behind a line
abbrev pub behind : Net → Estimate → ℕ → (ℕ → Tree) → Action → List ℕ
behind N E P t Nil = []
behind N E P t (Par a b) = broken N E P (t a) ⧺ broken N E P (t b)
behind N E P t (Rep a) = broken N E P (t a)
behind N E P t (Out a g fs) = broken N E P (t a)
behind N E P t (In a g fs) = broken N E P (t a)
behind N E P t (Read a g fs) = broken N E P (t a)
behind N E P t (Eval a g b k) = broken N E (reach E P g) (t b) ⧺ broken N E P (t a)
behind N E P t (Accept a k) = broken N E P (t a)

broken_own : (N : Net) (E : Estimate) (P : ℕ) (t : ℕ → Tree) (q : ℕ) (x : Action)
    → only (not (own_rule N E P (action_line x))) q ⧺ behind N E P t x ≡ broken N E P (node t q (action_line x))
unfolding broken node action_line own_rule only ◌⧺◌
broken_own N E P t q Nil = refl
broken_own N E P t q (Par a b) = refl
broken_own N E P t q (Rep a) = refl
broken_own N E P t q (Out a g fs) = refl
broken_own N E P t q (In a g fs) = refl
broken_own N E P t q (Read a g fs) = refl
broken_own N E P t q (Eval a g b k) = refl
broken_own N E P t q (Accept a k) = refl

-- line q: its own rule, and the lines behind it
module _ (N : Net) (E : Estimate) (P : ℕ) {t : Lines} {q : ℕ} (w : InForm t q) {x : Action} (d : ActionAt t q x) where
  abbrev holds : Action → Bool
  holds y = own_rule N E P (action_line y)

  abbrev rest_of : Action → List ℕ
  rest_of y = behind N E P (tree (lines_of t)) y

  broken_at : only (not (holds x)) q ⧺ rest_of x ≡ broken N E P (tree (lines_of t) q)
  broken_at = broken_own N E P (tree (lines_of t)) q x ∙ ap (broken N E P) (sym (tree_at w d refl))

  -- the least broken line: its own, if its rule fails, or one behind it
  pub found_at : {r rest : Option ℕ} {ok : Bool} → r ≡ cond ok rest (lesser_of (some q) rest) → ok ≡ own_rule N E P (line_of t q) → rest ≡ least (rest_of x)
      → r ≡ least (broken N E P (tree (lines_of t) q))
  found_at z o h = z ∙ rw (o ∙ sym (ap (own_rule N E P) d.line), h) (sym (least_here (holds x) q (rest_of x))) ∙ ap least broken_at

  -- where the line has no rule
  pub free_at : {y : Action} → x ≡ y → true ≡ holds y → {r : Option ℕ} → r ≡ least (rest_of y) → r ≡ least (broken N E P (tree (lines_of t) q))
  free_at e o h = found_at {ok = true} refl (o ∙ sym (ap holds e) ∙ ap (own_rule N E P) d.line) (h ∙ sym (ap (λ (y : Action). least (rest_of y)) e))

  -- a line that one line follows
  abbrev pub One : ℕ → Type 0
  One a = (x ≡ Rep a)
      ⊎ ((g : Loc) × (fs : Fields Loc) × (x ≡ Out a g fs))
      ⊎ ((g : Loc) × (fs : Fields Slot) × (x ≡ In a g fs))
      ⊎ ((g : Loc) × (fs : Fields Slot) × (x ≡ Read a g fs))
      ⊎ ((k : ℕ) × (x ≡ Accept a k))

  pub after : {a : ℕ} → One a → Child t q a × (broken N E P (tree (lines_of t) a) ≡ rest_of x)
  after (inl e) = ((next w d e).0, sym (ap rest_of e))
  after (inr (inl e)) = ((next w d e.2).0, sym (ap rest_of e.2))
  after (inr (inr (inl e))) = ((next w d e.2).0, sym (ap rest_of e.2))
  after (inr (inr (inr (inl e)))) = ((next w d e.2).0, sym (ap rest_of e.2))
  after (inr (inr (inr (inr e)))) = ((next w d e.1).0, sym (ap rest_of e.1))
