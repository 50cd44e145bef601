-- Laws of a template's variables.
-- Assumes nothing.
use mathlib.Core.Path.{◌≡◌, refl}
use mathlib.Core.Bool.{Bool, true, false, not, cond, ◌&&◌}
use mathlib.Core.List.{List, [], ◌∷◌, map}
use Prim.Native.Nat.{ℕ, ◌+◌}
use native.Mathlib.Omega.{arith}
use lib.Dec.{leb, ltb}
use borrow.Author.Tests.{leb-true, leb-false, le-ltb, lt-ltb}
use Rattle.std.specs.Prelude.{count_by}
use Rattle.std.specs.List.{list_all}
use Rattle.std.proofs.lemmas.List.Sums.{sum_by-cons}
use Rattle.sets.specs.Lists.{either, any, keep, count, concat, ◌⧺◌}
use Rattle.sets.proofs.Lists.{count_cat, count_one}
use Rattle.klaim.specs.Process.{template, clash, used_in, bound_in}
use Rattle.text.specs.declared.Target.TheVariants.{Site, Here, Variable}
use Rattle.text.specs.declared.Field.{Field}
use Rattle.text.specs.declared.Field.TheVariants.{Value, Binder, Wildcard}
use Rattle.text.specs.Fields.{loc, slot}
use Rattle.lines.specs.declared.Acts.{Acts}
use Rattle.lines.specs.declared.Line.{Line}
use Rattle.lines.specs.declared.Line.TheVariants.{Nil, Par, Rep, Out, In, Read, Eval, Accept}
use Rattle.lines.specs.Lines.{acts_of, line_view}
use Rattle.forms.specs.declared.rows.Process.{Process}
use Rattle.forms.specs.declared.rows.Row.{Row}
use Rattle.forms.specs.declared.rows.Row.TheVariants as Rows
use Rattle.forms.specs.Forms.{row_data, size_data, pair_data, box_data, tuple_data, root_data, bound_data}
use Rattle.binders.specs.Binders.{names, single}

-- a variable in one field
count_field : (u : ℕ) (f : Field) → count u (used_in (slot f)) + count u (bound_in (slot f)) ≡ cond (names u f) 1 0
unfolding slot loc used_in bound_in count keep
count_field u (Value (Site s)) = refl
count_field u (Value Here) = refl
count_field u (Value (Variable v)) = rw (← count_one u v) (omega arith)
count_field u (Binder v) = rw (← count_one u v) (omega arith)
count_field u Wildcard = refl

-- a variable in the fields
count_fields : (u : ℕ) (fs : List Field) → count u (concat used_in (map slot fs)) + count u (concat bound_in (map slot fs)) ≡ count_by (names u) fs
unfolding concat count keep
count_fields u [] = refl
count_fields u (f ∷ fs) =
    let a = count_field u f in
    let b = count_fields u fs in
    let k : count_by (names u) (f ∷ fs) ≡ cond (names u f) 1 0 + count_by (names u) fs = sum_by-cons (λ f. cond (names u f) 1 0) f fs in
    rw (count_cat u (used_in (slot f)) (concat used_in (map slot fs)), count_cat u (bound_in (slot f)) (concat bound_in (map slot fs))) (omega arith)

-- a test of the variables that are bound
module _ (q : ℕ → Bool) (all : List Field) (opposed : (u : ℕ) → q u ≡ not (leb (count_by (names u) all) 1)) where
  one_bound : (f : Field) (xs : List ℕ) (a : Bool) → any q xs ≡ not a → any q (bound_in (slot f) ⧺ xs) ≡ not (single all f && a)
  unfolding any either ◌⧺◌ bound_in slot
  one_bound (Value x) xs a h = h
  one_bound (Binder u) xs a h = rw (opposed u, h) (go (leb (count_by (names u) all) 1))
    where
      go : (c : Bool) → either (not c) (not a) ≡ not (c && a)
      go true = refl
      go false = refl
  one_bound Wildcard xs a h = h

  any_bound : (fs : List Field) → any q (concat bound_in (map slot fs)) ≡ not (list_all (single all) fs)
  unfolding any concat
  any_bound [] = refl
  any_bound (f ∷ fs) = one_bound f (concat bound_in (map slot fs)) _ (any_bound fs)

more_not : (n : ℕ) → ltb 1 n ≡ not (leb n 1)
more_not n = go (leb n 1) refl
  where
    go : (b : Bool) → leb n 1 ≡ b → ltb 1 n ≡ not (leb n 1)
    go true e = rw (e, le-ltb 1 n (leb-true n 1 e))
    go false e = rw (e, lt-ltb 1 n (leb-false n 1 e))

pub clash_fields : (fs : List Field) → clash (map slot fs) ≡ not (list_all (single fs) fs)
unfolding clash
clash_fields fs = any_bound _ fs (λ u. rw (count_cat u (concat used_in (map slot fs)) (concat bound_in (map slot fs)), count_fields u fs) (more_not (count_by (names u) fs))) fs

-- a line that is neither `in` nor `read`, and a row that is no Q row
pub clash_none : (l : Line) → ((g : Acts Field) → l ≡ In g → ⊥) → ((g : Acts Field) → l ≡ Read g → ⊥) → false ≡ clash (template (line_view l))
unfolding clash template line_view acts_of concat any
clash_none Nil i r = refl
clash_none (Par a b) i r = refl
clash_none (Rep a) i r = refl
clash_none (Out x) i r = refl
clash_none (In g) i r = absurd (i g refl)
clash_none (Read g) i r = absurd (r g refl)
clash_none (Eval a g b k) i r = refl
clash_none (Accept a k) i r = refl

pub clash_other : (r : Row) → ((p : Process) → r ≡ Rows.Q p → ⊥) → false ≡ clash (template (row_data r).process)
unfolding row_data size_data pair_data box_data tuple_data root_data bound_data clash template concat any
clash_other (Rows.N n) h = refl
clash_other (Rows.R p) h = refl
clash_other (Rows.D b) h = refl
clash_other (Rows.T t) h = refl
clash_other (Rows.L r) h = refl
clash_other (Rows.Q p) h = absurd (h p refl)
clash_other (Rows.B b) h = refl
clash_other (Rows.A t) h = refl
clash_other (Rows.E p) h = refl
