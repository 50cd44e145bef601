-- Laws of the sandboxes, the variables and the sites of a line, by its kind.
-- Assumes nothing.
use mathlib.Core.Path.{◌≡◌, refl, sym, ap, fun_ext, ◌∙◌}
use mathlib.Core.Logic.{◌⊎◌, inl, inr}
use mathlib.Core.Bool.{Bool}
use mathlib.Core.List.{List, [], ◌∷◌, map}
use Prim.Native.Nat.{ℕ}
use Rattle.sets.specs.Lists.{◌&◌, all, concat, ◌⧺◌}
use Rattle.sets.proofs.Lists.{all_map}
use Rattle.klaim.specs.declared.Slot.{Slot}
use Rattle.klaim.specs.declared.Slot.TheVariants.{Value}
use Rattle.klaim.specs.Process.{boxes_of, slots_of, sites_in, used_in, bound_in}
use Rattle.text.specs.declared.SiteName.{SiteName}
use Rattle.text.specs.declared.Target.{Target}
use Rattle.text.specs.declared.Field.{Field}
use Rattle.text.specs.Fields.{loc, slot}
use Rattle.klaim.specs.declared.Fields.{Fields}
use Rattle.lines.specs.declared.Acts.{Acts}
use Rattle.lines.specs.declared.Line.{Line}
use Rattle.lines.specs.declared.Line.TheVariants.{Nil, Par, Rep, Out, In, Read, Eval, Accept}
use Rattle.klaim.specs.Fields.{items}
use Rattle.lines.specs.Lines.{acts_of, line_view}
use Rattle.judge.proofs.Tests.{all_cat, all_and, all_concat}

-- a line of another kind
pub no_box : (l : Line) → ((a : ℕ) (g : Target) (b k : ℕ) → l ≡ Eval a g b k → ⊥) → ((a k : ℕ) → l ≡ Accept a k → ⊥) → boxes_of (line_view l) ≡ []
unfolding boxes_of line_view acts_of
no_box Nil e a = refl
no_box (Par n m) e a = refl
no_box (Rep n) e a = refl
no_box (Out x) e a = refl
no_box (In g) e a = refl
no_box (Read g) e a = refl
no_box (Eval n g b k) e a = absurd (e n g b k refl)
no_box (Accept n k) e a = absurd (a n k refl)

pub no_slots : (l : Line) → ((g : Acts Target) → l ≡ Out g → ⊥) → ((g : Acts Field) → l ≡ In g → ⊥) → ((g : Acts Field) → l ≡ Read g → ⊥) → ((a : ℕ) (g : Target) (b k : ℕ) → l ≡ Eval a g b k → ⊥) → slots_of (line_view l) ≡ []
unfolding slots_of line_view acts_of
no_slots Nil o i r e = refl
no_slots (Par n m) o i r e = refl
no_slots (Rep n) o i r e = refl
no_slots (Out g) o i r e = absurd (o g refl)
no_slots (In g) o i r e = absurd (i g refl)
no_slots (Read g) o i r e = absurd (r g refl)
no_slots (Eval n g b k) o i r e = absurd (e n g b k refl)
no_slots (Accept n k) o i r e = refl

-- the sites of slots, and their variables
module _ (p : ℕ → Bool) where
  pub sites_all : (ss : List Slot) → all p (concat sites_in ss) ≡ all (λ s. all p (sites_in s)) ss
  sites_all ss = all_concat p sites_in ss

  pub variables_all : (ss : List Slot) → all p (concat used_in ss ⧺ concat bound_in ss) ≡ all (λ s. all p (used_in s ⧺ bound_in s)) ss
  variables_all ss =
      all_cat p (concat used_in ss) (concat bound_in ss)
      ∙ rw (all_concat p used_in ss, all_concat p bound_in ss) (all_and (λ s. all p (used_in s)) (λ s. all p (bound_in s)) ss)
      ∙ ap (λ (f : Slot → Bool). all f ss) (fun_ext (λ s. sym (all_cat p (used_in s) (bound_in s))))

  -- a target and fields
  module _ {T : Type 0} (view : T → Slot) (g : Target) (xs : List T) where
    pub sites_behind : all p (concat sites_in (Value (loc g) ∷ map view xs)) ≡ (all p (sites_in (Value (loc g))) & all p (concat (λ x. sites_in (view x)) xs))
    unfolding all
    sites_behind =
        sites_all (Value (loc g) ∷ map view xs)
        ∙ rw (all_map (λ s. all p (sites_in s)) view xs, all_concat p (λ x. sites_in (view x)) xs) refl

    pub variables_behind : (variables : T → List ℕ) → ((x : T) → variables x ≡ (used_in (view x) ⧺ bound_in (view x))) → all p (concat used_in (Value (loc g) ∷ map view xs) ⧺ concat bound_in (Value (loc g) ∷ map view xs)) ≡ (all p (used_in (Value (loc g)) ⧺ []) & all p (concat variables xs))
    unfolding all bound_in
    variables_behind variables h =
        variables_all (Value (loc g) ∷ map view xs)
        ∙ rw (all_map (λ s. all p (used_in s ⧺ bound_in s)) view xs, all_concat p variables xs) (ap (λ (f : T → Bool). all p (used_in (Value (loc g)) ⧺ []) & all f xs) (fun_ext (λ x. ap (all p) (sym (h x)))))

-- the slots of `out`
pub out_slots : (x : Acts Target) → slots_of (line_view (Out x)) ≡ Value (loc x.target) ∷ map (λ t. Value (loc t)) (items x.fields)
unfolding slots_of line_view acts_of
out_slots x = ap (λ ss. Value (loc x.target) ∷ ss) (twice (items x.fields))
  where
    twice : (ts : List Target) → map Value (map loc ts) ≡ map (λ t. Value (loc t)) ts
    twice [] = refl
    twice (t ∷ ts) = ap (λ ss. Value (loc t) ∷ ss) (twice ts)

-- those of `in` and `read`
pub get_slots : (l : Line) (g : Acts Field) → (l ≡ In g) ⊎ (l ≡ Read g) → slots_of (line_view l) ≡ Value (loc g.target) ∷ map slot (items g.fields)
unfolding slots_of line_view acts_of
get_slots l g (inl e) = rw e refl
get_slots l g (inr e) = rw e refl

-- the sites of a tuple's fields
pub sites_named : (ss : List SiteName) → concat (λ (s : SiteName). s.0 ∷ []) ss ≡ map (λ (s : SiteName). s.0) ss
unfolding concat ◌⧺◌
sites_named [] = refl
sites_named (s ∷ ss) = ap (λ xs. s.0 ∷ xs) (sites_named ss)
