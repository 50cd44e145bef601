-- Laws of a template held against a tuple, one field after the other.
-- Assumes nothing.
use mathlib.Core.Path.{◌≡◌, refl, sym, ap, ◌∙◌}
use mathlib.Core.Bool.{Bool, true, false, ◌&&◌, false≢true}
use mathlib.Core.List.{List, [], ◌∷◌}
use mathlib.Core.Logic.{◌⊎◌, inl, inr}
use Prim.Native.Nat.{ℕ, suc}
use native.Mathlib.Omega.{arith}
use borrow.Author.Tests.{eq-eqb, ne_eqb}
use lib.Dec.{eqb}
use lib.ListN.{length}
use Rattle.std.specs.List.{list_all, zip}
use Rattle.sets.specs.Lists.{◌&◌}
use Rattle.sets.proofs.Lists.{and_r, and_yes, and_no}
use Rattle.klaim.specs.declared.Loc.{Loc}
use Rattle.klaim.specs.declared.Slot.{Slot}
use Rattle.klaim.specs.declared.Slot.TheVariants.{Value, Bind, Wildcard}
use Rattle.klaim.specs.Analysis.{slot_match, matches}
use Rattle.klaim.specs.State.{Bindings, Thread}
use Rattle.klaim.specs.Engine.{value, bind_all, agrees}
use Rattle.threads.specs.View.{rebound}
use Rattle.tuples.specs.Slots.{bind_slot}

-- the loop that binds: its first slot, and where one of the lists has ended
bind_one : (s : Slot) (ss : List Slot) (v : ℕ) (vs : List ℕ) (e : Bindings) → bind_all (s ∷ ss) (v ∷ vs) e ≡ bind_all ss vs (bind_slot s v e)
unfolding bind_all bind_slot
bind_one (Value x) ss v vs e = refl
bind_one (Bind u) ss v vs e = refl
bind_one Wildcard ss v vs e = refl

pub bind_turn : {ss rest : List Slot} {vs left : List ℕ} {s : Slot} {v : ℕ} (t : Thread) {next : Thread} →
    ss ≡ s ∷ rest → vs ≡ v ∷ left → next ≡ rebound t (bind_slot s v t.bindings) →
    rebound t (bind_all ss vs t.bindings) ≡ rebound next (bind_all rest left next.bindings)
bind_turn {rest = rest} {left = left} {s = s} {v = v} t p q e = rw (p, q, e) (ap (rebound t) (bind_one s rest v left t.bindings))

pub bind_end : (ss : List Slot) (vs : List ℕ) (e : Bindings) → (ss ≡ []) ⊎ (vs ≡ []) → bind_all ss vs e ≡ e
unfolding bind_all
bind_end ss vs e (inl p) = rw p
bind_end [] vs e (inr p) = refl
bind_end (s ∷ ss) vs e (inr p) = rw p

-- the test of a field that binds nothing
abbrev pub Same : Thread → Loc → ℕ → Bool
Same th x v = eqb v (value th.site th.bindings x)

-- slots and sites of one number, tested in pairs
and_as : (a b : Bool) → (a && b) ≡ (a & b)
unfolding ◌&◌
and_as true b = refl
and_as false b = refl

pub pairs_match : (f : Loc → ℕ → Bool) (ss : List Slot) (vs : List ℕ) → length ss ≡ length vs →
    list_all (λ p. slot_match f p.0 p.1) (zip ss vs) ≡ matches f ss vs
unfolding matches
pairs_match f [] [] h = refl
pairs_match f [] (v ∷ vs) h = absurd (omega arith)
pairs_match f (s ∷ ss) [] h = absurd (omega arith)
pairs_match f (s ∷ ss) (v ∷ vs) h = and_as (slot_match f s v) _ ∙ ap (λ (b : Bool). slot_match f s v & b) (pairs_match f ss vs (omega arith))

-- a template matches tuples of its own length
matches_long : (f : Loc → ℕ → Bool) (ss : List Slot) (vs : List ℕ) → matches f ss vs ≡ true → length ss ≡ length vs
unfolding matches
matches_long f [] [] t = refl
matches_long f [] (v ∷ vs) t = absurd (false≢true t)
matches_long f (s ∷ ss) [] t = absurd (false≢true t)
matches_long f (s ∷ ss) (v ∷ vs) t = ap suc (matches_long f ss vs (and_r _ _ t))

matches_other : (f : Loc → ℕ → Bool) (ss : List Slot) (vs : List ℕ) → (length ss ≡ length vs → ⊥) → false ≡ matches f ss vs
matches_other f ss vs h = go (matches f ss vs) refl
  where
    go : (b : Bool) → matches f ss vs ≡ b → false ≡ b
    go true e = absurd (h (matches_long f ss vs e))
    go false e = refl

-- a tuple of another length, at another site, and at the target
module _ (th : Thread) (g : Loc) (ss : List Slot) (v : ℕ) (vs : List ℕ) where
  pub agree_other : (length ss ≡ length vs → ⊥) → false ≡ agrees th g ss (v ∷ vs)
  unfolding agrees
  agree_other h = matches_other (Same th) (Value g ∷ ss) (v ∷ vs) (λ e. h (omega arith))

  pub agree_far : (v ≡ value th.site th.bindings g → ⊥) → false ≡ agrees th g ss (v ∷ vs)
  unfolding agrees matches slot_match
  agree_far n = sym (and_no _ (ne_eqb v (value th.site th.bindings g) n))

  pub agree_here : v ≡ value th.site th.bindings g → matches (Same th) ss vs ≡ agrees th g ss (v ∷ vs)
  unfolding agrees matches slot_match
  agree_here e = sym (and_yes _ (eq-eqb v (value th.site th.bindings g) e))
