-- What No. 1 asks of `_` in the place of a spare variable, said of whole templates. It is true of every variable and template
-- (proofs/Spare.antt).
-- Assumes nothing.
use Rattle.std.specs.Prelude.{◌≡◌, Bool, true, cond, List, [], ◌∷◌, map, ℕ, eqb, get_or}
use Rattle.std.proofs.Math.Option.{none}
use Rattle.sets.specs.Lists.{all, concat}
use Rattle.sets.specs.Bits.{mem}
use Rattle.klaim.specs.declared.Loc.{Loc}
use Rattle.klaim.specs.declared.Slot.{Slot}
use Rattle.klaim.specs.declared.Slot.TheVariants.{Value, Bind, Wildcard}
use Rattle.klaim.specs.Process.{used_in, bound_in, without}
use Rattle.klaim.specs.Net.{Estimate, may}
use Rattle.klaim.specs.Analysis.{matches, bound}
use Rattle.klaim.specs.State.{Bindings}
use Rattle.klaim.specs.Engine.{bind_all}

-- `_` in the place of `!u`
unfoldable pub spared : ℕ → Slot → Slot
spared u (Value x) = Value x
spared u (Bind w) = cond (eqb w.0 u) Wildcard (Bind w)
spared u Wildcard = Wildcard

-- the template ss, with `_` in the place of each `!u`
pub record Spared (u : ℕ) (ss : List Slot) : Type 0 where
  -- "which agrees with any site", as `!u` does: the same tuples are taken
  pub same_tuples : (f : Loc → ℕ → Bool) (t : List ℕ) → matches f (map (spared u) ss) t ≡ matches f ss t
  -- "and binds nothing": u stays what it was, every other variable is bound as by ss
  pub bindings : (t : List ℕ) (e : Bindings) (w : ℕ) → get_or (bind_all (map (spared u) ss) t e) w none ≡ cond (eqb w u) (get_or e w none) (get_or (bind_all ss t e) w none)
  -- "binding a spare variable widens the estimate": it asks of E what ss asks of F, which is E but for u, where it has the tuple's sites
  pub asked : (E F : Estimate) → ((w : ℕ) → (w ≡ u → ⊥) → may E w ≡ may F w) → (t : List ℕ) → all (λ v. mem v (may F u)) t ≡ true → bound E (map (spared u) ss) t ≡ bound F ss t
  -- for 7 and 8: it uses the same variables, and binds the others
  pub used : concat used_in (map (spared u) ss) ≡ concat used_in ss
  pub binders : concat bound_in (map (spared u) ss) ≡ without (u ∷ []) (concat bound_in ss)
