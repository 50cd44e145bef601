-- Laws of the door as the code tests it.
-- Assumes nothing.
use mathlib.Core.Path.{◌≡◌, refl, sym, ap, ◌∙◌}
use mathlib.Core.Bool.{Bool, true, false}
use mathlib.Core.List.{List, [], ◌∷◌}
use mathlib.Core.Option.{none, some, some-ne-none}
use Prim.Native.Nat.{ℕ, ◌^◌}
use lib.ListN.{get_or}
use Rattle.sets.specs.Lists.{◌&◌, all, empty, below, table}
use Rattle.sets.specs.Bits.{within}
use Rattle.sets.proofs.Lists.{all_same}
use Rattle.sets.proofs.Tables.{get_or_table, in_below}
use Rattle.sets.proofs.Lists.{and_yes}
use Rattle.klaim.specs.Process.{Line, Tree, tree}
use Rattle.klaim.specs.Net.{Net, Estimate, box_at}
use Rattle.klaim.specs.Analysis.{place_set, broken, least}
use Rattle.klaim.specs.Report.{uses, adds_nothing, door}
use Rattle.door.specs.Parts.{sound, uses_fit}

-- no line is broken where there is no least
least_empty : (xs : List ℕ) → least xs ≡ none → empty xs ≡ true
unfolding empty least
least_empty [] e = refl
least_empty (x ∷ xs) e = absurd (some-ne-none _ e)

least_full : (xs : List ℕ) {x : ℕ} → least xs ≡ some x → empty xs ≡ false
unfolding empty least
least_full [] e = absurd (some-ne-none _ (sym e))
least_full (x ∷ xs) e = refl

-- the tests that the sandbox plays no part in
module _ (N : Net) (E : Estimate) (l : ℕ) (ls : List Line) (q : ℕ) {P : ℕ} (p : P ≡ 2 ^ l) where
  pub sound_broken : {x : ℕ} → least (broken N E P (tree ls q)) ≡ some x → false ≡ sound N E l (tree ls q)
  unfolding sound place_set ◌&◌
  sound_broken e = rw (least_full (broken N E (2 ^ l) (tree ls q)) (ap (λ (x : ℕ). least (broken N E x (tree ls q))) (sym p) ∙ e))

  pub sound_adds : least (broken N E P (tree ls q)) ≡ none → {a : Bool} → a ≡ adds_nothing N E P (tree ls q) → a ≡ sound N E l (tree ls q)
  unfolding sound place_set ◌&◌
  sound_adds e z = z ∙ ap (λ (x : ℕ). adds_nothing N E x (tree ls q)) p ∙ sym (and_yes _ (least_empty (broken N E (2 ^ l) (tree ls q)) (ap (λ (x : ℕ). least (broken N E x (tree ls q))) (sym p) ∙ e)))

-- the test against the sandbox
pub uses_tests : (N : Net) (E : Estimate) (d l : ℕ) (t : Tree) {P : ℕ} → P ≡ 2 ^ l → {m : List ℕ} {u : Bool} → m ≡ table 32 (uses N E P t) → u ≡ all (λ s. within (get_or m s 0) (box_at N d l s)) (below 32) → u ≡ uses_fit N E d l t
unfolding uses_fit place_set
uses_tests N E d l t {P} p {m} k w =
    w
    ∙ all_same _ _ (below 32) (λ s i. ap (λ (x : ℕ). within x (box_at N d l s)) (ap (λ (x : List ℕ). get_or x s 0) k ∙ get_or_table 32 (uses N E P t) s 0 (in_below 32 s i) ∙ ap (λ (x : ℕ). uses N E x t s) p))

-- the door is both
and_turn : (b u a : Bool) → (u & (b & a)) ≡ (b & (u & a))
unfolding ◌&◌
and_turn true u a = refl
and_turn false true a = refl
and_turn false false a = refl

pub door_parts : (N : Net) (E : Estimate) (d l : ℕ) (t : Tree) → (uses_fit N E d l t & sound N E l t) ≡ door N E d l t
unfolding uses_fit sound door
door_parts N E d l t = and_turn _ _ _
