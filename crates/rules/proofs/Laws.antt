-- Laws of the rules as the code tests them.
-- Assumes nothing.
use mathlib.Core.Path.{◌≡◌, refl, sym, ap, ◌∙◌}
use mathlib.Core.Bool.{Bool, true, false}
use mathlib.Core.List.{List, [], ◌∷◌, ◌++◌}
use Prim.Native.Nat.{ℕ, ◌+◌}
use lib.ListN.{get_or}
use Rattle.std.specs.Prelude.{◌&&◌}
use Rattle.sets.specs.Lists.{◌&◌, imp, all, only, keep, ◌⧺◌, table, below}
use Rattle.sets.specs.Bits.{mem, sites, within, joins}
use Rattle.sets.proofs.Lists.{all_at, all_i, all_same, iff}
use Rattle.sets.proofs.Runs.{below_snoc}
use Rattle.sets.proofs.Tables.{get_or_table, in_below}
use Rattle.sets.proofs.Bits.{within_joins}
use Rattle.klaim.specs.declared.Loc.{Loc}
use Rattle.klaim.specs.Net.{Net, Estimate, box_at, holds}
use Rattle.klaim.specs.Analysis.{reach, reached, eval_rule}

-- all numbers below a limit, and the next one
both_all : (f : ℕ → Bool) (xs : List ℕ) (x : ℕ) → (all f xs && f x) ≡ all f (xs ++ (x ∷ []))
unfolding all ◌&◌
both_all f [] x = go (f x)
  where
    go : (b : Bool) → (true && b) ≡ (b & true)
    go true = refl
    go false = refl
both_all f (y ∷ ys) x = go (f y) _ _ (both_all f ys x)
  where
    go : (b : Bool) (c d : Bool) → (c && f x) ≡ d → ((b & c) && f x) ≡ (b & d)
    go true c d e = e
    go false c d e = refl

pub all_further : (f : ℕ → Bool) (n : ℕ) → (all f (below n) && f n) ≡ all f (below (n + 1))
all_further f n = both_all f (below n) n ∙ ap (all f) (sym (below_snoc n))

all_only : {A : Type 0} (f : A → Bool) (b : Bool) (x : A) (ys : List A) → (imp b (f x) & all f ys) ≡ all f (only b x ⧺ ys)
unfolding imp only ◌⧺◌ all ◌&◌
all_only f true x ys = refl
all_only f false x ys = refl

all_keep : {A : Type 0} (p f : A → Bool) (xs : List A) → all (λ x. imp (p x) (f x)) xs ≡ all f (keep p xs)
unfolding all keep
all_keep p f [] = refl
all_keep p f (x ∷ xs) = ap (λ (b : Bool). imp (p x) (f x) & b) (all_keep p f xs) ∙ all_only f (p x) x (keep p xs)

pub all_sites : (f : ℕ → Bool) (m : ℕ) → all (λ l. imp (mem l m) (f l)) (below 32) ≡ all f (sites m)
unfolding sites
all_sites f m = all_keep (λ l. mem l m) f (below 32)

-- the eval rule, by what some site of the reach needs
module _ (N : Net) (E : Estimate) (P : ℕ) (g : Loc) (k : ℕ) where
  abbrev one : ℕ → ℕ → ℕ → Bool
  one l l' t = within (box_at N k l' t) (holds E l t)

  abbrev many : ℕ → ℕ → Bool
  many l t = within (joins (λ l'. box_at N k l' t) (sites (reach E P g))) (holds E l t)

  eval_rule_lem : all (λ l. all (λ t. many l t) (below 32)) (sites (reach E P g)) ≡ eval_rule N E P g k
  unfolding eval_rule
  eval_rule_lem = iff
      (λ h. all_i (λ l. all (λ l'. all (λ t. one l l' t) (below 32)) (reached E P g)) (reached E P g) (λ l i. all_i (λ l'. all (λ t. one l l' t) (below 32)) (reached E P g) (λ l' j. all_i (λ t. one l l' t) (below 32) (λ t b. all_at (λ l'. one l l' t) j (sym (within_joins (λ l'. box_at N k l' t) (holds E l t) (reached E P g)) ∙ all_at (λ t. many l t) b (all_at (λ l. all (λ t. many l t) (below 32)) i h))))))
      (λ h. all_i (λ l. all (λ t. many l t) (below 32)) (reached E P g) (λ l i. all_i (λ t. many l t) (below 32) (λ t b. within_joins (λ l'. box_at N k l' t) (holds E l t) (reached E P g) ∙ all_i (λ l'. one l l' t) (reached E P g) (λ l' j. all_at (λ t. one l l' t) b (all_at (λ l'. all (λ t. one l l' t) (below 32)) j (all_at (λ l. all (λ l'. all (λ t. one l l' t) (below 32)) (reached E P g)) i h))))))

  pub eval_rule_at : (m : ℕ) (need : List ℕ) → need ≡ table 32 (λ t. joins (λ l. box_at N k l t) (sites m)) → m ≡ reach E P g → all (λ l. all (λ t. within (get_or need t 0) (holds E l t)) (below 32)) (sites m) ≡ eval_rule N E P g k
  eval_rule_at m need n e =
      all_same (λ l. all (λ t. within (get_or need t 0) (holds E l t)) (below 32)) (λ l. all (λ t. within (joins (λ l'. box_at N k l' t) (sites m)) (holds E l t)) (below 32)) (sites m)
      (λ l _. all_same (λ t. within (get_or need t 0) (holds E l t)) (λ t. within (joins (λ l'. box_at N k l' t) (sites m)) (holds E l t)) (below 32) (λ t i. ap (λ (x : ℕ). within x (holds E l t)) (ap (λ (xs : List ℕ). get_or xs t 0) n ∙ get_or_table 32 (λ t. joins (λ l. box_at N k l t) (sites m)) t 0 (in_below 32 t i))))
      ∙ ap (λ (m : ℕ). all (λ l. all (λ t. within (joins (λ l'. box_at N k l' t) (sites m)) (holds E l t)) (below 32)) (sites m)) e
      ∙ eval_rule_lem

pub held_yes : (b x : Bool) → b ≡ true → x ≡ imp b x
unfolding imp
held_yes b x h = rw h

pub held_no : (b x : Bool) → b ≡ false → true ≡ imp b x
unfolding imp
held_no b x h = rw h
