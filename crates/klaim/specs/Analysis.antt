-- The analysis: place sets, reach, the rules, the first broken one.
-- Assumes nothing.
use Rattle.std.specs.Prelude.{Bool, true, false, not, cond, List, [], ◌∷◌, map, ℕ, suc, min, ◌^◌}
use Rattle.std.proofs.Math.Option
use Rattle.std.proofs.Math.Option.{Option, none, some}
use Rattle.sets.specs.Lists.{◌&◌, imp, all, any, only, concat, same, below, ◌⧺◌}
use Rattle.sets.specs.Bits.{mem, sites, within}
use Rattle.klaim.specs.declared.Loc.{Loc}
use Rattle.klaim.specs.declared.Loc.TheVariants.{At, Here, Use}
use Rattle.klaim.specs.declared.Slot.{Slot}
use Rattle.klaim.specs.declared.Slot.TheVariants.{Value, Bind, Wildcard}
use Rattle.klaim.specs.Limits.{site_limit}
use Rattle.klaim.specs.Process.{Tree, nil_t, par_t, rep_t, out_t, get_t, eval_t, accept_t, tree}
use Rattle.klaim.specs.Net.{Root, Net, Estimate, box_at, may, holds}

-- "The reach of a field is the site itself, the place set for `self`, or the B sites of a variable." P is the place set.
unfoldable pub reach : Estimate → ℕ → Loc → ℕ
reach E P (At s) = 2 ^ s.0
reach E P Here = P
reach E P (Use u) = may E u.0

-- "The place set of a root is its site."
unfoldable pub place_set : ℕ → ℕ
place_set l = 2 ^ l

-- "each non-binding field": the test of one field on the row's field; No. 1: `_` "agrees with any site"
unfoldable pub slot_match : (Loc → ℕ → Bool) → Slot → ℕ → Bool
slot_match f (Value x) v = f x v
slot_match f (Bind u) v = true
slot_match f Wildcard v = true

-- "with as many fields, each non-binding field's reach holding the row's field": the test, field by field
unfoldable pub matches : (Loc → ℕ → Bool) → List Slot → List ℕ → Bool
matches f [] [] = true
matches f [] (v ∷ vs) = false
matches f (s ∷ ss) [] = false
matches f (s ∷ ss) (v ∷ vs) = slot_match f s v & matches f ss vs

-- "every choice of one site from each" of the lists passes the test
unfoldable pub choices : List (List ℕ) → (List ℕ → Bool) → Bool
choices [] f = f []
choices (xs ∷ xss) f = all (λ x. choices xss (λ ys. f (x ∷ ys))) xs

-- the place of the first element that does not pass
unfoldable pub first_not : {A : Type 0} → (A → Bool) → List A → Option ℕ
first_not f [] = none
first_not f (x ∷ xs) = cond (f x) (Option.map suc (first_not f xs)) (some 0)

-- the lesser of a number and what there is beside it
unfoldable pub lesser : ℕ → Option ℕ → ℕ
lesser x none = x
lesser x (some y) = min x y

-- the least of a list, if it has any
unfoldable pub least : List ℕ → Option ℕ
least [] = none
least (x ∷ xs) = some (lesser x (least xs))

-- the process of an L row
abbrev pub process : Net → Root → Tree
process N r = tree N.lines r.line

module _ (E : Estimate) where
  -- the sites of a reach
  abbrev pub reached : ℕ → Loc → List ℕ
  reached P g = sites (reach E P g)

  -- "there is an A row": a tuple is its site followed by its fields
  unfoldable pub stands : List ℕ → Bool
  stands t = any (same t) E.stand

  -- "out: for every site in the target's reach and every choice of one site from each field's reach, there is an A row."
  unfoldable pub out_rule : ℕ → Loc → List Loc → Bool
  out_rule P g fs = choices (map (reached P) (g ∷ fs)) stands

  -- "every `!u` has a B row for the row's field there"; No. 1: `_` "binds nothing"
  unfoldable pub bound : List Slot → List ℕ → Bool
  bound [] vs = true
  bound (s ∷ ss) [] = true
  bound (Value x ∷ ss) (v ∷ vs) = bound ss vs
  bound (Bind u ∷ ss) (v ∷ vs) = mem v (may E u.0) & bound ss vs
  bound (Wildcard ∷ ss) (v ∷ vs) = bound ss vs

  -- "in, read: for every A row at a site in the target's reach with as many fields, each non-binding field's reach holding
  -- the row's field, every `!u` has a B row for the row's field there.": the target stands for the row's site, as a first field
  unfoldable pub get_rule : ℕ → Loc → List Slot → Bool
  get_rule P g ss = all (λ row. imp (matches (λ x v. mem v (reach E P x)) (Value g ∷ ss) row) (bound (Value g ∷ ss) row)) E.stand

module _ (N : Net) (E : Estimate) where
  -- "eval: for every l and l' in the target's reach, the sandbox evaluated at l' lies within the E rights of l."
  unfoldable pub eval_rule : ℕ → Loc → ℕ → Bool
  eval_rule P g k = all (λ l. all (λ l'. all (λ t. within (box_at N k l' t) (holds E l t)) (below site_limit)) (reached E P g)) (reached E P g)

  -- the numbers of the lines of a process with place set P whose rule does not hold:
  -- "A child has its parent's place set, except an eval body, whose place set is the reach of the target."
  unfoldable pub broken : ℕ → Tree → List ℕ
  broken P nil_t = []
  broken P (par_t a b) = broken P a ⧺ broken P b
  broken P (rep_t a) = broken P a
  broken P (out_t q g fs a) = only (not (out_rule E P g fs)) q ⧺ broken P a
  broken P (get_t q r g ss a) = only (not (get_rule E P g ss)) q ⧺ broken P a
  broken P (eval_t q g k b a) = only (not (eval_rule P g k)) q ⧺ (broken (reach E P g) b ⧺ broken P a)
  broken P (accept_t k a) = broken P a

  -- "T row: its tuple has an A row."
  unfoldable pub broken_tuple : Option ℕ
  broken_tuple = first_not (stands E) N.tuples

  -- the first line whose rule does not hold, over all roots
  unfoldable pub broken_line : Option ℕ
  broken_line = least (concat (λ r. broken (place_set r.site) (process N r)) N.roots)

-- accepted, or the first broken T row or Q line, counted from 0
pub data Verdict : Type 0 where
  accepted : Verdict
  broken_t : ℕ → Verdict
  broken_q : ℕ → Verdict

-- "The net is accepted if all hold, else the answer is the first broken one: T rows first, then Q lines, each in order."
unfoldable pub verdict_of : Option ℕ → Option ℕ → Verdict
verdict_of (some i) q = broken_t i
verdict_of none (some q) = broken_q q
verdict_of none none = accepted

-- the verdict on a net and its estimate
unfoldable pub verdict : Net → Estimate → Verdict
verdict N E = verdict_of (broken_tuple N E) (broken_line N E)
