-- Laws of free variables as sets of numbers.
-- Assumes nothing.
use mathlib.Core.Path.{◌≡◌, refl, sym, ap, ap₂, ◌∙◌}
use mathlib.Core.Bool.{Bool, not, false≢true}
use mathlib.Core.List.{List, [], ◌∷◌, ◌++◌, map}
use Prim.Native.Nat.{ℕ, suc, ◌+◌, ◌^◌, ◌<◌, ◌≤◌}
use native.Mathlib.Omega.{arith}
use lib.ListN.{length, get_or, take, drop, length-take, drop_of_length-le}
use lib.Seq.{drop-cons, get_or-take}
use Rattle.std.proofs.lemmas.List.{take_more}
use lib.Dec.{eqb}
use borrow.Author.Tests.{ne_eqb}
use Rattle.sets.specs.Lists.{All, done, more, ◌&◌, either, any, empty, concat, among, ◌⧺◌}
use Rattle.sets.proofs.Lists.{iff, and_i, and_l, and_r, in_keep, keep_out, among_in, in_among}
use Rattle.sets.specs.Bits.{has, join, less, joins}
use Rattle.sets.proofs.Bits.{has_or, has_none, has_self, or_has_l, same_bits, mem_one, has_rest}
use Rattle.sets.proofs.Joins.{join_none, join_none_r, join_assoc}
use Rattle.sets.proofs.Runs.{concat_append, concat_one}
use Rattle.klaim.specs.declared.Site.{Site}
use Rattle.klaim.specs.declared.Var.{Var}
use Rattle.klaim.specs.declared.Loc.{Loc}
use Rattle.klaim.specs.declared.Loc.TheVariants.{At, Here, Use}
use Rattle.klaim.specs.declared.Slot.{Slot}
use Rattle.klaim.specs.declared.Slot.TheVariants.{Value, Bind, Wildcard}
use Rattle.klaim.specs.Process.{Tree, par_t, out_t, get_t, eval_t, node, tree, used_in, bound_in, without, free}
use Rattle.tables.specs.declared.Action.{Action}
use Rattle.tables.specs.Low.{LowLoc, LowSlot}
use Rattle.tables.specs.View.{Lines, lines_of, action_line, ActionAt, InForm}
use Rattle.tables.proofs.LineTable.{tree_at}
use Rattle.whole.specs.Free.{mask_of}

-- the set of a list has its elements
pub mask_has : (xs : List ℕ) (n : ℕ) → has (mask_of xs) (2 ^ n) ≡ among xs n
unfolding mask_of joins among any
mask_has [] n = has_none n
mask_has (x ∷ xs) n = has_or (2 ^ x) (mask_of xs) n ∙ ap₂ either (mem_one n x) (mask_has xs n)

pub mask_empty : (xs : List ℕ) → eqb (mask_of xs) 0 ≡ empty xs
unfolding mask_of joins empty
mask_empty [] = refl
mask_empty (x ∷ xs) = ne_eqb _ 0 (λ e. false≢true (sym (has_none x) ∙ ap (λ (z : ℕ). has z (2 ^ x)) (sym e) ∙ or_has_l (2 ^ x) (mask_of xs) x (has_self x)))

mask_none : mask_of [] ≡ 0
unfolding mask_of joins
mask_none = refl

mask_cat : (xs ys : List ℕ) → mask_of (xs ⧺ ys) ≡ join (mask_of xs) (mask_of ys)
unfolding mask_of joins ◌⧺◌
mask_cat [] ys = sym (join_none (mask_of ys))
mask_cat (x ∷ xs) ys = ap (join (2 ^ x)) (mask_cat xs ys) ∙ sym (join_assoc (2 ^ x) (mask_of xs) (mask_of ys))

-- an element is kept if it is not in us
among_without : (us xs : List ℕ) (n : ℕ) → among (without us xs) n ≡ (among xs n & not (among us n))
unfolding without
among_without us xs n = iff
    (λ t. let k = keep_out (λ x. not (among us x)) xs (among_in _ n t) in and_i (in_among k.0) k.1)
    (λ t. in_among (in_keep (λ x. not (among us x)) (among_in xs n (and_l _ _ t)) (and_r _ _ t)))

mask_without : (us xs : List ℕ) → mask_of (without us xs) ≡ less (mask_of xs) (mask_of us)
mask_without us xs =
    same_bits _ _ (λ n.
    mask_has (without us xs) n ∙ among_without us xs n
    ∙ sym (has_rest (mask_of xs) (mask_of us) n ∙ ap₂ (λ (a b : Bool). a & not b) (mask_has xs n) (mask_has us n)))

pub none_free : 0 ≡ mask_of []
none_free = sym mask_none

pub no_fields : (f : Slot → List ℕ) → 0 ≡ mask_of (concat f [])
unfolding concat
no_fields f = sym mask_none

pub mask_one : (u : ℕ) → mask_of (u ∷ []) ≡ 2 ^ u
unfolding mask_of joins
mask_one u = join_none_r (2 ^ u)

-- the variables of one field more
pub fields_more : (f : Slot → List ℕ) (xs : List Slot) (x : Slot) → mask_of (concat f (xs ++ (x ∷ []))) ≡ join (mask_of (concat f xs)) (mask_of (f x))
fields_more f xs x =
    ap mask_of (concat_append f xs (x ∷ []) ∙ ap (λ (l : List ℕ). concat f xs ⧺ l) (concat_one f x)) ∙ mask_cat (concat f xs) (f x)

module _ (f : Slot → List ℕ) (xs : List Slot) (j : ℕ) (h : j < length xs) (d : Slot) where
  pub field_more : mask_of (concat f (take (j + 1) xs)) ≡ join (mask_of (concat f (take j xs))) (mask_of (f (get_or xs j d)))
  field_more = ap (λ (l : List Slot). mask_of (concat f l)) (take_more xs j d h) ∙ fields_more f (take j xs) (get_or xs j d)

  pub field_adds : {s : Slot} {m : ℕ} → get_or xs j d ≡ s → m ≡ mask_of (f s) → join (mask_of (concat f (take j xs))) m ≡ mask_of (concat f (take (j + 1) xs))
  field_adds e n = sym (field_more ∙ ap (λ (s : Slot). join (mask_of (concat f (take j xs))) (mask_of (f s))) e ∙ ap (join (mask_of (concat f (take j xs)))) (sym n))

  pub field_none : {s : Slot} → get_or xs j d ≡ s → mask_of (f s) ≡ 0 → mask_of (concat f (take j xs)) ≡ mask_of (concat f (take (j + 1) xs))
  field_none e n = sym (join_none_r _) ∙ field_adds e (sym n)

-- sets gathered from the last to the first
pub joins_end : (f : ℕ → ℕ) (xs : List ℕ) (k : ℕ) → 0 ≡ joins f (drop k (take k xs))
unfolding joins
joins_end f xs k = sym (ap (joins f) (drop_of_length-le (take k xs) {i = k} (omega (arith, length-take k xs))))

pub joins_down : (f : ℕ → ℕ) (xs : List ℕ) (k j i : ℕ) {r : ℕ} → k ≤ length xs → j < k → suc j ≡ i → r ≡ joins f (drop i (take k xs)) → join (f (get_or xs j 0)) r ≡ joins f (drop j (take k xs))
unfolding joins
joins_down f xs k j i h l e g =
    ap₂ join (ap f (sym (get_or-take k xs j 0 l))) (g ∙ ap (λ (i : ℕ). joins f (drop i (take k xs))) (sym e))
    ∙ sym (ap (joins f) (drop-cons (take k xs) j 0 (omega (arith, length-take k xs))))

-- the variables of each sort of field
pub value_bound : (x : Loc) → mask_of (bound_in (Value x)) ≡ 0
unfolding bound_in
value_bound x = mask_none

pub binder_used : (u : Var) → mask_of (used_in (Bind u)) ≡ 0
unfolding used_in
binder_used u = mask_none

pub binder_bound : (u : Var) → 2 ^ u.0 ≡ mask_of (bound_in (Bind u))
unfolding bound_in
binder_bound u = sym (mask_one u.0)

pub wildcard_used : mask_of (used_in Wildcard) ≡ 0
unfolding used_in
wildcard_used = mask_none

pub wildcard_bound : mask_of (bound_in Wildcard) ≡ 0
unfolding bound_in
wildcard_bound = mask_none

-- the variable of a target
pub at_used : (s : Site) → 0 ≡ mask_of (used_in (Value (At s)))
unfolding used_in
at_used s = sym mask_none

pub here_used : 0 ≡ mask_of (used_in (Value Here))
unfolding used_in
here_used = sym mask_none

pub use_used : (u : Var) → 2 ^ u.0 ≡ mask_of (used_in (Value (Use u)))
unfolding used_in
use_used u = sym (mask_one u.0)

-- the fields of an `out` as slots
pub slots_low : (xs : List Loc) → All LowLoc xs → All LowSlot (map Value xs)
slots_low [] h = done
slots_low (x ∷ xs) (more p h) = more p (slots_low xs h)

-- a target and fields
pub with_target : (g : Loc) (ss : List Slot) → mask_of (concat used_in (Value g ∷ ss)) ≡ join (mask_of (used_in (Value g))) (mask_of (concat used_in ss))
unfolding concat
with_target g ss = mask_cat (used_in (Value g)) (concat used_in ss)

-- the free variables of a process, by those of its parts
module _ (q : ℕ) (g : Loc) (a : Tree) where
  pub out_free : (fs : List Loc) → join (mask_of (concat used_in (map Value (g ∷ fs)))) (mask_of (free a)) ≡ mask_of (free (out_t q g fs a))
  unfolding free
  out_free fs = sym (mask_cat (concat used_in (map Value (g ∷ fs))) (free a))

  pub get_free : (right : ℕ) (ss : List Slot) → join (mask_of (concat used_in (Value g ∷ ss))) (less (mask_of (free a)) (mask_of (concat bound_in ss))) ≡ mask_of (free (get_t q right g ss a))
  unfolding free
  get_free right ss =
      ap (join (mask_of (concat used_in (Value g ∷ ss)))) (sym (mask_without (concat bound_in ss) (free a)))
      ∙ sym (mask_cat (concat used_in (Value g ∷ ss)) (without (concat bound_in ss) (free a)))

  pub eval_free : (k : ℕ) (b : Tree) → join (mask_of (used_in (Value g))) (join (mask_of (free b)) (mask_of (free a))) ≡ mask_of (free (eval_t q g k b a))
  unfolding free
  eval_free k b = ap (join (mask_of (used_in (Value g)))) (sym (mask_cat (free b) (free a))) ∙ sym (mask_cat (used_in (Value g)) (free b ⧺ free a))

pub par_free : (a b : Tree) → join (mask_of (free a)) (mask_of (free b)) ≡ mask_of (free (par_t a b))
unfolding free
par_free a b = sym (mask_cat (free a) (free b))

-- the free variables of line q, by what it does
pub free_at : {t : Lines} {q : ℕ} → InForm t q → {r : Action} → ActionAt t q r → {x : Action} → r ≡ x → mask_of (free (node (tree (lines_of t)) q (action_line x))) ≡ mask_of (free (tree (lines_of t) q))
free_at w d e = ap (λ (p : Tree). mask_of (free p)) (sym (tree_at w d e))
