-- Laws of how often lines are named.
-- Assumes nothing.
use mathlib.Core.Path.{◌≡◌, refl, sym, ap, subst, ◌∙◌}
use mathlib.Core.List.{List, [], ◌∷◌, map, map-append}
use Prim.Native.Nat.{ℕ, zero, suc, ◌+◌, ◌<◌, min}
use native.Mathlib.Omega.{arith}
use native.Mathlib.Decide.{ℕ_discrete}
use lib.Dec.{eqb}
use lib.ListN.{get_or, set, length-set, replicate, get_or-replicate}
use lib.Seq.{get_or-set_same, get_or-set_other}
use borrow.Author.Tests.{ne_eqb}
use Rattle.sets.specs.Lists.{all, keep, concat, table, table_from, below, count, ◌⧺◌}
use Rattle.sets.proofs.Lists.{eq-eqb, cat_append, count_cat, count_one, all_same}
use Rattle.sets.proofs.Tables.{in_below, table_snoc}
use Rattle.sets.proofs.Runs.{cat_none, cat_assoc, concat_append, concat_one}
use Rattle.klaim.specs.Process.{children}
use Rattle.klaim.specs.Net.{Root}
use Rattle.klaim.specs.Reader.{named_once}
use Rattle.tables.specs.View.{Lines, Roots, line_of, lines_of, root_at}
use Rattle.tables.proofs.LineTable.{lines_long}
use Rattle.whole.specs.declared.Children.{Children}
use Rattle.whole.specs.declared.Children.TheVariants.{Zero, One, Two}
use Rattle.whole.specs.Children.{list_of}
use Rattle.whole.specs.Counted.{Counted}

-- one more number in a list
count_same : (q : ℕ) → count q (q ∷ []) ≡ 1
count_same q = count_one q q ∙ rw (eq-eqb q)

count_other : (k q : ℕ) → (k ≡ q → ⊥) → count k (q ∷ []) ≡ 0
count_other k q p = count_one k q ∙ rw (ne_eqb k q p)

pub named_more : {xs cs : List ℕ} (q : ℕ) {v : ℕ} → q < 256 → v ≡ min (get_or cs q 0 + 1) 2 → Counted xs cs → Counted (xs ⧺ (q ∷ [])) (set cs q v)
named_more {xs} {cs} q {v} h e C = record {
  long = length-set cs q v ∙ C.long;
  times = λ k l. at k l (ℕ_discrete k q);
}
  where
    here : count q (xs ⧺ (q ∷ [])) ≡ count q xs + 1
    here = omega (arith, count_cat q xs (q ∷ []), count_same q)

    other : (k : ℕ) → (k ≡ q → ⊥) → count k (xs ⧺ (q ∷ [])) ≡ count k xs
    other k p = omega (arith, count_cat k xs (q ∷ []), count_other k q p)

    at : (k : ℕ) → k < 256 → Dec (k ≡ q) → get_or (set cs q v) k 0 ≡ min (count k (xs ⧺ (q ∷ []))) 2
    at k l (yes p) = rw p (get_or-set_same cs q v 0 (omega (arith, C.long)) ∙ e ∙ omega (arith, C.times q h, here))
    at k l (no p) = get_or-set_other cs q k v 0 p ∙ C.times k l ∙ ap (λ (n : ℕ). min n 2) (sym (other k p))

-- no number is named yet
pub none_named : Counted [] (replicate 256 0)
unfolding count keep
none_named = record { long = refl; times = λ k l. get_or-replicate 256 k 0 0 l }

-- the children of a line
pair : (a b : ℕ) → (a ∷ []) ⧺ (b ∷ []) ≡ a ∷ b ∷ []
unfolding ◌⧺◌
pair a b = refl

module _ {cs : Children} (xs : List ℕ) {counts : List ℕ} where
  pub children_none : cs ≡ Zero → Counted xs counts → Counted (xs ⧺ list_of cs) counts
  unfolding list_of
  children_none e C = rw (e, cat_none xs) C

  pub children_one : {a : ℕ} → cs ≡ One a → Counted (xs ⧺ (a ∷ [])) counts → Counted (xs ⧺ list_of cs) counts
  unfolding list_of
  children_one e C = rw e C

  pub children_two : {a b : ℕ} → cs ≡ Two a b → Counted ((xs ⧺ (a ∷ [])) ⧺ (b ∷ [])) counts → Counted (xs ⧺ list_of cs) counts
  unfolding list_of
  children_two {a} {b} e C = rw e (subst (λ (l : List ℕ). Counted l counts) (cat_assoc xs (a ∷ []) (b ∷ []) ∙ ap (λ (l : List ℕ). xs ⧺ l) (pair a b)) C)

-- a loop over lines, and over roots
pub lines_more : (xs : List ℕ) {r : List ℕ} (t : Lines) (q k : ℕ) (cs : List ℕ) → suc q ≡ k → cs ≡ children (line_of t q) → Counted ((xs ⧺ concat children (table q (line_of t))) ⧺ cs) r → Counted (xs ⧺ concat children (table k (line_of t))) r
lines_more xs {r} t q k cs e h C = subst (λ (l : List ℕ). Counted l r) same C
  where
    same : (xs ⧺ concat children (table q (line_of t))) ⧺ cs ≡ xs ⧺ concat children (table k (line_of t))
    same =
        cat_assoc xs (concat children (table q (line_of t))) cs
        ∙ ap (λ (l : List ℕ). xs ⧺ l)
        (ap (λ (l : List ℕ). concat children (table q (line_of t)) ⧺ l) (h ∙ sym (concat_one children (line_of t q)))
        ∙ sym (concat_append children (table q (line_of t)) (line_of t q ∷ []))
        ∙ ap (concat children) (sym (table_snoc q (line_of t)) ∙ ap (λ (n : ℕ). table n (line_of t)) e))

pub lines_none : (xs : List ℕ) {r : List ℕ} (t : Lines) → Counted xs r → Counted (xs ⧺ concat children (table 0 (line_of t))) r
unfolding concat table table_from
lines_none xs t C = rw (cat_none xs) C

abbrev pub root_lines : ℕ → Roots → List ℕ
root_lines m rs = map (λ (x : Root). x.line) (table m (root_at rs))

pub roots_none : {r : List ℕ} (rs : Roots) → Counted [] r → Counted (root_lines 0 rs) r
unfolding table table_from
roots_none rs C = C

pub roots_more : {r : List ℕ} (rs : Roots) (i k : ℕ) → suc i ≡ k → Counted (root_lines i rs ⧺ ((root_at rs i).line ∷ [])) r → Counted (root_lines k rs) r
unfolding root_at
roots_more {r} rs i k e C = subst (λ (l : List ℕ). Counted l r) same C
  where
    same : root_lines i rs ⧺ ((root_at rs i).line ∷ []) ≡ root_lines k rs
    same =
        cat_append (root_lines i rs) ((root_at rs i).line ∷ [])
        ∙ sym (map-append (λ (x : Root). x.line) (table i (root_at rs)) (root_at rs i ∷ []))
        ∙ ap (map (λ (x : Root). x.line)) (sym (table_snoc i (root_at rs)) ∙ ap (λ (n : ℕ). table n (root_at rs)) e)

-- each line is named once, by the counts
capped : (c : ℕ) → eqb (min c 2) 1 ≡ eqb c 1
capped zero = refl
capped (suc zero) = refl
capped (suc (suc c)) = ap (λ (n : ℕ). eqb n 1) high ∙ sym (ne_eqb (suc (suc c)) 1 (λ e. omega arith))
  where
    high : min (suc (suc c)) 2 ≡ 2
    high = omega arith

pub once_by : (t : Lines) (xs : List ℕ) {cs : List ℕ} → Counted (xs ⧺ concat children (lines_of t)) cs → all (λ q. eqb (get_or cs q 0) 1) (below t.count) ≡ named_once (lines_of t) xs
unfolding named_once
once_by t xs C =
    all_same _ _ (below t.count) (λ q i. ap (λ (c : ℕ). eqb c 1) (C.times q (omega (arith, in_below t.count q i, t.few))) ∙ capped (count q (xs ⧺ concat children (lines_of t))))
    ∙ ap (λ (k : ℕ). all (λ q. eqb (count q (xs ⧺ concat children (lines_of t))) 1) (below k)) (sym (lines_long t))
