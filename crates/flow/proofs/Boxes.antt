-- A sandbox evaluated at each site of a set.
-- Assumes nothing.
use mathlib.Core.Path.{◌≡◌, refl, sym, ap, ◌∙◌}
use mathlib.Core.Bool.{Bool, true, false, false≢true}
use mathlib.Core.List.{List, [], ◌∷◌}
use Prim.Native.Nat.{ℕ, ◌^◌, ◌<◌}
use lib.Dec.{eqb}
use borrow.Author.Tests.{eq-eqb, ne_eqb}
use Rattle.sets.specs.Lists.{Elem, ◌&◌, all, keep, below, table, table_from, only, ◌⧺◌}
use Rattle.sets.specs.Bits.{every_right, has, mem, sites, meet, joins, meets}
use Rattle.sets.proofs.Lists.{iff, and_l, eqb_eq, all_at, all_i}
use Rattle.sets.proofs.Bits.{has_and, has_joins, joins_has, same_bits, sites_in_lem, in_sites}
use Rattle.klaim.specs.Net.{Net, box, box_self, box_at}
use Rattle.klaim.specs.Report.{sure}
use Rattle.sets.proofs.Shared.{mem_single}
use Rattle.flow.proofs.Sites.{some_site, other_site}

-- at the site itself, and at another
pub at_own : (N : Net) (k l t : ℕ) → t ≡ l → box_at N k l t ≡ meet (box N k t) (box_self N k)
unfolding box_at
at_own N k l t e = rw (eq-eqb t l e)

pub at_other : (N : Net) (k l t : ℕ) → (t ≡ l → ⊥) → box_at N k l t ≡ box N k t
unfolding box_at
at_other N k l t e = rw (ne_eqb t l e)

-- what it has anywhere, it has at another site
at_within : (N : Net) (k l t n : ℕ) → has (box_at N k l t) (2 ^ n) ≡ true → has (box N k t) (2 ^ n) ≡ true
at_within N k l t n h = go (eqb t l) refl
  where
    go : (b : Bool) → eqb t l ≡ b → has (box N k t) (2 ^ n) ≡ true
    go true e = and_l _ _ (sym (has_and (box N k t) (box_self N k) n) ∙ ap (λ (x : ℕ). has x (2 ^ n)) (sym (at_own N k l t (eqb_eq e))) ∙ h)
    go false e = ap (λ (x : ℕ). has x (2 ^ n)) (sym (at_other N k l t (λ q. false≢true (sym e ∙ eq-eqb t l q)))) ∙ h

-- no places
pub over_none : (N : Net) (k m t : ℕ) → m ≡ 0 → 0 ≡ joins (λ l. box_at N k l t) (sites m)
unfolding joins sites keep below table table_from has only ◌⧺◌
over_none N k m t e = rw e

-- t is the one place
pub over_one : (N : Net) (k m t : ℕ) → t < 32 → m ≡ 2 ^ t → box_at N k t t ≡ joins (λ l. box_at N k l t) (sites m)
over_one N k m t h e = same_bits _ _ (λ n. iff (λ b. joins_has (λ l. box_at N k l t) n here b) (λ b. let r = has_joins (λ l. box_at N k l t) n (sites m) b in ap (λ (l : ℕ). has (box_at N k l t) (2 ^ n)) (sole r.0 r.1) ∙ r.2))
  where
    here : Elem t (sites m)
    here = sites_in_lem m t h (ap (mem t) e ∙ mem_single t t ∙ eq-eqb t t refl)

    sole : (s : ℕ) → Elem s (sites m) → t ≡ s
    sole s i = eqb_eq (sym (mem_single s t) ∙ ap (mem s) (sym e) ∙ (in_sites m s i).1)

-- there is another place
pub over_more : (N : Net) (k m t : ℕ) → m < 2 ^ 32 → (m ≡ 0 → ⊥) → (m ≡ 2 ^ t → ⊥) → box N k t ≡ joins (λ l. box_at N k l t) (sites m)
over_more N k m t h z o =
    let s = other_site m t h z o in
    same_bits _ _ (λ n. iff (λ b. joins_has (λ l. box_at N k l t) n (sites_in_lem m s.0 s.1 s.2) (ap (λ (x : ℕ). has x (2 ^ n)) (at_other N k s.0 t s.3) ∙ b)) (λ b. let r = has_joins (λ l. box_at N k l t) n (sites m) b in at_within N k r.0 t n r.2))

-- what is common to all
has_meets : (f : ℕ → ℕ) (n : ℕ) (xs : List ℕ) → has (meets f xs) (2 ^ n) ≡ (all (λ x. has (f x) (2 ^ n)) xs & has every_right (2 ^ n))
unfolding meets all ◌&◌
has_meets f n [] = refl
has_meets f n (x ∷ xs) = has_and (f x) (meets f xs) n ∙ ap (λ (b : Bool). has (f x) (2 ^ n) & b) (has_meets f n xs) ∙ go (has (f x) (2 ^ n))
  where
    go : (a : Bool) → (a & (all (λ x. has (f x) (2 ^ n)) xs & has every_right (2 ^ n))) ≡ ((a & all (λ x. has (f x) (2 ^ n)) xs) & has every_right (2 ^ n))
    go true = refl
    go false = refl

meets_as : (f : ℕ → ℕ) (v : ℕ) (xs : List ℕ) → ((n : ℕ) → has v (2 ^ n) ≡ all (λ x. has (f x) (2 ^ n)) xs) → meet v every_right ≡ meets f xs
meets_as f v xs h = same_bits _ _ (λ n. has_and v every_right n ∙ ap (λ (b : Bool). b & has every_right (2 ^ n)) (h n) ∙ sym (has_meets f n xs))

pub sure_none : (N : Net) (k m t : ℕ) → m ≡ 0 → every_right ≡ sure N k m t
unfolding sure meets sites keep below table table_from has only ◌⧺◌
sure_none N k m t e = rw e

pub sure_own : (N : Net) (k m t : ℕ) → t < 32 → mem t m ≡ true → meet (box_at N k t t) every_right ≡ sure N k m t
unfolding sure
sure_own N k m t h own = meets_as (λ l. box_at N k l t) (box_at N k t t) (sites m) (λ n. iff (λ b. all_i (λ l. has (box_at N k l t) (2 ^ n)) (sites m) (λ s i. go n b s (eqb t s) refl)) (λ b. all_at (λ l. has (box_at N k l t) (2 ^ n)) (sites_in_lem m t h own) b))
  where
    go : (n : ℕ) → has (box_at N k t t) (2 ^ n) ≡ true → (s : ℕ) (b : Bool) → eqb t s ≡ b → has (box_at N k s t) (2 ^ n) ≡ true
    go n b s true e = ap (λ (l : ℕ). has (box_at N k l t) (2 ^ n)) (sym (eqb_eq e)) ∙ b
    go n b s false e = ap (λ (x : ℕ). has x (2 ^ n)) (at_other N k s t (λ q. false≢true (sym e ∙ eq-eqb t s q))) ∙ at_within N k t t n b

pub sure_other : (N : Net) (k m t : ℕ) → m < 2 ^ 32 → (m ≡ 0 → ⊥) → mem t m ≡ false → meet (box N k t) every_right ≡ sure N k m t
unfolding sure
sure_other N k m t h z none = meets_as (λ l. box_at N k l t) (box N k t) (sites m) (λ n. iff (λ b. all_i (λ l. has (box_at N k l t) (2 ^ n)) (sites m) (λ s i. same n s (in_sites m s i).1 ∙ b)) (λ b. let s = some_site m h z in sym (same n s.0 s.2) ∙ all_at (λ l. has (box_at N k l t) (2 ^ n)) (sites_in_lem m s.0 s.1 s.2) b))
  where
    same : (n s : ℕ) → mem s m ≡ true → has (box_at N k s t) (2 ^ n) ≡ has (box N k t) (2 ^ n)
    same n s e = ap (λ (x : ℕ). has x (2 ^ n)) (at_other N k s t (λ q. false≢true (sym none ∙ ap (λ (s : ℕ). mem s m) q ∙ e)))
