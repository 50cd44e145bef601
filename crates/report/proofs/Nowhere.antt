-- Laws of what adds nothing to a report.
-- Assumes nothing.
use mathlib.Core.Path.{◌≡◌, refl, sym, ap, ap₂, ◌∙◌}
use mathlib.Core.Bool.{Bool, true, false}
use mathlib.Core.List.{List}
use Prim.Native.Nat.{ℕ, ◌<◌, ◌^◌}
use borrow.Author.Tests.{eq-eqb}
use lib.Dec.{eqb}
use lib.ListN.{get_or}
use Rattle.sets.specs.Lists.{◌&◌, all, table, below}
use Rattle.sets.specs.Bits.{mem, join, grant, less}
use Rattle.sets.proofs.Lists.{and_l, and_r, and_i, eqb_eq, all_at, all_i, iff}
use Rattle.sets.proofs.Tables.{below_in, in_below}
use Rattle.sets.proofs.Bits.{has_none}
use Rattle.klaim.specs.declared.Loc.{Loc}
use Rattle.klaim.specs.Process.{Tree, tree}
use Rattle.klaim.specs.Net.{Net, Estimate}
use Rattle.klaim.specs.Analysis.{reach}
use Rattle.klaim.specs.Report.{sure, uses, eval_adds, adds, adds_nothing}
use Rattle.tables.specs.declared.Action.{Action}
use Rattle.tables.specs.View.{Lines, lines_of, ActionAt, InForm}
use Rattle.flow.proofs.Sites.{some_site}
use Rattle.report.specs.declared.Evals.{Evals}
use Rattle.report.specs.declared.Evals.TheVariants.{Nothing, Both, Next, Sends}
use Rattle.report.specs.Evals.{evals_of, nowhere}
use Rattle.sets.proofs.Joins.{join_none, join_zero}
use Rattle.report.proofs.Laws.{less_at, adds_by, adds_at}

module _ (f : ℕ → ℕ → ℕ) where
  nowhere_at : nowhere f ≡ true → (s t : ℕ) → s < 32 → t < 32 → f s t ≡ 0
  unfolding nowhere
  nowhere_at h s t p q = eqb_eq (all_at (λ t. eqb (f s t) 0) (below_in 32 t q) (all_at (λ s. all (λ t. eqb (f s t) 0) (below 32)) (below_in 32 s p) h))

  nowhere_i : ((s t : ℕ) → s < 32 → t < 32 → f s t ≡ 0) → nowhere f ≡ true
  unfolding nowhere
  nowhere_i h = all_i _ _ (λ s i. all_i _ _ (λ t j. eq-eqb _ _ (h s t (in_below 32 s i) (in_below 32 t j))))

nowhere_same : (f g : ℕ → ℕ → ℕ) → ((s t : ℕ) → f s t ≡ g s t) → nowhere f ≡ nowhere g
nowhere_same f g h = iff (λ a. nowhere_i g (λ s t p q. sym (h s t) ∙ nowhere_at f a s t p q)) (λ a. nowhere_i f (λ s t p q. h s t ∙ nowhere_at g a s t p q))

nowhere_join : (f g : ℕ → ℕ → ℕ) → nowhere (λ s t. join (f s t) (g s t)) ≡ (nowhere f & nowhere g)
nowhere_join f g = iff
    (λ a. and_i (nowhere_i f (λ s t p q. (join_zero _ _ (nowhere_at _ a s t p q)).0)) (nowhere_i g (λ s t p q. (join_zero _ _ (nowhere_at _ a s t p q)).1)))
    (λ a. nowhere_i _ (λ s t p q. ap₂ join (nowhere_at f (and_l _ _ a) s t p q) (nowhere_at g (and_r _ _ a) s t p q) ∙ join_none 0))

module _ (N : Net) (E : Estimate) where
  nothing_is : (P : ℕ) (a : Tree) → adds_nothing N E P a ≡ nowhere (adds N E P a)
  unfolding adds_nothing nowhere
  nothing_is P a = refl

  module _ (k : ℕ) (b : Tree) (m : ℕ) where
    -- what a body adds for a subject outside the reach, and inside
    adds_outside : (s t : ℕ) → mem s m ≡ false → eval_adds N E m k b s t ≡ 0
    unfolding eval_adds grant
    adds_outside s t e = rw e

    adds_inside : (s t : ℕ) → mem s m ≡ true → eval_adds N E m k b s t ≡ less (uses N E m b t) (sure N k m t)
    unfolding eval_adds grant
    adds_inside s t e = rw e

    adds_zero : (s t : ℕ) → less (uses N E m b t) (sure N k m t) ≡ 0 → eval_adds N E m k b s t ≡ 0
    adds_zero s t e = go (mem s m) refl
      where
        go : (x : Bool) → mem s m ≡ x → eval_adds N E m k b s t ≡ 0
        go true h = adds_inside s t h ∙ e
        go false h = adds_outside s t h

    -- a body sent nowhere, and a body sent to some site
    pub sent_none : m ≡ 0 → true ≡ nowhere (eval_adds N E m k b)
    sent_none e = sym (nowhere_i _ (λ s t p q. adds_outside s t (ap (mem s) e ∙ has_none s)))

    pub sent_some : {us ls : List ℕ} → m < 2 ^ 32 → (m ≡ 0 → ⊥) → us ≡ table 32 (uses N E m b) → ls ≡ table 32 (λ t. less (get_or us t 0) (sure N k m t)) → all (λ t. eqb (get_or ls t 0) 0) (below 32) ≡ nowhere (eval_adds N E m k b)
    sent_some {us} {ls} h z u l = iff
        (λ a. nowhere_i _ (λ s t p q. adds_zero s t (sym (less_at N E m k b u l t q) ∙ eqb_eq (all_at (λ t. eqb (get_or ls t 0) 0) (below_in 32 t q) a))))
        (λ a. all_i _ _ (λ t i. eq-eqb _ _ (go t (in_below 32 t i) a)))
      where
        go : (t : ℕ) → t < 32 → nowhere (eval_adds N E m k b) ≡ true → get_or ls t 0 ≡ 0
        go t q a =
            let r = some_site m h z in
            less_at N E m k b u l t q ∙ sym (adds_inside r.0 t r.2) ∙ nowhere_at _ a r.0 t r.1 q

  -- line q by its children
  module _ (P : ℕ) {t : Lines} {q : ℕ} (w : InForm t q) {r : Action} (d : ActionAt t q r) {p : Evals} (h : p ≡ evals_of r) where
    nothing_at : {x : Evals} → p ≡ x → nowhere (adds_by N E P (tree (lines_of t)) x) ≡ adds_nothing N E P (tree (lines_of t) q)
    nothing_at e = nowhere_same _ _ (adds_at w d h e N E P) ∙ sym (nothing_is P (tree (lines_of t) q))

    pub nothing_nil : p ≡ Nothing → true ≡ adds_nothing N E P (tree (lines_of t) q)
    unfolding adds_by
    nothing_nil e = sym (nowhere_i (λ s t. 0) (λ s t x y. refl)) ∙ nothing_at e

    pub nothing_both : {a b : ℕ} → p ≡ Both a b → (adds_nothing N E P (tree (lines_of t) a) & adds_nothing N E P (tree (lines_of t) b)) ≡ adds_nothing N E P (tree (lines_of t) q)
    unfolding adds_by
    nothing_both e = ap₂ ◌&◌ (nothing_is P _) (nothing_is P _) ∙ sym (nowhere_join _ _) ∙ nothing_at e

    pub nothing_next : {a : ℕ} → p ≡ Next a → adds_nothing N E P (tree (lines_of t) a) ≡ adds_nothing N E P (tree (lines_of t) q)
    unfolding adds_by
    nothing_next e = nothing_is P _ ∙ nothing_at e

    pub nothing_sends : {a k b : ℕ} {g : Loc} {m : ℕ} → p ≡ Sends a g b k → m ≡ reach E P g → (nowhere (eval_adds N E m k (tree (lines_of t) b)) & (adds_nothing N E m (tree (lines_of t) b) & adds_nothing N E P (tree (lines_of t) a))) ≡ adds_nothing N E P (tree (lines_of t) q)
    unfolding adds_by
    nothing_sends e i = rw i (ap₂ ◌&◌ refl (ap₂ ◌&◌ (nothing_is _ _) (nothing_is P _) ∙ sym (nowhere_join _ _)) ∙ sym (nowhere_join _ _) ∙ nothing_at e)

-- one test after another: the last one's answer, or the first that fails
pub and_take : {r a x b : Bool} → r ≡ a → r ≡ true → x ≡ b → x ≡ (a & b)
unfolding ◌&◌
and_take {b = b} p t e = e ∙ ap (λ (y : Bool). y & b) (sym t ∙ p)

pub and_stop : {r a : Bool} (b : Bool) → r ≡ a → r ≡ false → r ≡ (a & b)
unfolding ◌&◌
and_stop b p t = t ∙ ap (λ (y : Bool). y & b) (sym t ∙ p)
