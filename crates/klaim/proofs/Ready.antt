-- `runnable` tries every m and every r that matter: whatever m and r make a bare step perform, it finds.
-- Assumes nothing.
use mathlib.Core.Path.{◌≡◌, refl, sym, ap, subst, ◌∙◌}
use mathlib.Core.Bool.{Bool, true, false, false≢true}
use mathlib.Core.List.{List, [], ◌∷◌}
use mathlib.Core.Option.{Option, none, some}
use Prim.Native.Nat.{ℕ, zero, suc, ◌<◌, ◌≤◌}
use native.Mathlib.Omega.{arith}
use lib.Dec.{leb}
use lib.ListN.{length, get_elem?}
use Rattle.sets.specs.Lists.{Elem, first, later, any, splice, among}
use Rattle.sets.specs.Bits.{in_bit, read_bit}
use Rattle.sets.proofs.Lists.{any_i, among_in, leb_le, nleb_lt}
use Rattle.sets.proofs.Tables.{below_in}
use Rattle.klaim.specs.Process.{Line, Nil, Par, Rep, Out, In, Read, Eval, Accept, line_at, tree}
use Rattle.klaim.specs.Report.{door}
use Rattle.klaim.specs.State.{Thread, State}
use Rattle.klaim.specs.Engine.{get_plan, accept_plan, plan, finish, step_of, step, performs, runnable}

-- past the end there is nothing
no_elem : {A : Type 0} (xs : List A) (m : ℕ) → length xs ≤ m → get_elem? xs m ≡ none
no_elem [] m h = refl
no_elem (x ∷ xs) zero h = absurd (omega arith)
no_elem (x ∷ xs) (suc m) h = no_elem xs m (omega arith)

module _ (st : State) (k : ℕ) where
  -- every m past the tuples is as good as the first such
  plan_past : (th : Thread) (m r : ℕ) (l : Line) → length st.tuples ≤ m → plan st k th m r l ≡ plan st k th (length st.tuples) r l
  unfolding plan get_plan
  plan_past th m r Nil h = refl
  plan_past th m r (Par a b) h = refl
  plan_past th m r (Rep a) h = refl
  plan_past th m r (Out a g fs) h = refl
  plan_past th m r (In a g ss) h =
      ap (get_plan st k th in_bit a g ss (splice m [] st.tuples)) (no_elem st.tuples m h)
      ∙ sym (ap (get_plan st k th in_bit a g ss (splice (length st.tuples) [] st.tuples)) (no_elem st.tuples (length st.tuples) (omega arith)))
  plan_past th m r (Read a g ss) h =
      ap (get_plan st k th read_bit a g ss st.tuples) (no_elem st.tuples m h)
      ∙ sym (ap (get_plan st k th read_bit a g ss st.tuples) (no_elem st.tuples (length st.tuples) (omega arith)))
  plan_past th m r (Eval a g b d) h = refl
  plan_past th m r (Accept a d) h = refl

  step_of_past : (m r : ℕ) (x : Option Thread) → length st.tuples ≤ m → step_of false st k m r x ≡ step_of false st k (length st.tuples) r x
  unfolding step_of
  step_of_past m r none h = refl
  step_of_past m r (some th) h = ap (finish false st th) (plan_past th m r (line_at st.lines th.line) h)

  -- an r that is no arrival's root performs only where r does not matter
  plan_other : (th : Thread) (m r : ℕ) (l : Line) → among st.arrivals r ≡ false → performs (finish false st th (plan st k th m r l)).answer ≡ true → performs (finish false st th (plan st k th m 0 l)).answer ≡ true
  unfolding plan accept_plan finish performs
  plan_other th m r Nil e p = p
  plan_other th m r (Par a b) e p = p
  plan_other th m r (Rep a) e p = p
  plan_other th m r (Out a g fs) e p = p
  plan_other th m r (In a g ss) e p = p
  plan_other th m r (Read a g ss) e p = p
  plan_other th m r (Eval a g b d) e p = p
  plan_other th m r (Accept a d) e p =
      absurd (false≢true (subst (λ (b : Bool). performs (finish false st th (accept_plan st k th r a d b (door st.net st.estimate d th.site (tree st.lines r)))).answer ≡ true) e p))

  step_of_other : (m r : ℕ) (x : Option Thread) → among st.arrivals r ≡ false → performs (step_of false st k m r x).answer ≡ true → performs (step_of false st k m 0 x).answer ≡ true
  unfolding step_of
  step_of_other m r none e p = p
  step_of_other m r (some th) e p = plan_other th m r (line_at st.lines th.line) e p

  -- m among those tried
  low_m : (m r : ℕ) → performs (step false st k m r).answer ≡ true → (n : ℕ) × (n < suc (length st.tuples)) × (performs (step false st k n r).answer ≡ true)
  unfolding step
  low_m m r p = go (leb (length st.tuples) m) refl
    where
      go : (b : Bool) → leb (length st.tuples) m ≡ b → (n : ℕ) × (n < suc (length st.tuples)) × (performs (step_of false st k n r (get_elem? st.threads k)).answer ≡ true)
      go true e = (length st.tuples, omega arith, subst (λ x. performs x.answer ≡ true) (step_of_past m r (get_elem? st.threads k) (leb_le _ _ e)) p)
      go false e = (m, omega (arith, nleb_lt (length st.tuples) m e), p)

  -- r among those tried
  known_r : (m r : ℕ) → performs (step false st k m r).answer ≡ true → (s : ℕ) × Elem s (0 ∷ st.arrivals) × (performs (step false st k m s).answer ≡ true)
  unfolding step
  known_r m r p = go (among st.arrivals r) refl
    where
      go : (b : Bool) → among st.arrivals r ≡ b → (s : ℕ) × Elem s (0 ∷ st.arrivals) × (performs (step_of false st k m s (get_elem? st.threads k)).answer ≡ true)
      go true e = (r, later (among_in st.arrivals r e), p)
      go false e = (0, first refl, step_of_other m r (get_elem? st.threads k) e p)

  pub runnable_any : (m r : ℕ) → performs (step false st k m r).answer ≡ true → runnable st k ≡ true
  unfolding runnable
  runnable_any m r p =
      let (n, low, q) = low_m m r p in
      let (s, i, t) = known_r n r q in
      any_i (λ m. any (λ r. performs (step false st k m r).answer) (0 ∷ st.arrivals)) (below_in _ n low) (any_i (λ r. performs (step false st k n r).answer) i t)
