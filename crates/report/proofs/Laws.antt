-- Laws of the report as the code collects it.
-- Assumes nothing.
use mathlib.Core.Path.{◌≡◌, refl, sym, ap, ap₂, subst, ◌∙◌}
use mathlib.Core.List.{List}
use Prim.Native.Nat.{ℕ, ◌+◌, ◌*◌, ◌/◌, ◌%◌, ◌<◌}
use native.Mathlib.Omega.{arith}
use lib.Bits.{or_zero_r}
use lib.ListN.{length, get_or}
use lib.Seq.{ext_get_or}
use Rattle.sets.specs.Lists.{table}
use Rattle.sets.specs.Bits.{mem, join, grant, less}
use Rattle.sets.proofs.Tables.{get_or_table, length_table, same_table}
use Rattle.klaim.specs.declared.Loc.{Loc}
use Rattle.klaim.specs.Process.{Tree, node, tree}
use Rattle.klaim.specs.Net.{Net, Estimate, home, holds}
use Rattle.klaim.specs.Analysis.{reach}
use Rattle.klaim.specs.Report.{sure, uses, eval_adds, adds, hold_adds}
use Rattle.tables.specs.declared.Action.{Action}
use Rattle.tables.specs.declared.Action.TheVariants.{Nil, Par, Rep, Out, In, Read, Eval, Accept}
use Rattle.tables.specs.Low.{LowLoc}
use Rattle.tables.specs.View.{Lines, lines_of, action_line, ActionAt, InForm}
use Rattle.tables.proofs.LineTable.{tree_at, Child, Next as NextOf, next}
use Rattle.flow.proofs.Laws.{at_table}
use Rattle.report.specs.declared.Evals.{Evals}
use Rattle.report.specs.declared.Evals.TheVariants.{Nothing, Both, Next, Sends}
use Rattle.report.specs.Evals.{evals_of}
use Rattle.sets.proofs.Joins.{join_assoc}

-- policies out of their tables
pub hold_at : (N : Net) (E : Estimate) (i : ℕ) → less (get_or E.hold i 0) (get_or N.homes i 0) ≡ hold_adds N E (i / 32) (i % 32)
unfolding hold_adds holds home
hold_at N E i = ap₂ less (ap (λ (k : ℕ). get_or E.hold k 0) same) (ap (λ (k : ℕ). get_or N.homes k 0) same)
  where
    same : i ≡ 32 * (i / 32) + i % 32
    same = omega arith

-- nothing added; one part after another
pub add_none : (a : List ℕ) → length a ≡ 1024 → a ≡ table 1024 (λ i. join (get_or a i 0) 0)
unfolding join
add_none a e = ext_get_or 0 a _ (e ∙ sym (length_table 1024 (λ i. join (get_or a i 0) 0))) (λ k h. sym (get_or_table 1024 (λ i. join (get_or a i 0) 0) k 0 (omega (arith, e)) ∙ or_zero_r (get_or a k 0)))

pub add_two : (a : List ℕ) (f g : ℕ → ℕ) {b : List ℕ} → b ≡ table 1024 (λ i. join (get_or a i 0) (f i)) → table 1024 (λ i. join (get_or b i 0) (g i)) ≡ table 1024 (λ i. join (get_or a i 0) (join (f i) (g i)))
add_two a f g {b} e = same_table 1024 _ _ 0 (λ i h. ap (λ (x : ℕ). join x (g i)) (at_table 1024 (λ i. join (get_or a i 0) (f i)) e i h) ∙ join_assoc _ _ _)

-- the use map of a body less the sure rights
pub less_at : (N : Net) (E : Estimate) (m k : ℕ) (b : Tree) {us ls : List ℕ} → us ≡ table 32 (uses N E m b) → ls ≡ table 32 (λ t. less (get_or us t 0) (sure N k m t)) → (t : ℕ) → t < 32 → get_or ls t 0 ≡ less (uses N E m b t) (sure N k m t)
less_at N E m k b {us} {ls} u l t h = at_table 32 (λ t. less (get_or us t 0) (sure N k m t)) l t h ∙ ap (λ (x : ℕ). less x (sure N k m t)) (at_table 32 (uses N E m b) u t h)

-- what one eval line adds
add_eval : (N : Net) (E : Estimate) (a : List ℕ) (m k : ℕ) (b : Tree) {us ls : List ℕ} → us ≡ table 32 (uses N E m b) → ls ≡ table 32 (λ t. less (get_or us t 0) (sure N k m t)) → table 1024 (λ i. join (get_or a i 0) (grant (mem (i / 32) m) (get_or ls (i % 32) 0))) ≡ table 1024 (λ i. join (get_or a i 0) (eval_adds N E m k b (i / 32) (i % 32)))
unfolding eval_adds
add_eval N E a m k b u l = same_table 1024 _ _ 0 (λ i h. ap (λ (x : ℕ). join (get_or a i 0) (grant (mem (i / 32) m) x)) (less_at N E m k b u l (i % 32) (omega arith)))

-- what the recursion meets in each arm: the children, and numbers within limits
abbrev pub Below : Lines → ℕ → Evals → Type 0
Below t q Nothing = Unit {0}
Below t q (Both a b) = Child t q a × Child t q b
Below t q (Next a) = Child t q a × Unit {0}
Below t q (Sends a g b k) = Child t q a × LowLoc g × Child t q b × (k < 32)

below_of : (t : Lines) (q : ℕ) (x : Action) → NextOf t q x → Below t q (evals_of x)
unfolding evals_of
below_of t q Nil h = tt
below_of t q (Par a b) h = h
below_of t q (Rep a) h = h
below_of t q (Out a g k) h = (h.0, tt)
below_of t q (In a g k) h = (h.0, tt)
below_of t q (Read a g k) h = (h.0, tt)
below_of t q (Eval a g b k) h = h
below_of t q (Accept a k) h = (h.0, tt)

-- what the eval lines of a line add, its children's processes given by their numbers
unfoldable pub adds_by : (N : Net) (E : Estimate) (P : ℕ) → (ℕ → Tree) → Evals → ℕ → ℕ → ℕ
adds_by N E P f Nothing s t = 0
adds_by N E P f (Both a b) s t = join (adds N E P (f a) s t) (adds N E P (f b) s t)
adds_by N E P f (Next a) s t = adds N E P (f a) s t
adds_by N E P f (Sends a g b k) s t = join (eval_adds N E (reach E P g) k (f b) s t) (join (adds N E (reach E P g) (f b) s t) (adds N E P (f a) s t))

adds_of : (N : Net) (E : Estimate) (P : ℕ) (f : ℕ → Tree) (q : ℕ) (x : Action) (s t : ℕ) → adds_by N E P f (evals_of x) s t ≡ adds N E P (node f q (action_line x)) s t
unfolding adds_by evals_of adds node action_line
adds_of N E P f q Nil s t = refl
adds_of N E P f q (Par a b) s t = refl
adds_of N E P f q (Rep a) s t = refl
adds_of N E P f q (Out a g fs) s t = refl
adds_of N E P f q (In a g fs) s t = refl
adds_of N E P f q (Read a g fs) s t = refl
adds_of N E P f q (Eval a g b k) s t = refl
adds_of N E P f q (Accept a k) s t = refl

-- line q by what its eval lines add
module _ {t : Lines} {q : ℕ} (w : InForm t q) {r : Action} (d : ActionAt t q r) {p x : Evals} (h : p ≡ evals_of r) (e : p ≡ x) where
  pub below_at : Below t q x
  below_at = subst (Below t q) (sym h ∙ e) (below_of t q r (next w d refl))

  pub adds_at : (N : Net) (E : Estimate) (P s o : ℕ) → adds_by N E P (tree (lines_of t)) x s o ≡ adds N E P (tree (lines_of t) q) s o
  adds_at N E P s o =
      ap (λ (y : Evals). adds_by N E P (tree (lines_of t)) y s o) (sym e ∙ h)
      ∙ adds_of N E P (tree (lines_of t)) q r s o
      ∙ ap (λ (y : Tree). adds N E P y s o) (sym (tree_at w d refl))

  pub report_at_lem : (N : Net) (E : Estimate) (P : ℕ) (a : List ℕ) → table 1024 (λ i. join (get_or a i 0) (adds_by N E P (tree (lines_of t)) x (i / 32) (i % 32))) ≡ table 1024 (λ i. join (get_or a i 0) (adds N E P (tree (lines_of t) q) (i / 32) (i % 32)))
  report_at_lem N E P a = same_table 1024 _ _ 0 (λ i l. ap (join (get_or a i 0)) (adds_at N E P (i / 32) (i % 32)))

-- an eval line: what it adds, then its body, then what follows it
pub add_sends : (N : Net) (E : Estimate) (P : ℕ) (f : ℕ → Tree) (a : ℕ) (g : Loc) (b k : ℕ) (rep : List ℕ) {m : ℕ} {us ls r1 r2 r3 : List ℕ} → m ≡ reach E P g → us ≡ table 32 (uses N E m (f b)) → ls ≡ table 32 (λ t. less (get_or us t 0) (sure N k m t)) → r1 ≡ table 1024 (λ i. join (get_or rep i 0) (grant (mem (i / 32) m) (get_or ls (i % 32) 0))) → r2 ≡ table 1024 (λ i. join (get_or r1 i 0) (adds N E m (f b) (i / 32) (i % 32))) → r3 ≡ table 1024 (λ i. join (get_or r2 i 0) (adds N E P (f a) (i / 32) (i % 32))) → r3 ≡ table 1024 (λ i. join (get_or rep i 0) (adds_by N E P f (Sends a g b k) (i / 32) (i % 32)))
unfolding adds_by
add_sends N E P f a g b k rep {m} {us} {ls} {r1} e u l x y z =
    z
    ∙ add_two r1 (λ i. adds N E m (f b) (i / 32) (i % 32)) (λ i. adds N E P (f a) (i / 32) (i % 32)) y
    ∙ add_two rep (λ i. eval_adds N E m k (f b) (i / 32) (i % 32)) (λ i. join (adds N E m (f b) (i / 32) (i % 32)) (adds N E P (f a) (i / 32) (i % 32))) (x ∙ add_eval N E rep m k (f b) u l)
    ∙ ap (λ (m : ℕ). table 1024 (λ i. join (get_or rep i 0) (join (eval_adds N E m k (f b) (i / 32) (i % 32)) (join (adds N E m (f b) (i / 32) (i % 32)) (adds N E P (f a) (i / 32) (i % 32)))))) e
