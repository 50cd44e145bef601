-- Laws of the rights added to the report, one row after another.
-- Assumes nothing.
use mathlib.Core.Path.{◌≡◌, refl, sym, ap, ap₂, subst, ◌∙◌}
use mathlib.Core.Bool.{Bool, true, false, cond}
use mathlib.Core.List.{List}
use Prim.Native.Nat.{ℕ, ◌+◌, ◌-◌, ◌*◌, ◌/◌, ◌%◌, ◌<◌, ◌≤◌}
use native.Mathlib.Omega.{arith}
use borrow.Author.Tests.{lt-ltb, le-ltb, ltb-true, ltb-false}
use lib.Bits.{or_zero_r}
use lib.Dec.{ltb}
use lib.ListN.{length, get_or, set}
use Rattle.sets.specs.Bits.{mem, join, grant}
use Rattle.sets.proofs.Tables.{Filled, filled_more}
use Rattle.report.specs.Given.{RowAdded}

-- a subject that is not in the set
pub row_none : {m s : ℕ} (rights l : List ℕ) → mem s m ≡ false → RowAdded m s rights l l
unfolding join grant
row_none {m} {s} rights l e = record {
  long = refl;
  row = λ t h. rw e (sym (or_zero_r (get_or l (32 * s + t) 0)));
  above = λ k h. refl;
  behind = λ k h. refl;
}

-- the bytes with a row added, up to where a loop has come
abbrev pub row_bytes : ℕ → List ℕ → List ℕ → ℕ → ℕ
row_bytes at rights l k = cond (ltb k at) (get_or l k 0) (join (get_or l k 0) (get_or rights (k - at) 0))

pub row_start : (at : ℕ) (rights l : List ℕ) → Filled 0 (row_bytes at rights l) l l (at + 0)
row_start at rights l = record { long = refl; done = λ k h. sym (ap (λ (b : Bool). cond b (get_or l k 0) (join (get_or l k 0) (get_or rights (k - at) 0))) (lt-ltb k at (omega arith))); rest = λ k h. refl }

pub row_more : (at : ℕ) (rights l₀ l : List ℕ) (t : ℕ) → Filled 0 (row_bytes at rights l₀) l₀ l (at + t) → at + t < length l₀ → Filled 0 (row_bytes at rights l₀) l₀ (set l (at + t) (join (get_or l (at + t) 0) (get_or rights t 0))) (at + (t + 1))
row_more at rights l₀ l t F h =
    let e : at + t + 1 ≡ at + (t + 1) = omega arith in
    let d : at + t - at ≡ t = omega arith in
    subst (λ (j : ℕ). Filled 0 (row_bytes at rights l₀) l₀ (set l (at + t) (join (get_or l (at + t) 0) (get_or rights t 0))) j) e
    (filled_more F h
    (ap₂ join (F.rest (at + t) (omega arith)) (ap (λ (j : ℕ). get_or rights j 0) (sym d))
    ∙ sym (ap (λ (b : Bool). cond b (get_or l₀ (at + t) 0) (join (get_or l₀ (at + t) 0) (get_or rights (at + t - at) 0))) (le-ltb (at + t) at (omega arith)))))

pub row_all : (m s : ℕ) (rights l₀ l : List ℕ) → mem s m ≡ true → Filled 0 (row_bytes (32 * s) rights l₀) l₀ l (32 * s + 32) → RowAdded m s rights l₀ l
unfolding grant
row_all m s rights l₀ l e F = record {
  long = F.long;
  row = λ t h.
      let d : 32 * s + t - 32 * s ≡ t = omega arith in
      rw e
      (F.done (32 * s + t) (omega arith)
      ∙ ap (λ (b : Bool). cond b (get_or l₀ (32 * s + t) 0) (join (get_or l₀ (32 * s + t) 0) (get_or rights (32 * s + t - 32 * s) 0))) (le-ltb (32 * s + t) (32 * s) (omega arith))
      ∙ ap (λ (j : ℕ). join (get_or l₀ (32 * s + t) 0) (get_or rights j 0)) d);
  above = λ k h. F.done k (omega arith) ∙ ap (λ (b : Bool). cond b (get_or l₀ k 0) (join (get_or l₀ k 0) (get_or rights (k - 32 * s) 0))) (lt-ltb k (32 * s) h);
  behind = λ k h. F.rest k h;
}

-- the bytes with all rows added
abbrev pub uses_bytes : ℕ → List ℕ → List ℕ → ℕ → ℕ
uses_bytes m rights l k = join (get_or l k 0) (grant (mem (k / 32) m) (get_or rights (k % 32) 0))

pub uses_more : {m s : ℕ} {rights l₀ l new : List ℕ} → Filled 0 (uses_bytes m rights l₀) l₀ l (32 * s) → RowAdded m s rights l new → Filled 0 (uses_bytes m rights l₀) l₀ new (32 * (s + 1))
uses_more {m} {s} {rights} {l₀} {l} {new} F R = record {
  long = R.long ∙ F.long;
  done = λ k h. at k h (ltb k (32 * s)) refl;
  rest = λ k h. R.behind k (omega arith) ∙ F.rest k (omega arith);
}
  where
    at : (k : ℕ) → k < 32 * (s + 1) → (b : Bool) → ltb k (32 * s) ≡ b → get_or new k 0 ≡ uses_bytes m rights l₀ k
    at k h true p = R.above k (ltb-true k (32 * s) p) ∙ F.done k (ltb-true k (32 * s) p)
    at k h false p =
        let above : 32 * s ≤ k = ltb-false k (32 * s) p in
        let q : k / 32 ≡ s = omega arith in
        let t : k % 32 < 32 = omega arith in
        let e : 32 * s + k % 32 ≡ k = omega arith in
        rw q
        (ap (λ (j : ℕ). get_or new j 0) (sym e) ∙ R.row (k % 32) t ∙ ap (λ (x : ℕ). join x (grant (mem s m) (get_or rights (k % 32) 0))) (ap (λ (j : ℕ). get_or l j 0) e ∙ F.rest k above))
