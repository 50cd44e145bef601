-- Laws of the tests over all lines and over all roots.
-- Assumes nothing.
use mathlib.Core.Path.{◌≡◌, refl, sym, ap, ◌∙◌}
use mathlib.Core.Bool.{Bool, true, false}
use mathlib.Core.List.{map}
use Prim.Native.Nat.{ℕ, zero, suc, ◌<◌, ◌≤◌}
use native.Mathlib.Omega.{arith}
use lib.Dec.{ltb}
use borrow.Author.Tests.{lt-ltb, le-ltb}
use Rattle.sets.specs.Lists.{◌&◌, all, empty, table_from, table}
use Rattle.sets.proofs.Lists.{ltb_lt, and_true, all_map}
use Rattle.sets.proofs.Tables.{table_all}
use Rattle.klaim.specs.Process.{children, ordered_from, ordered, tree, free}
use Rattle.klaim.specs.Net.{Root}
use Rattle.klaim.specs.Reader.{roots_closed}
use Rattle.tables.specs.View.{Lines, Roots, line_of, lines_of, root_at, roots_of, InForm}
use Rattle.tables.proofs.LineTable.{lines_long}
use Rattle.whole.specs.declared.Children.{Children}
use Rattle.whole.specs.declared.Children.TheVariants.{Zero, One, Two}
use Rattle.whole.specs.Children.{list_of}
use Rattle.whole.specs.RootsIn.{RootsIn}

-- a child c of line q
module _ (q n : ℕ) {x c : ℕ} (e : x ≡ c) where
  pub fit_yes : q < x → ltb x n ≡ (ltb q c & ltb c n)
  unfolding ◌&◌
  fit_yes h = ap (λ (c : ℕ). ltb c n) e ∙ sym (ap (λ (b : Bool). b & ltb c n) (lt-ltb q c (omega arith)))

  pub fit_no : x ≤ q → false ≡ (ltb q c & ltb c n)
  unfolding ◌&◌
  fit_no h = sym (ap (λ (b : Bool). b & ltb c n) (le-ltb q c (omega arith)))

-- a test of all children
module _ (f : ℕ → Bool) {cs : Children} where
  pub test_none : cs ≡ Zero → true ≡ all f (list_of cs)
  unfolding all list_of
  test_none e = rw e

  pub test_one : {a : ℕ} {r : Bool} → cs ≡ One a → r ≡ f a → r ≡ all f (list_of cs)
  unfolding all list_of
  test_one {a} e h = rw e (h ∙ sym (and_true (f a)))

  pub test_both : {a b : ℕ} {r : Bool} → cs ≡ Two a b → f a ≡ true → r ≡ f b → r ≡ all f (list_of cs)
  unfolding all list_of ◌&◌
  test_both {a} {b} e t h = rw (e, t) (h ∙ sym (and_true (f b)))

  pub test_not : {a b : ℕ} → cs ≡ Two a b → f a ≡ false → false ≡ all f (list_of cs)
  unfolding all list_of ◌&◌
  test_not e t = rw (e, t)

-- line q names greater lines, each one of the lines
abbrev pub fits : Lines → ℕ → Bool
fits t q = all (λ c. ltb q c & ltb c t.count) (children (line_of t q))

order_from : (t : Lines) (k i : ℕ) → ordered_from i t.count (table_from k i (line_of t)) ≡ all (fits t) (table_from k i (λ j. j))
unfolding ordered_from all table_from
order_from t zero i = refl
order_from t (suc k) i = ap (λ (b : Bool). fits t i & b) (order_from t k (suc i))

pub order_all : (t : Lines) → ordered (lines_of t) ≡ all (fits t) (table t.count (λ j. j))
unfolding ordered lines_of table
order_all t = ap (λ (k : ℕ). ordered_from 0 k (table_from t.count 0 (line_of t))) (lines_long t) ∙ order_from t t.count 0

-- the tests of the roots
pub present_all : (n : ℕ) (rs : Roots) → all (λ q. ltb q n) (map (λ (x : Root). x.line) (roots_of rs)) ≡ all (λ (x : Root). ltb x.line n) (table rs.count (root_at rs))
unfolding roots_of
present_all n rs = all_map (λ q. ltb q n) (λ x. x.line) (table rs.count (root_at rs))

-- the process of root x has no free variable
abbrev pub closed_root : Lines → Root → Bool
closed_root t x = empty (free (tree (lines_of t) x.line))

pub closed_all : (t : Lines) (rs : Roots) → roots_closed (lines_of t) (map (λ (x : Root). x.line) (roots_of rs)) ≡ all (closed_root t) (table rs.count (root_at rs))
unfolding roots_closed roots_of
closed_all t rs = all_map (λ q. empty (free (tree (lines_of t) q))) (λ x. x.line) (table rs.count (root_at rs))

-- the line of root i
pub root_form : {t : Lines} {rs : Roots} → RootsIn t rs → (i : ℕ) → i < rs.count → InForm t (root_at rs i).line
root_form {t} {rs} w i h = record {
  in_order = w.in_order;
  present = ltb_lt (root_at rs i).line t.count (table_all (λ (x : Root). ltb x.line t.count) rs.count (root_at rs) (sym (present_all t.count rs) ∙ w.present) i h);
}
