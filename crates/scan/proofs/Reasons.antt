-- The tests of a row in their order.
-- Assumes nothing.
use mathlib.Core.Path.{◌≡◌, refl, sym, ap, ◌∙◌}
use mathlib.Core.Logic.{⊎_elim}
use Prim.Native.Nat.{ℕ, ◌<◌}
use mathlib.Core.Bool.{Bool, true, false, not, cond}
use mathlib.Core.List.{List}
use mathlib.Core.Option.{Option, none, some}
use native.Mathlib.Omega.{arith}
use lib.ListN.{length}
use borrow.Author.Tests.{ltb-true}
use Rattle.std.specs.Prelude.{Ok, Err, OnOk}
use Rattle.sets.specs.Lists.{either}
use Rattle.klaim.specs.Process.{template, clash}
use Rattle.klaim.specs.Rows.{Row, group_q}
use Rattle.klaim.specs.Reader.{Text, in_limits, of_group, full, over, repeated, misplaced, site_count, absent, bad, good, judge}
use Rattle.klaim.specs.Refusals.{number_of}
use Rattle.klaim.specs.declared.Reason.{Reason}
use Rattle.klaim.specs.declared.Reason.TheVariants.{Form, Limit, Place, Site, Turn, Naming, Clash, Free, Buffer, Thread, Tuple, Agreement, Arrival, Door, Right, Room, Newest, Occupied}
use Rattle.forms.specs.declared.rows.Group.{Group}
use Rattle.forms.specs.declared.rows.Row as Form
use Rattle.forms.specs.Forms.{group_number, group_of, pair_group, row_data}
use Rattle.forms.proofs.Groups.{pair_case, pair_some, group_is}
use Rattle.scan.specs.Reasons.{Judging, limited_of, early_of, fitting, Passed, late_of, judging_of, judged_by}

pub either_true : (a : Bool) → either a true ≡ true
unfolding either
either_true true = refl
either_true false = refl

-- an R or an E row has a form, and is no Q row
pub pair_formed : (g : ℕ) → pair_group g ≡ true → 0 < g
pair_formed g p = ltb-true 0 g (pair_some g p)

pub pair_no_process : (g : ℕ) → pair_group g ≡ true → g ≡ group_q → ⊥
pair_no_process g p e = ⊎_elim (λ q. omega arith) (λ q. omega arith) (pair_case g p)

-- the five tests of a row of good form
by_tests : (limits full placed repeated absent clash : Bool) (r : Row) →
    cond (either (not limits) full) (bad 2) (cond (either (not placed) repeated) (bad 3) (cond absent (bad 4) (cond clash (bad 7) (good r))))
    ≡ judged_by (judging_of (limited_of limits full placed) repeated (cond absent (Err Site) (cond clash (Err Clash) (Ok tt)))) r
unfolding either
by_tests false full placed repeated absent clash r = refl
by_tests true true placed repeated absent clash r = refl
by_tests true false false repeated absent clash r = refl
by_tests true false true true absent clash r = refl
by_tests true false true false true clash r = refl
by_tests true false true false false true r = refl
by_tests true false true false false false r = refl

-- the code asks by the group of a row, the definitions by its number
pub numbered : (row : Form.Row) {g : Group} → g ≡ group_of row → (row_data row).group ≡ group_number g
numbered row e = group_is row ∙ ap group_number (sym e)

-- "Each row top down: 1, 2, 3, 4, 7."
module _ (t : Text) (above : List Row) (row : Form.Row) where
  pub judged_is : {g : Group} {f p : Bool} {n : ℕ} → g ≡ group_of row → f ≡ full t (group_number g) (length (of_group (group_number g) above)) → p ≡ fitting t above (row_data row) → n ≡ site_count t above →
      judge t above (some (row_data row)) ≡ judged_by (judging_of (early_of (some (row_data row)) f p) (repeated above (row_data row)) (late_of n (row_data row))) (row_data row)
  unfolding judge over misplaced
  judged_is {g} {f} {p} {n} e a b s =
      let r = row_data row in
      let q : f ≡ full t r.group (length (of_group r.group above)) = a ∙ ap (λ (k : ℕ). full t k (length (of_group k above))) (sym (numbered row e)) in
      rw (q, b, s) (by_tests (in_limits r) (full t r.group (length (of_group r.group above))) (fitting t above r) (repeated above r) (absent (site_count t above) r) (clash (template r.process)) r)

-- what is known of a row that 2 and the order let through
pub early_passed : (r : Row) {full placed : Bool} → early_of (some r) full placed ≡ Ok tt → Passed r full placed
unfolding either
early_passed r {full} {placed} e = go (in_limits r) refl full refl placed refl e
  where
    go : (l : Bool) → in_limits r ≡ l → (f : Bool) → full ≡ f → (p : Bool) → placed ≡ p → ◌≡◌ {A = Judging} (limited_of l f p) (Ok tt) → Passed r full placed
    go false a f b p d e = cc
    go true a true b p d e = cc
    go true a false b false d e = cc
    go true a false b true d e = record { low = a; room = b; placed = d }

-- what has no form is not let through
pub early_formed : (o : Option Row) (full placed : Bool) → early_of o full placed ≡ Ok tt → (r : Row) × (o ≡ some r)
early_formed none full placed e = absurd (cc)
early_formed (some r) full placed e = (r, refl)

-- the same, by what a table says of the row's group
pub passed_by : (row : Form.Row) {g : Group} → g ≡ group_of row → (full placed : ℕ → Bool) {f p : Bool} → f ≡ full (group_number g) → p ≡ placed (group_number g) →
    Passed (row_data row) f p → Passed (row_data row) (full (row_data row).group) (placed (row_data row).group)
passed_by row e full placed a b P =
    let q = numbered row e in
    record { low = P.low; room = ap full q ∙ sym a ∙ P.room; placed = ap placed q ∙ sym b ∙ P.placed }

-- what holds is so where a row is let through
pub if_ok : {P : Type 0} (j : Judging) → P → OnOk j P
if_ok (Ok x) p = p
if_ok (Err why) p = tt

-- each reason has a number
pub some_number : (why : Reason) → number_of why ≡ 0 → ⊥
some_number Form e = omega arith
some_number Limit e = omega arith
some_number Place e = omega arith
some_number Site e = omega arith
some_number Turn e = omega arith
some_number Naming e = omega arith
some_number Clash e = omega arith
some_number Free e = omega arith
some_number Buffer e = omega arith
some_number Thread e = omega arith
some_number Tuple e = omega arith
some_number Agreement e = omega arith
some_number Arrival e = omega arith
some_number Door e = omega arith
some_number Right e = omega arith
some_number Room e = omega arith
some_number Newest e = omega arith
some_number Occupied e = omega arith
