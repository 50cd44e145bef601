-- The sandboxes when all rows are read: the table is the one in which every place begins with what it has where no D row speaks.
-- Assumes nothing.
use mathlib.Core.Path.{◌≡◌, refl, sym, ap, ◌∙◌}
use mathlib.Core.Bool.{Bool, true, false, cond}
use mathlib.Core.List.{List}
use Prim.Native.Nat.{ℕ, ◌+◌, ◌/◌, ◌%◌, ◌<◌}
use native.Mathlib.Omega.{arith}
use native.Mathlib.Decide.{ℕ_discrete}
use native.Mathlib.Nat.{mod-eq_of_lt}
use lib.Dec.{eqb, ltb}
use lib.ListN.{length, get_or, set, length-set, length-replicate, get_or-replicate}
use lib.Seq.{ext_get_or, get_or-set_same, get_or-set_other}
use borrow.Author.Tests.{eq-eqb, ne_eqb, ltb-true}
use Rattle.sets.specs.Lists.{All, table}
use Rattle.sets.specs.Bits.{every_right, grant}
use Rattle.sets.proofs.Tables.{length_table, get_or_table}
use Rattle.klaim.specs.Limits.{box_limit, box_width, boxes_size, box_index, self_place}
use Rattle.klaim.specs.Rows.{Row, group_d}
use Rattle.klaim.specs.Reader.{of_group, silent_boxes, put_boxes}
use Rattle.klaim.proofs.Above.{taken, boxes_long, boxes_silent, boxes_same}
use Rattle.text.specs.Fields.{unsaid}
use Rattle.repeats.specs.Kept.{Kept, unsaid_boxes}
use Rattle.repeats.proofs.Repeats.{box_said}
use Rattle.nets.specs.Defaults.{own_of, with_own, cleared}

-- a table after a loop has put the rights for `self` into each sandbox below k
pub record Owned (before t : List ℕ) (k : ℕ) : Type 0 where
  pub long : length t ≡ length before
  pub done : (j : ℕ) → j < k → get_or t (box_index j self_place) 0 ≡ own_of (get_or before (box_index j self_place) 0)
  pub rest : (i : ℕ) → ((j : ℕ) → j < k → i ≡ box_index j self_place → ⊥) → get_or t i 0 ≡ get_or before i 0

pub owned_none : (t : List ℕ) → Owned t t 0
owned_none t = record { long = refl; done = λ j h. absurd (omega arith); rest = λ i h. refl }

pub owned_more : {before t : List ℕ} {k v : ℕ} → Owned before t k → box_index k self_place < length before → v ≡ own_of (get_or t (box_index k self_place) 0) → Owned before (set t (box_index k self_place) v) (k + 1)
owned_more {before} {t} {k} {v} O h e = record {
  long = length-set t (box_index k self_place) v ∙ O.long;
  done = λ j l. at j l (ℕ_discrete j k);
  rest = λ i n. get_or-set_other t (box_index k self_place) i v 0 (n k (omega arith)) ∙ O.rest i (λ j l. n j (omega arith));
}
  where
    at : (j : ℕ) → j < k + 1 → Dec (j ≡ k) → get_or (set t (box_index k self_place) v) (box_index j self_place) 0 ≡ own_of (get_or before (box_index j self_place) 0)
    at j l (yes p) = rw p (get_or-set_same t (box_index k self_place) v 0 (omega (arith, O.long)) ∙ e ∙ ap own_of (O.rest (box_index k self_place) (λ j m q. omega arith)))
    at j l (no p) = get_or-set_other t (box_index k self_place) (box_index j self_place) v 0 (λ q. p (omega arith)) ∙ O.done j (omega arith)

pub owned_all : {before t : List ℕ} → Owned before t box_limit → length before ≡ boxes_size → t ≡ with_own before
unfolding with_own
owned_all {before} {t} O h =
    ext_get_or 0 t (table boxes_size own) (O.long ∙ h ∙ sym (length_table boxes_size own))
    (λ i l. let m : i < boxes_size = omega (arith, O.long) in go i m (ℕ_discrete (i % box_width) self_place) ∙ sym (get_or_table boxes_size own i 0 m))
  where
    own : ℕ → ℕ
    own i = cond (eqb (i % box_width) self_place) (own_of (get_or before i 0)) (get_or before i 0)

    at_self : (i : ℕ) → i < boxes_size → i % box_width ≡ self_place → get_or t i 0 ≡ own_of (get_or before i 0)
    at_self i l e = let q : i ≡ box_index (i / box_width) self_place = omega arith in rw q (O.done (i / box_width) (omega arith))

    go : (i : ℕ) → i < boxes_size → Dec (i % box_width ≡ self_place) → get_or t i 0 ≡ own i
    go i l (yes e) = rw (eq-eqb (i % box_width) self_place e) (at_self i l e)
    go i l (no e) = rw (ne_eqb (i % box_width) self_place e) (O.rest i (λ j m q. e (omega arith)))

pub own_long : (t : List ℕ) → length (with_own t) ≡ boxes_size
unfolding with_own
own_long t = length_table boxes_size _

-- a place of which a row speaks keeps what it says; any other has what it has where none speaks
own_said : (self : Bool) (b : ℕ) → ltb b unsaid ≡ true → cond self (own_of b) b % unsaid ≡ b
unfolding own_of
own_said true b e = rw e (mod-eq_of_lt (ltb-true b unsaid e))
own_said false b e = mod-eq_of_lt (ltb-true b unsaid e)

own_unsaid : (self : Bool) (b : ℕ) → b ≡ unsaid → cond self (own_of b) b % unsaid ≡ grant self every_right
unfolding own_of grant
own_unsaid true b e = rw e
own_unsaid false b e = rw e

-- so the table is the one that begins with the defaults
pub defaults_put : {above : List Row} → All Kept above → cleared (with_own (put_boxes unsaid_boxes (of_group group_d above))) ≡ put_boxes silent_boxes (of_group group_d above)
unfolding cleared with_own silent_boxes
defaults_put {above} K =
    ext_get_or 0 (table boxes_size left) (put_boxes silent_boxes rows) (length_table boxes_size left ∙ sym long)
    (λ i l. let h : i < boxes_size = omega (arith, length_table boxes_size left) in
    get_or_table boxes_size left i 0 h ∙ ap (λ (b : ℕ). b % unsaid) (get_or_table boxes_size own i 0 h) ∙ go i h (taken i rows) refl)
  where
    rows : List Row
    rows = of_group group_d above

    said : ℕ → ℕ
    said i = get_or (put_boxes unsaid_boxes rows) i 0

    own : ℕ → ℕ
    own i = cond (eqb (i % box_width) self_place) (own_of (said i)) (said i)

    left : ℕ → ℕ
    left i = get_or (table boxes_size own) i 0 % unsaid

    silent : ℕ → ℕ
    silent i = grant (eqb (i % box_width) self_place) every_right

    long : length (put_boxes (table boxes_size silent) rows) ≡ boxes_size
    long = boxes_long (table boxes_size silent) rows ∙ length_table boxes_size silent

    go : (i : ℕ) → i < boxes_size → (b : Bool) → taken i rows ≡ b → own i % unsaid ≡ get_or (put_boxes (table boxes_size silent) rows) i 0
    go i h true e =
        own_said (eqb (i % box_width) self_place) (said i) (box_said i h K ∙ e)
        ∙ boxes_same i unsaid_boxes (table boxes_size silent) rows (omega (arith, length-replicate {A = ℕ} boxes_size unsaid)) (omega (arith, length_table boxes_size silent)) e
    go i h false e =
        own_unsaid (eqb (i % box_width) self_place) (said i) (boxes_silent unsaid_boxes i rows e ∙ get_or-replicate {A = ℕ} boxes_size i unsaid 0 h)
        ∙ sym (boxes_silent (table boxes_size silent) i rows e ∙ get_or_table boxes_size silent i 0 h)
