-- Laws of tables of sets with one row more.
-- Assumes nothing.
use mathlib.Core.Path.{◌≡◌, refl, sym, ap, ◌∙◌}
use mathlib.Core.List.{List, [], ◌∷◌, ◌++◌}
use Prim.Native.Nat.{ℕ, ◌^◌, ◌<◌}
use native.Mathlib.Omega.{arith}
use lib.ListN.{get_or, set}
use borrow.Author.Tests.{eq-eqb}
use Rattle.sets.specs.Bits.{join}
use Rattle.klaim.specs.Rows.{Row, group_d, group_b}
use Rattle.klaim.specs.Reader.{of_group, nth, gather, pair_place, box_place, put_boxes}
use Rattle.klaim.proofs.Above.{group_own, gather_snoc, boxes_snoc}
use Rattle.forms.specs.declared.rows.Pair.{Pair}
use Rattle.forms.specs.declared.rows.Sandbox.{Sandbox}
use Rattle.forms.specs.declared.rows.Bound.{Bound}
use Rattle.forms.specs.Forms.{pair_data, box_data, bound_data}
use Rattle.stores.specs.Sets.{pairs_of, boxes_of, bounds_of}

-- a table of sets, with one row of its group more
gathered : (n : ℕ) (place value : Row → ℕ) (g : ℕ) (R : Row) (t : List ℕ) (i v : ℕ) → R.group ≡ g → place R ≡ i → value R ≡ v → i < n → (above : List Row) → t ≡ gather n place value (of_group g above) → set t i (join (get_or t i 0) v) ≡ gather n place value (of_group g (above ++ (R ∷ [])))
gathered n place value g R t i v q p e h above s =
    sym (ap (gather n place value) (group_own g above R (eq-eqb R.group g q)) ∙ gather_snoc n place value (of_group g above) R (omega arith) ∙ rw (p, e, s))

-- tables of sets, with one row more
pub pair_put : (p : Pair) (g : ℕ) (t : List ℕ) (i : ℕ) → i ≡ pair_place (pair_data g p) → i < 1024 → (above : List Row) → t ≡ pairs_of g above →
    set t i (join (get_or t i 0) p.rights) ≡ pairs_of g (above ++ (pair_data g p ∷ []))
unfolding pair_data
pair_put p g t i e h = gathered 1024 pair_place (λ x. x.rights) g (pair_data g p) t i p.rights refl (sym e) refl h

pub box_put : (b : Sandbox) (t : List ℕ) (i : ℕ) → i ≡ box_place (box_data b) → (start : List ℕ) (above : List Row) → t ≡ boxes_of start above →
    set t i b.rights ≡ boxes_of start (above ++ (box_data b ∷ []))
unfolding box_data
box_put b t i h start above e =
    sym (ap (put_boxes start) (group_own group_d above (box_data b) refl) ∙ boxes_snoc start (of_group group_d above) (box_data b) ∙ rw (← h, ← e) refl)

pub bound_put : (b : Bound) (t : List ℕ) (i v : ℕ) → i ≡ b.variable → b.variable < 32 → v ≡ 2 ^ b.site → (above : List Row) → t ≡ bounds_of above →
    set t i (join (get_or t i 0) v) ≡ bounds_of (above ++ (bound_data b ∷ []))
unfolding bound_data
bound_put b t i v p h e = gathered 32 (λ x. nth x.vars 0) (λ x. 2 ^ nth x.sites 0) group_b (bound_data b) t i v refl (sym p) (sym e) (omega arith)
