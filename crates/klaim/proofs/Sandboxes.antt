-- No. 3: what the sandboxes of a net have, by its D rows.
-- Assumes nothing.
use mathlib.Core.Path.{◌≡◌, refl, sym, ap, ap₂, subst, ◌∙◌}
use mathlib.Core.Logic.{◌⊎◌, inl, inr}
use mathlib.Core.Bool.{Bool, true, false, cond, false≢true}
use mathlib.Core.List.{List, [], ◌∷◌, ◌++◌}
use mathlib.Core.Option.{none}
use Prim.Native.Nat.{ℕ, ◌%◌, ◌<◌, ◌≤◌}
use native.Mathlib.Omega.{arith}
use lib.Dec.{eqb}
use lib.ListN.{length, get_or, set}
use lib.Seq.{get_or-set_same, get_or-set_other}
use borrow.Author.Tests.{eq-eqb, ne_eqb}
use Rattle.sets.specs.Lists.{Elem, All, done, more, ◌&◌, any, keep, empty, same}
use Rattle.sets.specs.Bits.{every_right, grant, meet}
use Rattle.sets.proofs.Lists.{and_l, and_r, and_i, cond_at, eqb_eq, eqb_i, any_at, any_none, none_any, in_none, All-append, All-in, keep_out, snoc_case}
use Rattle.sets.proofs.Bits.{meet_none, meet_every}
use Rattle.sets.proofs.Tables.{length_table, get_or_table}
use Rattle.klaim.specs.Limits.{site_limit, box_limit, boxes_size, box_width, box_index, self_place}
use Rattle.klaim.specs.Rows.{Row, group_q, group_d, at, text, ◌>>=◌, given, otherwise, rights_field, box_rights_field, right_of, rights_after, row_pair, row_d}
use Rattle.klaim.specs.Net.{box, box_self, box_at}
use Rattle.klaim.specs.Reader.{gives, a_net, in_limits, of_group, key, read_rows, nth, box_place, silent_boxes, put_boxes, net_of}
use Rattle.klaim.specs.Sandboxes.{Dash, speaks, Statement}
use Rattle.klaim.proofs.Options.{given_none, bind_none, none_bind}
use Rattle.klaim.proofs.BoxRows.{place_of, place_low, places_keys}
use Rattle.klaim.proofs.Scan.{Shaped, Fine, fresh_key, rows_give}
use Rattle.klaim.proofs.Above.{group_other, group_own, taken, boxes_snoc, boxes_long, boxes_silent}

-- a row that is let through
record Passed (r : Row) : Type 0 where
  shaped : Shaped r
  in_limits_lem : in_limits r ≡ true

-- a row of sandbox k towards t, and its place
record Speaks (k t : ℕ) (r : Row) : Type 0 where
  group_is : r.group ≡ group_d
  box_is : nth r.boxes 0 ≡ k
  to_is : get_or r.sites 0 self_place ≡ t

spoken : {k t : ℕ} {r : Row} → speaks k t r ≡ true → Speaks k t r
unfolding speaks
spoken h = let l = and_r _ _ h in record { group_is = eqb_eq (and_l _ _ h); box_is = eqb_eq (and_l _ _ l); to_is = eqb_eq (and_r _ _ l) }

place_is : {k t : ℕ} {r : Row} → Speaks k t r → box_place r ≡ box_index k t
unfolding box_place
place_is S = ap₂ box_index S.box_is S.to_is

place_speaks : {r : Row} → Passed r → r.group ≡ group_d → (k t : ℕ) → t ≤ self_place → box_place r ≡ box_index k t → speaks k t r ≡ true
unfolding speaks
place_speaks {r} P g k t h e = let p = place_of r P.in_limits_lem k t h e in and_i (eqb_i g) (and_i (eqb_i p.0) (eqb_i p.1))

-- what a row says stands in the table of the rows
abbrev Said : List Row → Type 0
Said rows = (k t : ℕ) (r : Row) → Elem r rows → speaks k t r ≡ true → get_or (put_boxes silent_boxes (of_group group_d rows)) (box_index k t) 0 ≡ r.rights

table_long : (rows : List Row) → length (put_boxes silent_boxes rows) ≡ boxes_size
unfolding silent_boxes
table_long rows = boxes_long silent_boxes rows ∙ length_table boxes_size _

-- one row more: of another group, or a D row, whose place none above has
module _ (above : List Row) (x : Row) (S : Said above) where
  said_other : eqb x.group group_d ≡ false → Said (above ++ (x ∷ []))
  said_other e k t r i h = ap (λ (rows : List Row). get_or (put_boxes silent_boxes rows) (box_index k t) 0) (group_other group_d above x e) ∙ go (snoc_case above x i)
    where
      go : Elem r above ⊎ (r ≡ x) → get_or (put_boxes silent_boxes (of_group group_d above)) (box_index k t) 0 ≡ r.rights
      go (inl j) = S k t r j h
      go (inr q) = absurd (false≢true (sym (subst (λ (y : Row). eqb y.group group_d ≡ false) (sym q) e) ∙ eqb_i (spoken h).group_is))

  module _ (A : All Passed above) (f : Fine a_net above x) (g : x.group ≡ group_d) where
    fresh_place : (r : Row) → Elem r above → r.group ≡ group_d → box_place r ≡ box_place x → ⊥
    fresh_place r i h e =
        let P = All-in A i in
        let alike = places_keys (P.shaped.box_row h) (f.shaped.box_row g) P.in_limits_lem f.in_limits_lem (h ∙ sym g) ∙ eqb_i e in
        false≢true (sym (any_none (λ b. same (key b) (key x)) (fresh_key f (ap (λ (y : ℕ). eqb y group_q) g)) i) ∙ alike)

    said_own : Said (above ++ (x ∷ []))
    said_own k t r i h =
        ap (λ (rows : List Row). get_or (put_boxes silent_boxes rows) (box_index k t) 0) (group_own group_d above x (eqb_i g))
        ∙ ap (λ (l : List ℕ). get_or l (box_index k t) 0) (boxes_snoc silent_boxes (of_group group_d above) x)
        ∙ ap (λ (p : ℕ). get_or (set rows (box_place x) x.rights) p 0) (sym (place_is (spoken h)))
        ∙ go (snoc_case above x i)
      where
        rows : List ℕ
        rows = put_boxes silent_boxes (of_group group_d above)

        own : get_or (set rows (box_place x) x.rights) (box_place x) 0 ≡ x.rights
        own = get_or-set_same rows (box_place x) x.rights 0 (omega (arith, table_long (of_group group_d above), place_low x f.in_limits_lem (f.shaped.box_row g)))

        go : Elem r above ⊎ (r ≡ x) → get_or (set rows (box_place x) x.rights) (box_place r) 0 ≡ r.rights
        go (inl j) = get_or-set_other rows (box_place x) (box_place r) x.rights 0 (fresh_place r j (spoken h).group_is) ∙ ap (λ (p : ℕ). get_or rows p 0) (place_is (spoken h)) ∙ S k t r j h
        go (inr q) = subst (λ (y : Row). get_or (set rows (box_place x) x.rights) (box_place y) 0 ≡ y.rights) (sym q) own

-- so it is with the rows of a net
rows_said : (bytes : List ℕ) (rows : List Row) → read_rows a_net bytes ≡ gives rows → All Passed rows × Said rows
rows_said bytes rows e = rows_give a_net (λ rows. All Passed rows × Said rows) keeps (done, λ k t r i h. absurd (in_none i)) bytes e
  where
    keeps : (above : List Row) (x : Row) → All Passed above × Said above → Fine a_net above x → All Passed (above ++ (x ∷ [])) × Said (above ++ (x ∷ []))
    keeps above x (A, S) f = (All-append A (more (record { shaped = f.shaped; in_limits_lem = f.in_limits_lem }) done), go (eqb x.group group_d) refl)
      where
        go : (b : Bool) → eqb x.group group_d ≡ b → Said (above ++ (x ∷ []))
        go true q = said_own above x S A f (eqb_eq q)
        go false q = said_other above x S q

-- where no row speaks, the table is as it begins
module _ {rows : List Row} (A : All Passed rows) (k t : ℕ) (h : t ≤ self_place) (e : any (speaks k t) rows ≡ false) where
  untaken : taken (box_index k t) (of_group group_d rows) ≡ false
  unfolding of_group
  untaken = none_any (λ r. eqb (box_place r) (box_index k t)) (keep (λ r. eqb r.group group_d) rows) (λ r i. let o = keep_out (λ r. eqb r.group group_d) rows i in go r o.0 (eqb_eq o.1) (eqb (box_place r) (box_index k t)) refl)
    where
      go : (r : Row) → Elem r rows → r.group ≡ group_d → (b : Bool) → eqb (box_place r) (box_index k t) ≡ b → b ≡ false
      go r i g false q = refl
      go r i g true q = absurd (false≢true (sym (any_none (speaks k t) e i) ∙ place_speaks (All-in A i) g k t h (eqb_eq q)))

  as_begun : box_index k t < boxes_size → get_or (put_boxes silent_boxes (of_group group_d rows)) (box_index k t) 0 ≡ grant (eqb (box_index k t % box_width) self_place) every_right
  unfolding silent_boxes
  as_begun l = boxes_silent silent_boxes (box_index k t) (of_group group_d rows) untaken ∙ get_or_table boxes_size _ (box_index k t) 0 l

-- the request, of the rows of every net that are let through
pub sandboxes : Statement
unfolding net_of box box_self box_at grant
sandboxes bytes rows e = record {
  site_row = S;
  self_row = λ k r i q. S k self_place r i q;
  no_site_row = no_site_lem;
  no_self_row = no_self;
  anywhere = λ k l t h m q. cond_at (λ x. x ≡ has k t) (eqb t l) (λ s. ap (meet (has k t)) (no_self k h q) ∙ meet_every (has k t) (rights_most k t h m (any (speaks k t) rows) refl)) (λ s. refl);
  closed = λ k l r i q z. ap (λ (b : Bool). cond b (meet (has k l) (has k self_place)) (has k l)) (eq-eqb l l refl) ∙ ap (meet (has k l)) (S k self_place r i q ∙ z) ∙ meet_none (has k l);
}
  where
    A : All Passed rows
    A = (rows_said bytes rows e).0

    S : Said rows
    S = (rows_said bytes rows e).1

    has : ℕ → ℕ → ℕ
    has k t = get_or (put_boxes silent_boxes (of_group group_d rows)) (box_index k t) 0

    no_site_lem : (k t : ℕ) → k < box_limit → t < site_limit → any (speaks k t) rows ≡ false → has k t ≡ 0
    no_site_lem k t h l q = as_begun A k t (omega arith) q (omega arith) ∙ ap (λ (b : Bool). grant b every_right) (ne_eqb (box_index k t % box_width) self_place (λ z. omega arith))

    no_self : (k : ℕ) → k < box_limit → any (speaks k self_place) rows ≡ false → has k self_place ≡ every_right
    no_self k h q = as_begun A k self_place (omega arith) q (omega arith) ∙ ap (λ (b : Bool). grant b every_right) (eq-eqb (box_index k self_place % box_width) self_place (omega arith))

    rights_most : (k t : ℕ) → k < box_limit → t < site_limit → (b : Bool) → any (speaks k t) rows ≡ b → has k t ≤ every_right
    rights_most k t h l true q = let (r, i, z) = any_at (speaks k t) rows q in omega (arith, S k t r i z, (All-in A i).shaped.box_rights (spoken z).group_is)
    rights_most k t h l false q = omega (arith, no_site_lem k t h l q)

-- `-` in D rows, and in no other
no_rights_lem : rights_field (text "-") ≡ none
unfolding rights_field rights_after right_of given otherwise text empty ◌>>=◌
no_rights_lem = refl

no_pair : (group : ℕ) (fs : List (List ℕ)) → at fs 3 ≡ text "-" → row_pair group fs ≡ none
unfolding row_pair
no_pair group fs e =
    ap (given (eqb (length fs) 4)) (bind_none _ _ (λ s. bind_none _ _ (λ t. none_bind _ _ (ap rights_field e ∙ no_rights_lem))))
    ∙ sym (given_none (eqb (length fs) 4))

pub dash : Dash
unfolding row_d row_pair box_rights_field rights_field rights_after right_of given otherwise same text ◌&◌ ◌>>=◌
dash = record {
  box_row = λ k letter fk ft ts e h. rw (e, h);
  letters = λ f e. rw e;
  pair_row = λ group fs e. no_pair group fs e;
}
