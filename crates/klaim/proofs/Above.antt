-- The rows above, as a reader keeps them: what one row more changes, and how the tests on the rows above read on the tables.
-- Assumes nothing.
use mathlib.Core.Path.{◌≡◌, refl, sym, ap, ◌∙◌}
use mathlib.Core.Bool.{Bool, true, false, false≢true}
use mathlib.Core.List.{List, [], ◌∷◌, ◌++◌, map, append-nil, map-append}
use Prim.Native.Nat.{ℕ, ◌<◌, ◌≤◌}
use native.Mathlib.Omega.{arith}
use native.Mathlib.Decide.{ℕ_discrete}
use lib.Dec.{eqb, leb, ltb}
use lib.ListN.{length, get_or, set, length-set}
use lib.Seq.{ext_get_or, get_or-set_same, get_or-set_other}
use borrow.Author.Tests.{eq-eqb, ne_eqb, eqb-true, eqb-false, lt-ltb, le-ltb}
use Rattle.sets.specs.Lists.{All, more, either, all, any, only, keep, table}
use Rattle.sets.specs.Bits.{join, grant, joins}
use Rattle.sets.proofs.Lists.{leb_le, le-leb, neither_l, neither_r, or_false, keep_snoc, all_append, all_one, all_last, iff}
use Rattle.sets.proofs.Joins.{join_none_r, joins_snoc}
use Rattle.sets.proofs.Tables.{length_table, get_or_table}
use Rattle.klaim.specs.Rows.{Row}
use Rattle.klaim.specs.Reader.{of_group, gather, box_place, put_boxes, in_order}

-- the rows of a group, with one row more
pub group_other : (g : ℕ) (above : List Row) (r : Row) → eqb r.group g ≡ false → of_group g (above ++ (r ∷ [])) ≡ of_group g above
unfolding of_group only
group_other g above r e =
    keep_snoc (λ r. eqb r.group g) above r
    ∙ ap (λ (b : Bool). keep (λ r. eqb r.group g) above ++ only b r) e
    ∙ append-nil _

pub group_own : (g : ℕ) (above : List Row) (r : Row) → eqb r.group g ≡ true → of_group g (above ++ (r ∷ [])) ≡ of_group g above ++ (r ∷ [])
unfolding of_group only
group_own g above r e =
    keep_snoc (λ r. eqb r.group g) above r
    ∙ ap (λ (b : Bool). keep (λ r. eqb r.group g) above ++ only b r) e

-- a table of sets, with one row more
module _ (n : ℕ) (place value : Row → ℕ) (rows : List Row) (r : Row) where
  pub gather_snoc : place r < n → gather n place value (rows ++ (r ∷ [])) ≡ set (gather n place value rows) (place r) (join (get_or (gather n place value rows) (place r) 0) (value r))
  unfolding gather grant
  gather_snoc h = ext_get_or 0 _ _ (length_table n _ ∙ sym (length-set (table n _) (place r) _ ∙ length_table n _)) (λ i l. at i (omega (arith, length_table n (λ i. joins (λ x. grant (eqb (place x) i) (value x)) (rows ++ (r ∷ []))))) (ℕ_discrete i (place r)))
    where
      entry : ℕ → ℕ
      entry i = joins (λ x. grant (eqb (place x) i) (value x)) rows

      at : (i : ℕ) → i < n → Dec (i ≡ place r) → get_or (table n (λ i. joins (λ x. grant (eqb (place x) i) (value x)) (rows ++ (r ∷ [])))) i 0 ≡ get_or (set (table n entry) (place r) (join (get_or (table n entry) (place r) 0) (value r))) i 0
      at i l (yes e) =
          get_or_table n _ i 0 l
          ∙ joins_snoc (λ x. grant (eqb (place x) i) (value x)) rows r
          ∙ ap (λ (b : Bool). join (entry i) (grant b (value r))) (eq-eqb (place r) i (sym e))
          ∙ ap (λ (k : ℕ). join (entry k) (grant true (value r))) e
          ∙ ap (λ (x : ℕ). join x (value r)) (sym (get_or_table n entry (place r) 0 h))
          ∙ sym (ap (λ (k : ℕ). get_or (set (table n entry) (place r) (join (get_or (table n entry) (place r) 0) (value r))) k 0) e ∙ get_or-set_same (table n entry) (place r) _ 0 (omega (arith, length_table n entry)))
      at i l (no e) =
          get_or_table n _ i 0 l
          ∙ joins_snoc (λ x. grant (eqb (place x) i) (value x)) rows r
          ∙ ap (λ (b : Bool). join (entry i) (grant b (value r))) (ne_eqb (place r) i (λ q. e (sym q)))
          ∙ join_none_r (entry i)
          ∙ sym (get_or-set_other (table n entry) (place r) i _ 0 e ∙ get_or_table n entry i 0 l)

-- the sandboxes' table, with one row more
pub boxes_snoc : (t : List ℕ) (rows : List Row) (r : Row) → put_boxes t (rows ++ (r ∷ [])) ≡ set (put_boxes t rows) (box_place r) r.rights
unfolding put_boxes
boxes_snoc t [] r = refl
boxes_snoc t (x ∷ rows) r = boxes_snoc (set t (box_place x) x.rights) rows r

pub boxes_long : (t : List ℕ) (rows : List Row) → length (put_boxes t rows) ≡ length t
unfolding put_boxes
boxes_long t [] = refl
boxes_long t (x ∷ rows) = boxes_long (set t (box_place x) x.rights) rows ∙ length-set t (box_place x) x.rights

-- a row has the place
abbrev pub taken : ℕ → List Row → Bool
taken i rows = any (λ r. eqb (box_place r) i) rows

-- a place that no row has is as before
pub boxes_silent : (t : List ℕ) (i : ℕ) (rows : List Row) → taken i rows ≡ false → get_or (put_boxes t rows) i 0 ≡ get_or t i 0
unfolding put_boxes any
boxes_silent t i [] e = refl
boxes_silent t i (x ∷ rows) e =
    boxes_silent (set t (box_place x) x.rights) i rows (neither_r _ _ e)
    ∙ get_or-set_other t (box_place x) i x.rights 0 (λ q. eqb-false (box_place x) i (neither_l _ _ e) (sym q))

-- a place that a row has: what stands there comes from the rows alone
module _ (i : ℕ) where
  -- the first row has it alone, or one behind it has
  taken_split : {A : Type 0} (x : Row) (rows : List Row) → taken i (x ∷ rows) ≡ true → (taken i rows ≡ true → A) → (taken i rows ≡ false → box_place x ≡ i → A) → A
  unfolding any
  taken_split {A} x rows e behind alone = go (taken i rows) refl
    where
      go : (b : Bool) → taken i rows ≡ b → A
      go true q = behind q
      go false q = alone q (eqb-true (box_place x) i (sym (ap (either (eqb (box_place x) i)) q ∙ or_false (eqb (box_place x) i)) ∙ e))

  own_put : (t : List ℕ) (x : Row) (rows : List Row) → i < length t → taken i rows ≡ false → box_place x ≡ i → get_or (put_boxes (set t (box_place x) x.rights) rows) i 0 ≡ x.rights
  own_put t x rows h q p = boxes_silent (set t (box_place x) x.rights) i rows q ∙ rw p (get_or-set_same t i x.rights 0 h)

  long_put : (t : List ℕ) (x : Row) → i < length t → i < length (set t (box_place x) x.rights)
  long_put t x h = omega (arith, h, length-set t (box_place x) x.rights)

  pub boxes_same : (t u : List ℕ) (rows : List Row) → i < length t → i < length u → taken i rows ≡ true → get_or (put_boxes t rows) i 0 ≡ get_or (put_boxes u rows) i 0
  unfolding put_boxes any
  boxes_same t u [] h l e = absurd (false≢true e)
  boxes_same t u (x ∷ rows) h l e =
      taken_split x rows e
      (boxes_same (set t (box_place x) x.rights) (set u (box_place x) x.rights) rows (long_put t x h) (long_put u x l))
      (λ q p. own_put t x rows h q p ∙ sym (own_put u x rows l q p))

  boxes_taken : (m : ℕ) (t : List ℕ) (rows : List Row) → i < length t → All (λ r. r.rights < m) rows → taken i rows ≡ true → get_or (put_boxes t rows) i 0 < m
  unfolding put_boxes any
  boxes_taken m t [] h l e = absurd (false≢true e)
  boxes_taken m t (x ∷ rows) h (more v l) e =
      taken_split x rows e
      (boxes_taken m (set t (box_place x) x.rights) rows (long_put t x h) l)
      (λ q p. omega (arith, v, own_put t x rows h q p))

  -- a reader may begin with a number that no row's rights reach: where less stands, a row has the place
  pub boxes_mark : (m : ℕ) (t : List ℕ) (rows : List Row) → i < length t → m ≤ get_or t i 0 → All (λ r. r.rights < m) rows → ltb (get_or (put_boxes t rows) i 0) m ≡ taken i rows
  boxes_mark m t rows h k l = go (taken i rows) refl
    where
      go : (b : Bool) → taken i rows ≡ b → ltb (get_or (put_boxes t rows) i 0) m ≡ taken i rows
      go true e = lt-ltb _ _ (boxes_taken m t rows h l e) ∙ sym e
      go false e = le-ltb (get_or (put_boxes t rows) i 0) m (omega (arith, k, boxes_silent t i rows e)) ∙ sym e

-- the lists of a net or an estimate, with one row more
pub map_other : {A : Type 0} (f : Row → A) (g : ℕ) (above : List Row) (r : Row) → eqb r.group g ≡ false → map f (of_group g (above ++ (r ∷ []))) ≡ map f (of_group g above)
map_other f g above r e = ap (map f) (group_other g above r e)

pub map_own : {A : Type 0} (f : Row → A) (g : ℕ) (above : List Row) (r : Row) → eqb r.group g ≡ true → map f (of_group g (above ++ (r ∷ []))) ≡ map f (of_group g above) ++ (f r ∷ [])
map_own f g above r e = ap (map f) (group_own g above r e) ∙ map-append f (of_group g above) (r ∷ [])

-- "group out of order": it is enough to keep the last group
abbrev pub Last : List Row → ℕ → Type 0
Last above last = (r : Row) → in_order above r ≡ leb last r.group

pub last_none : Last [] 0
unfolding in_order all
last_none r = sym (le-leb 0 r.group (omega arith))

pub last_snoc : (above : List Row) (last : ℕ) (r : Row) → Last above last → leb last r.group ≡ true → Last (above ++ (r ∷ [])) r.group
unfolding in_order
last_snoc above last r h l x = iff
    (λ t. all_last (λ b. leb b.group x.group) above r t)
    (λ t. all_append (λ b. leb b.group x.group) above (r ∷ []) (h x ∙ le-leb last x.group (omega (arith, leb_le last r.group l, leb_le r.group x.group t))) (all_one (λ b. leb b.group x.group) r t))
