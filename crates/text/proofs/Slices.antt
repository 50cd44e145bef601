-- Laws of a row cut into its fields where it stands in a text.
-- Assumes nothing.
use mathlib.Core.Path.{◌≡◌, refl, sym, ap, subst, ◌∙◌}
use mathlib.Core.Logic.{◌⊎◌, inl, inr, ⊎_elim}
use mathlib.Core.Bool.{Bool, true, false, false≢true}
use mathlib.Core.List.{List, [], ◌∷◌}
use Prim.Native.Nat.{ℕ, zero, suc, ◌+◌, ◌≤◌, ◌<◌, ◌-◌}
use native.Mathlib.Nat.{zero-add, suc-add}
use native.Mathlib.Omega.{arith}
use native.Mathlib.Decide.{dec_lt, ℕ_discrete}
use lib.Dec.{eqb}
use lib.ListN.{length, get_or, take, drop, set, length-drop}
use lib.Seq.{length-take-le, take-nil, drop-drop}
use borrow.Author.Tests.{lt-ltb, eq-eqb, ltb-true, eqb-true}
use Rattle.sets.specs.Lists.{◌&◌, either}
use Rattle.sets.proofs.Lists.{and_l, and_r, or_case, neither_l, neither_r, eqb_eq, eqb_i}
use Rattle.klaim.specs.Rows.{split, pieces_after, at, comma, newline}
use Rattle.text.specs.Pieces.{end_of, edge_limit, Cut, Mark, comma_at}
use Rattle.text.proofs.Pieces.{some_piece, grown, piece_hit, piece_miss, piece_end, end_le, Cutting, cutting_none, cutting_more, cutting_done}

-- the first piece of the front of a list
le_by : (t : Bool) (x n : ℕ) (ps qs : List (List ℕ)) → 0 < length ps → 0 < length qs → (length (at ps 0) ≤ n → length (at qs 0) ≡ length (at ps 0)) → length (at (pieces_after t x ps) 0) ≤ suc n → length (at (pieces_after t x qs) 0) ≡ length (at (pieces_after t x ps) 0)
unfolding pieces_after
le_by true x n ps qs p q ih h = refl
le_by false x n ps qs p q ih h =
    let g = grown x ps p in
    grown x qs q ∙ ap suc (ih (omega arith)) ∙ sym g

front_le : (b n : ℕ) (s : List ℕ) → length (at (split b s) 0) ≤ n → length (at (split b (take n s)) 0) ≡ length (at (split b s) 0)
unfolding split
front_le b zero s h = omega arith
front_le b (suc n) [] h = refl
front_le b (suc n) (x ∷ s) h = le_by (eqb x b) x n (split b s) (split b (take n s)) (some_piece b s) (some_piece b (take n s)) (front_le b n s) h

ge_by : (t : Bool) (x n : ℕ) (ps qs : List (List ℕ)) → 0 < length ps → 0 < length qs → (n ≤ length (at ps 0) → length (at qs 0) ≡ n) → suc n ≤ length (at (pieces_after t x ps) 0) → length (at (pieces_after t x qs) 0) ≡ suc n
unfolding pieces_after
ge_by true x n ps qs p q ih h = absurd (omega arith)
ge_by false x n ps qs p q ih h =
    let g = grown x ps p in
    grown x qs q ∙ ap suc (ih (omega arith))

front_ge : (b n : ℕ) (s : List ℕ) → n ≤ length (at (split b s) 0) → length (at (split b (take n s)) 0) ≡ n
unfolding split
front_ge b zero s h = refl
front_ge b (suc n) [] h = absurd (omega arith)
front_ge b (suc n) (x ∷ s) h = ge_by (eqb x b) x n (split b s) (split b (take n s)) (some_piece b s) (some_piece b (take n s)) (front_ge b n s) h

drop_front : (k n : ℕ) (s : List ℕ) → drop k (take (k + n) s) ≡ take n (drop k s)
drop_front zero n s = ap (λ (m : ℕ). take m s) (zero-add n)
drop_front (suc k) n [] = ap (drop (suc k)) (take-nil (suc k + n)) ∙ sym (take-nil n)
drop_front (suc k) n (x ∷ s) = ap (λ (m : ℕ). drop (suc k) (take m (x ∷ s))) (suc-add k n) ∙ drop_front k n s

-- the row that begins at `from`
abbrev pub row_from : List ℕ → ℕ → List ℕ
row_from s from = take (end_of newline s from - from) (drop from s)

module _ (s : List ℕ) (from : ℕ) (h : from ≤ length s) where
  row_long : length (row_from s from) ≡ end_of newline s from - from
  row_long = length-take-le (end_of newline s from - from) (drop from s) (omega (arith, end_le newline s from h, length-drop from s))

  -- a field of it
  row_rest : (k : ℕ) → from + k ≤ end_of newline s from → drop k (row_from s from) ≡ take (end_of newline s from - (from + k)) (drop (from + k) s)
  row_rest k l =
      let e : end_of newline s from - from ≡ k + (end_of newline s from - (from + k)) = omega arith in
      ap (λ (n : ℕ). drop k (take n (drop from s))) e ∙ drop_front k (end_of newline s from - (from + k)) (drop from s) ∙ ap (take (end_of newline s from - (from + k))) (drop-drop k from s)

  row_field : (k e : ℕ) → end_of newline s from ≡ end_of newline s (from + k) → Mark s (from + k) e → from + end_of comma (row_from s from) k ≡ e
  row_field k e q M = go M.stop
    where
      rest : length (at (split comma (drop k (row_from s from))) 0) ≡ length (at (split comma (take (end_of newline s from - (from + k)) (drop (from + k) s))) 0)
      rest = ap (λ (l : List ℕ). length (at (split comma l) 0)) (row_rest k (omega arith))

      go : (end_of comma s e ≡ e) ⊎ (end_of newline s e ≡ e) → from + end_of comma (row_from s from) k ≡ e
      go (inl z) = omega (arith, rest, M.low, M.row, M.field, q, z, front_le comma (end_of newline s from - (from + k)) (drop (from + k) s) (omega (arith, M.low, M.row, M.field, q, z)))
      go (inr z) = omega (arith, rest, M.low, M.row, M.field, q, z, front_ge comma (end_of newline s from - (from + k)) (drop (from + k) s) (omega (arith, M.low, M.row, M.field, q, z)))

pub comma_in : (s : List ℕ) (i : ℕ) → comma_at s i ≡ true → (i < length s) × (get_or s i 0 ≡ comma)
unfolding comma_at
comma_in s i h = (ltb-true i (length s) (and_l _ _ h), eqb-true (get_or s i 0) comma (and_r _ _ h))

no_comma : (s : List ℕ) (i : ℕ) → comma_at s i ≡ false → end_of comma s i ≡ i → end_of newline s i ≡ i
unfolding comma_at ◌&◌
no_comma s i h z = go (dec_lt i (length s))
  where
    go : Dec (i < length s) → end_of newline s i ≡ i
    go (no m) = omega (arith, piece_end newline s i (omega arith))
    go (yes m) = by (ℕ_discrete (get_or s i 0) comma)
      where
        by : Dec (get_or s i 0 ≡ comma) → end_of newline s i ≡ i
        by (yes e) = absurd (false≢true (sym h ∙ rw (lt-ltb i (length s) m, eq-eqb (get_or s i 0) comma e)))
        by (no e) = absurd (omega (arith, z, piece_miss comma s i m e))

-- the row that begins at `from`, cut into n fields up to `end`
pub record Slicing (s : List ℕ) (from : ℕ) (edges : List ℕ) (n end : ℕ) : Type 0 where
  pub cutting : Cutting (row_from s from) edges n (end + 1 - from)
  pub low : from ≤ end
  pub high : end ≤ length s
  pub row : end_of newline s from ≡ end_of newline s end
  pub stop : (end_of comma s end ≡ end) ⊎ (end_of newline s end ≡ end)

module _ {s : List ℕ} {from : ℕ} (h : from ≤ length s) where
  -- one field more
  field_more : {edges kept : List ℕ} {n : ℕ} (k e : ℕ) → Cutting (row_from s from) edges n k → end_of newline s from ≡ end_of newline s (from + k) → Mark s (from + k) e → kept ≡ set edges (n + 1) (e + 1 - from) → Slicing s from kept (n + 1) e
  field_more {edges} {kept} {n} k e C q M p =
      let f = row_field s from h k e q M in
      let v : e + 1 - from ≡ end_of comma (row_from s from) k + 1 = omega (arith, f) in
      let t = cutting_more (end_of comma (row_from s from) k) C (omega (arith, row_long s from h, q)) refl (p ∙ ap (set edges (n + 1)) v) in
      record {
        cutting = subst (λ (m : ℕ). Cutting (row_from s from) kept (n + 1) m) (sym v) t;
        low = omega (arith, M.low);
        high = omega (arith, q, M.row, end_le newline s from h);
        row = q ∙ M.row;
        stop = M.stop;
      }

  pub slicing_first : (edges : List ℕ) {kept more : List ℕ} (e : ℕ) → length edges ≡ edge_limit → kept ≡ set edges 0 0 → Mark s from e → more ≡ set kept 1 (e + 1 - from) → Slicing s from more 1 e
  slicing_first edges e long p M q =
      let z : from ≡ from + 0 = omega arith in
      field_more 0 e (cutting_none (row_from s from) edges long p) (ap (end_of newline s) z) (subst (λ (m : ℕ). Mark s m e) z M) q

  pub slicing_next : {edges kept : List ℕ} {n end : ℕ} (e : ℕ) → Slicing s from edges n end → comma_at s end ≡ true → Mark s (end + 1) e → kept ≡ set edges (n + 1) (e + 1 - from) → Slicing s from kept (n + 1) e
  slicing_next {edges} {kept} {n} {end} e S t M p =
      let c = comma_in s end t in
      let z : end + 1 ≡ from + (end + 1 - from) = omega (arith, S.low) in
      let q : end_of newline s end ≡ end_of newline s (end + 1) = omega (arith, piece_miss newline s end c.0 (λ y. comma_newline (sym c.1 ∙ y))) in
      field_more (end + 1 - from) e S.cutting (S.row ∙ q ∙ ap (end_of newline s) z) (subst (λ (m : ℕ). Mark s m e) z M) p
    where
      comma_newline : comma ≡ newline → ⊥
      comma_newline y = omega arith

  pub slicing_end : {edges : List ℕ} {n end : ℕ} → Slicing s from edges n end → comma_at s end ≡ false → end ≡ end_of newline s from
  slicing_end {edges} {n} {end} S t = sym (S.row ∙ go S.stop)
    where
      go : (end_of comma s end ≡ end) ⊎ (end_of newline s end ≡ end) → end_of newline s end ≡ end
      go (inl z) = no_comma s end t z
      go (inr z) = z

  pub slicing_long : {edges : List ℕ} {n end : ℕ} → Slicing s from edges n end → from + length (take (end - from) (drop from s)) ≡ end
  slicing_long {edges} {n} {end} S = omega (arith, S.low, length-take-le (end - from) (drop from s) (omega (arith, S.high, length-drop from s)))

  pub slicing_done : {edges : List ℕ} {n end : ℕ} → Slicing s from edges n end → end ≡ end_of newline s from → Cut (take (end - from) (drop from s)) edges n
  slicing_done {edges} {n} {end} S e = subst (λ (m : ℕ). Cut (take (m - from) (drop from s)) edges n) (sym e) (cutting_done S.cutting (omega (arith, row_long s from h, e, S.low)))

unlike : {m n : ℕ} → eqb m n ≡ false → m ≡ n → ⊥
unlike e q = false≢true (sym e ∙ eqb_i q)

-- the steps of a search for a comma or a newline, from `from` to i
pub record Looking (s : List ℕ) (from i : ℕ) : Type 0 where
  pub low : from ≤ i
  pub row : end_of newline s from ≡ end_of newline s i
  pub field : end_of comma s from ≡ end_of comma s i

module _ {s : List ℕ} {from i : ℕ} (L : Looking s from i) where
  pub looking_stop : i < length s → either (eqb (get_or s i 0) comma) (eqb (get_or s i 0) newline) ≡ true → Mark s from i
  looking_stop h e = record { low = L.low; row = L.row; field = L.field; stop = ⊎_elim (λ p. inl (omega (arith, piece_hit comma s i h (eqb_eq p)))) (λ p. inr (omega (arith, piece_hit newline s i h (eqb_eq p)))) (or_case _ _ e) }

  pub looking_end : length s ≤ i → Mark s from i
  looking_end h = record { low = L.low; row = L.row; field = L.field; stop = inr (omega (arith, piece_end newline s i h)) }

  pub looking_more : i < length s → either (eqb (get_or s i 0) comma) (eqb (get_or s i 0) newline) ≡ false → Looking s from (i + 1)
  looking_more h e = record { low = omega (arith, L.low); row = omega (arith, L.row, piece_miss newline s i h (unlike (neither_r _ _ e))); field = omega (arith, L.field, piece_miss comma s i h (unlike (neither_l _ _ e))) }

-- a field ends within the text
pub mark_in : {s : List ℕ} {from r : ℕ} → from ≤ length s → Mark s from r → r ≤ length s
mark_in {s} {from} {r} h M = omega (arith, M.row, end_le newline s from h)

pub mark_next : {s : List ℕ} {end r : ℕ} → end < length s → Mark s (end + 1) r → (end < r) × (r ≤ length s)
mark_next {s} {end} {r} h M = (omega (arith, M.low), mark_in {from = end + 1} (omega arith) M)
