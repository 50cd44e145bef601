-- Laws of pieces: rows of a text, fields of a row.
-- Assumes nothing.
use mathlib.Core.Path.{◌≡◌, refl, sym, ap, ◌∙◌}
use mathlib.Core.Bool.{Bool, true, false}
use mathlib.Core.List.{List, [], ◌∷◌}
use Prim.Native.Nat.{ℕ, zero, suc, ◌+◌, ◌≤◌, ◌<◌, ◌-◌}
use native.Mathlib.Nat.{not-suc-le-zero, add-sub_cancel_left, add-suc, add-zero}
use native.Mathlib.Numerals.{add-one}
use native.Mathlib.Omega.{arith}
use native.Mathlib.Decide.{dec_lt, ℕ_discrete}
use lib.Dec.{eqb}
use lib.ListN.{length, get_or, take, drop, set, drop_of_length-le, length-drop, length-set, get_or-eq_default}
use lib.Seq.{drop-cons, drop-drop, take_all, get_or-drop, get_or-set_same, get_or-set_other}
use borrow.Author.Tests.{eq-eqb, ne_eqb}
use Rattle.klaim.specs.Rows.{split, pieces_after, at, comma}
use Rattle.text.specs.Pieces.{piece_at, end_of, edge, edge_limit, Cut}

-- the pieces of a list are never none
some_after : (t : Bool) (x : ℕ) (ps : List (List ℕ)) → 0 < length (pieces_after t x ps)
unfolding pieces_after
some_after true x ps = omega arith
some_after false x [] = omega arith
some_after false x (p ∷ ps) = omega arith

pub some_piece : (b : ℕ) (s : List ℕ) → 0 < length (split b s)
unfolding split
some_piece b [] = omega arith
some_piece b (x ∷ s) = some_after (eqb x b) x (split b s)

pub grown : (x : ℕ) (ps : List (List ℕ)) → 0 < length ps → length (at (pieces_after false x ps) 0) ≡ suc (length (at ps 0))
unfolding pieces_after
grown x [] h = absurd (not-suc-le-zero h)
grown x (p ∷ ps) h = refl

-- the steps of a search for the separator b, at index i of s
module _ (b : ℕ) (s : List ℕ) (i : ℕ) where
  pub piece_hit : i < length s → get_or s i 0 ≡ b → length (piece_at b s i) ≡ 0
  unfolding split pieces_after
  piece_hit h e = rw (drop-cons s i 0, eq-eqb _ _ e)

  pub piece_miss : i < length s → (get_or s i 0 ≡ b → ⊥) → length (piece_at b s i) ≡ suc (length (piece_at b s (i + 1)))
  unfolding split
  piece_miss h e = rw (add-one, drop-cons s i 0, ne_eqb _ _ e) (grown (get_or s i 0) (split b (drop (suc i) s)) (some_piece b (drop (suc i) s)))

  pub piece_end : length s ≤ i → length (piece_at b s i) ≡ 0
  unfolding split
  piece_end h = rw drop_of_length-le

-- a piece has no separator in it, and one behind it unless the list ends there
module _ (b : ℕ) (s : List ℕ) where
  inside : (from n : ℕ) → length (piece_at b s from) ≡ suc n → Dec (from < length s) → from < length s
  inside from n e (yes h) = h
  inside from n e (no h) = absurd (omega (arith, piece_end b s from (omega arith)))

  shorter : (from n : ℕ) → length (piece_at b s from) ≡ suc n → (get_or s from 0 ≡ b → ⊥) × (length (piece_at b s (from + 1)) ≡ n)
  shorter from n e =
      let h = inside from n e (dec_lt from (length s)) in
      let miss : get_or s from 0 ≡ b → ⊥ = λ q. omega (arith, piece_hit b s from h q) in
      (miss, omega (arith, piece_miss b s from h miss))

  first_or : (from i : ℕ) → (get_or s from 0 ≡ b → ⊥) → (from + 1 ≤ i → get_or s i 0 ≡ b → ⊥) → from ≤ i → Dec (from ≡ i) → get_or s i 0 ≡ b → ⊥
  first_or from i miss later l (yes p) q = miss (ap (λ (k : ℕ). get_or s k 0) p ∙ q)
  first_or from i miss later l (no p) q = later (omega arith) q

  none_in : (n from : ℕ) → length (piece_at b s from) ≡ n → (i : ℕ) → from ≤ i → i < from + n → get_or s i 0 ≡ b → ⊥
  none_in zero from e i l h q = absurd (omega arith)
  none_in (suc n) from e i l h q =
      let next = shorter from n e in
      first_or from i next.0 (λ m. none_in n (from + 1) next.1 i m (omega arith)) l (ℕ_discrete from i) q

  hit_here : (from : ℕ) → length (piece_at b s from) ≡ 0 → from < length s → Dec (get_or s from 0 ≡ b) → get_or s from 0 ≡ b
  hit_here from e h (yes q) = q
  hit_here from e h (no q) = absurd (omega (arith, piece_miss b s from h q))

  hit_behind : (n from : ℕ) → length (piece_at b s from) ≡ n → from + n < length s → get_or s (from + n) 0 ≡ b
  hit_behind zero from e h =
      let place : from + 0 ≡ from = omega arith in
      rw place (hit_here from e (omega arith) (ℕ_discrete (get_or s from 0) b))
  hit_behind (suc n) from e h =
      let place : from + 1 + n ≡ from + suc n = omega arith in
      rw (← place) (hit_behind n (from + 1) (shorter from n e).1 (omega arith))

  pub end_none : (from i : ℕ) → from ≤ i → i < end_of b s from → get_or s i 0 ≡ b → ⊥
  end_none from i = none_in (length (piece_at b s from)) from refl i

  pub end_hit : (from : ℕ) → end_of b s from < length s → get_or s (end_of b s from) 0 ≡ b
  end_hit from = hit_behind (length (piece_at b s from)) from refl

le_after : (t : Bool) (x n : ℕ) (ps : List (List ℕ)) → 0 < length ps → length (at ps 0) ≤ n → length (at (pieces_after t x ps) 0) ≤ suc n
unfolding pieces_after
le_after true x n ps h q = omega arith
le_after false x n ps h q = rw grown (omega arith)

-- the first piece is within the list
pub first_le : (b : ℕ) (s : List ℕ) → length (at (split b s) 0) ≤ length s
unfolding split
first_le b [] = omega arith
first_le b (x ∷ s) = le_after (eqb x b) x (length s) (split b s) (some_piece b s) (first_le b s)

-- of two ways to cut, by whether the first byte is a separator
at_after : (t : Bool) (b x : ℕ) (s : List ℕ) →
    (length (at (split b s) 0) < length s → split b s ≡ take (length (at (split b s) 0)) s ∷ split b (drop (suc (length (at (split b s) 0))) s)) →
    length (at (pieces_after t x (split b s)) 0) < suc (length s) →
    pieces_after t x (split b s) ≡ take (length (at (pieces_after t x (split b s)) 0)) (x ∷ s) ∷ split b (drop (suc (length (at (pieces_after t x (split b s)) 0))) (x ∷ s))
unfolding pieces_after
at_after true b x s ih h = refl
at_after false b x s ih h =
    let g = grown x (split b s) (some_piece b s) in
    let m : length (at (split b s) 0) < length s = omega arith in
    rw g (ap (pieces_after false x) (ih m))

-- with a separator: the first piece, and the pieces behind it
split_at : (b : ℕ) (s : List ℕ) → length (at (split b s) 0) < length s → split b s ≡ take (length (at (split b s) 0)) s ∷ split b (drop (suc (length (at (split b s) 0))) s)
unfolding split
split_at b [] h = absurd (not-suc-le-zero h)
split_at b (x ∷ s) h = at_after (eqb x b) b x s (split_at b s) h

end_after : (t : Bool) (b x : ℕ) (s : List ℕ) → (length (at (split b s) 0) ≡ length s → split b s ≡ s ∷ []) → length (at (pieces_after t x (split b s)) 0) ≡ suc (length s) → pieces_after t x (split b s) ≡ (x ∷ s) ∷ []
unfolding pieces_after
end_after true b x s ih h = absurd (omega arith)
end_after false b x s ih h =
    let g = grown x (split b s) (some_piece b s) in
    ap (pieces_after false x) (ih (omega arith))

-- without a separator: the list is its only piece
split_end : (b : ℕ) (s : List ℕ) → length (at (split b s) 0) ≡ length s → split b s ≡ s ∷ []
unfolding split
split_end b [] h = refl
split_end b (x ∷ s) h = end_after (eqb x b) b x s (split_end b s) h

-- the pieces of s from one that begins at `from` on
module _ (b : ℕ) (s : List ℕ) (from : ℕ) (h : from ≤ length s) where
  pub end_le : end_of b s from ≤ length s
  end_le = omega (arith, first_le b (drop from s), length-drop from s)

  -- it ends at a separator: the others begin behind that
  pub pieces_next : end_of b s from < length s → split b (drop from s) ≡ take (end_of b s from - from) (drop from s) ∷ split b (drop (end_of b s from + 1) s)
  pieces_next m =
      let f : length (piece_at b s from) < length (drop from s) = omega (arith, length-drop from s) in
      rw (add-one, ← add-suc, ← drop-drop, add-sub_cancel_left) (split_at b (drop from s) f)

  -- it ends the list: it is the last
  pub pieces_last : length s ≤ end_of b s from → split b (drop from s) ≡ drop from s ∷ []
  pieces_last m = split_end b (drop from s) (omega (arith, length-drop from s, first_le b (drop from s)))

  piece_by : (m : Dec (end_of b s from < length s)) → piece_at b s from ≡ take (end_of b s from - from) (drop from s)
  piece_by (yes m) = ap (λ (l : List (List ℕ)). at l 0) (pieces_next m)
  piece_by (no m) =
      let q : length s ≤ end_of b s from = omega arith in
      let w : length (drop from s) ≤ end_of b s from - from = omega (arith, length-drop from s) in
      ap (λ (l : List (List ℕ)). at l 0) (pieces_last q) ∙ sym (take_all (end_of b s from - from) (drop from s) w)

  pub piece_here : piece_at b s from ≡ take (end_of b s from - from) (drop from s)
  piece_here = piece_by (dec_lt (end_of b s from) (length s))

-- piece k of a list begins at its edge, and what is behind it are the further pieces
record Begins (b : ℕ) (s : List ℕ) (k : ℕ) : Type 0 where
  within : edge (split b s) k ≤ length s
  rest : drop k (split b s) ≡ split b (drop (edge (split b s) k) s)

module _ (b : ℕ) (s : List ℕ) (k : ℕ) (B : Begins b s k) where
  piece_of : at (split b s) k ≡ piece_at b s (edge (split b s) k)
  piece_of = sym (ap (at (split b s)) (add-zero k)) ∙ sym (get_or-drop k (split b s) 0 []) ∙ ap (λ (l : List (List ℕ)). at l 0) B.rest

  next_edge : edge (split b s) (suc k) ≡ end_of b s (edge (split b s) k) + 1
  unfolding edge
  next_edge = rw piece_of

  -- the number of pieces from piece k on
  rest_length : length (split b s) - k ≡ length (split b (drop (edge (split b s) k) s))
  rest_length = sym (length-drop k (split b s)) ∙ ap length B.rest

  further : suc k < length (split b s) → end_of b s (edge (split b s) k) < length s
  further h = go (dec_lt (end_of b s (edge (split b s) k)) (length s))
    where
      go : Dec (end_of b s (edge (split b s) k) < length s) → end_of b s (edge (split b s) k) < length s
      go (yes m) = m
      go (no m) = absurd (omega (arith, rest_length, ap length (pieces_last b s (edge (split b s) k) B.within (omega arith))))

  begins_next : suc k < length (split b s) → Begins b s (suc k)
  begins_next h =
      let m = further h in
      let q = pieces_next b s (edge (split b s) k) B.within m in
      record {
        within = rw next_edge (omega arith);
        rest = ap (λ (n : ℕ). drop n (split b s)) (sym (add-one k)) ∙ sym (drop-drop 1 k (split b s)) ∙ ap (λ (l : List (List ℕ)). drop 1 l) (B.rest ∙ q) ∙ ap (λ (n : ℕ). split b (drop n s)) (sym next_edge);
      }

  last_edge : length (split b s) ≤ suc k → edge (split b s) (suc k) ≡ length s + 1
  last_edge h = go (dec_lt (end_of b s (edge (split b s) k)) (length s))
    where
      go : Dec (end_of b s (edge (split b s) k) < length s) → edge (split b s) (suc k) ≡ length s + 1
      go (yes m) = absurd (omega (arith, rest_length, ap length (pieces_next b s (edge (split b s) k) B.within m), some_piece b (drop (end_of b s (edge (split b s) k) + 1) s)))
      go (no m) = rw next_edge (omega (arith, end_le b s (edge (split b s) k) B.within))

begins : (b : ℕ) (s : List ℕ) (k : ℕ) → k < length (split b s) → Begins b s k
unfolding edge
begins b s zero h = record { within = omega arith; rest = refl }
begins b s (suc k) h = begins_next b s k (begins b s k (omega arith)) h

-- whether there is a piece n, by its edge
module _ (b : ℕ) (s : List ℕ) where
  pub more_pieces : (n : ℕ) → n ≤ length (split b s) → edge (split b s) n ≤ length s → n < length (split b s)
  more_pieces zero h m = some_piece b s
  more_pieces (suc k) h m = go (dec_lt (suc k) (length (split b s)))
    where
      go : Dec (suc k < length (split b s)) → suc k < length (split b s)
      go (yes p) = p
      go (no p) = absurd (omega (arith, last_edge b s k (begins b s k (omega arith)) (omega arith)))

  pub no_more : (n : ℕ) → n ≤ length (split b s) → length s < edge (split b s) n → n ≡ length (split b s)
  no_more n h m = go (dec_lt n (length (split b s)))
    where
      go : Dec (n < length (split b s)) → n ≡ length (split b s)
      go (yes p) = absurd (omega (arith, (begins b s n p).within))
      go (no p) = omega arith

-- a row that is cut up to `from`, where field n begins
pub record Cutting (row edges : List ℕ) (n from : ℕ) : Type 0 where
  pub count : n ≤ length (split comma row)
  pub low : n ≤ from
  pub within : from ≤ length row + 1
  pub here : edge (split comma row) n ≡ from
  pub long : length edges ≡ edge_limit
  pub edge_at : (k : ℕ) → k ≤ n → k < edge_limit → get_or edges k 0 ≡ edge (split comma row) k

-- one edge more
edge_more : (row edges : List ℕ) (n v : ℕ) → length edges ≡ edge_limit → ((k : ℕ) → k < n → k < edge_limit → get_or edges k 0 ≡ edge (split comma row) k) → v ≡ edge (split comma row) n → (k : ℕ) → k ≤ n → k < edge_limit → get_or (set edges n v) k 0 ≡ edge (split comma row) k
edge_more row edges n v long E e k h l = go (ℕ_discrete k n)
  where
    go : Dec (k ≡ n) → get_or (set edges n v) k 0 ≡ edge (split comma row) k
    go (yes p) = rw p (get_or-set_same edges n v 0 (omega arith) ∙ e)
    go (no p) = get_or-set_other edges n k v 0 p ∙ E k (omega arith) l

pub cutting_none : (row edges : List ℕ) {kept : List ℕ} → length edges ≡ edge_limit → kept ≡ set edges 0 0 → Cutting row kept 0 0
unfolding edge
cutting_none row edges long e = rw e (record {
  count = omega arith;
  low = omega arith;
  within = omega arith;
  here = refl;
  long = length-set edges 0 0 ∙ long;
  edge_at = edge_more row edges 0 0 long (λ k h l. absurd (omega arith)) refl;
})

pub cutting_more : {row edges kept : List ℕ} {n from : ℕ} (e : ℕ) → Cutting row edges n from → from ≤ length row → e ≡ end_of comma row from → kept ≡ set edges (n + 1) (e + 1) → Cutting row kept (n + 1) (e + 1)
cutting_more {row} {edges} {kept} {n} {from} e C h q s =
    let m : n < length (split comma row) = more_pieces comma row n C.count (omega (arith, C.here)) in
    let v : edge (split comma row) (n + 1) ≡ e + 1 = rw add-one (next_edge comma row n (begins comma row n m) ∙ rw (C.here, q)) in
    rw s (record {
      count = omega arith;
      low = omega arith;
      within = omega (arith, end_le comma row from h);
      here = v;
      long = length-set edges (n + 1) (e + 1) ∙ C.long;
      edge_at = edge_more row edges (n + 1) (e + 1) C.long (λ k p l. C.edge_at k (omega arith) l) (sym v);
    })

pub cutting_done : {row edges : List ℕ} {n from : ℕ} → Cutting row edges n from → length row < from → Cut row edges n
cutting_done {row} {edges} {n} {from} C h = record {
  count = no_more comma row n C.count (omega (arith, C.here));
  long = C.long;
  edge_at = C.edge_at;
}

-- field k of a row that was cut
pub record Spans (row : List ℕ) (k from next : ℕ) : Type 0 where
  pub some : 1 ≤ next
  pub low : from ≤ next - 1
  pub high : next - 1 ≤ length row
  pub bytes : take (next - 1 - from) (drop from row) ≡ at (split comma row) k

pub spans : {row edges : List ℕ} {n : ℕ} (k : ℕ) → Cut row edges n → k < n → k + 1 < edge_limit → Spans row k (get_or edges k 0) (get_or edges (k + 1) 0)
spans {row} {edges} {n} k C m l =
    let B = begins comma row k (omega (arith, C.count)) in
    let from = edge (split comma row) k in
    let p : get_or edges k 0 ≡ from = C.edge_at k (omega arith) (omega arith) in
    let q : get_or edges (k + 1) 0 ≡ end_of comma row from + 1 = C.edge_at (k + 1) (omega arith) (omega arith) ∙ rw add-one (next_edge comma row k B) in
    let e : get_or edges (k + 1) 0 - 1 ≡ end_of comma row from = omega arith in
    record {
      some = omega arith;
      low = omega arith;
      high = omega (arith, end_le comma row from B.within);
      bytes = rw (e, p) (sym (piece_here comma row from B.within) ∙ sym (piece_of comma row k B));
    }

pub no_field : {row edges : List ℕ} {n : ℕ} (k : ℕ) → Cut row edges n → n ≤ k → at (split comma row) k ≡ []
no_field {row} k C h = get_or-eq_default (split comma row) [] (omega (arith, C.count))
