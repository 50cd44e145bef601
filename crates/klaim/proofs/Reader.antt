-- What is read is well-formed.
-- Assumes nothing.
use mathlib.Core.Path.{◌≡◌, refl, ap, subst, ◌∙◌}
use mathlib.Core.Bool.{true, false, not}
use mathlib.Core.List.{List, [], ◌∷◌, map}
use Prim.Native.Nat.{ℕ, ◌+◌, ◌-◌, ◌<◌, ◌≤◌}
use native.Mathlib.Omega.{arith}
use lib.ListN.{length, length-map}
use Rattle.sets.specs.Lists.{Elem, first, ◌&◌, either, all, empty}
use Rattle.sets.proofs.Lists.{and_l, and_r, and_i, not_no, neither_l, cond_at, eqb_eq, nleb_lt, ltb_lt, all_at, all_i, All-in, In-All, map_out, in_map, keep_out}
use Rattle.sets.proofs.Tables.{length_table}
use Rattle.klaim.specs.Limits.{tuple_limit, thread_limit, line_limit, boxes_size}
use Rattle.klaim.specs.Process.{Line, ordered, tree, free}
use Rattle.klaim.specs.Rows.{Row, group_d, group_t, group_l, group_q, group_a, row_line}
use Rattle.klaim.specs.Net.{Root, Net, Estimate}
use Rattle.klaim.specs.Invariant.{all_below, line_fits}
use Rattle.klaim.specs.WellFormed.{NetOk, EstimateOk, ArrivalRead}
use Rattle.klaim.specs.Reader.{Answer, refused, gives, and_then, Text, a_net, an_estimate, an_arrival, in_limits, of_group, present, full, site_count, read_rows, in_turn, named_once, roots_closed, whole, nth, gather, root_of, silent_boxes, lines_of, net_of, estimate_of, whole_net, read_net, read_estimate, read_arrival, World, read_both}
use Rattle.klaim.proofs.Above.{boxes_long}
use Rattle.klaim.proofs.Scan.{RowOk, refused_none, rows_ok, rows_few, rows_distinct, net_size}

module _ {A B : Type 0} where
  -- both parts of two readings gave something
  pub then_gives : (a : Answer A) {f : A → Answer B} {y : B} → and_then a f ≡ gives y → (x : A) × (a ≡ gives x) × (f x ≡ gives y)
  unfolding and_then
  then_gives (refused n row) e = refused_none e
  then_gives (gives x) e = (x, refl, e)

-- what 5, 6 and 8 leave
record Whole (ls : List Line) (roots : List ℕ) : Type 0 where
  ordered_lines : ordered ls ≡ true
  present : (q : ℕ) → Elem q roots → q < length ls
  named : named_once ls roots ≡ true
  closed : (q : ℕ) → Elem q roots → empty (free (tree ls q)) ≡ true

whole_gives : {A : Type 0} (numbers : List ℕ) (ls : List Line) (roots : List ℕ) (x : A) {y : A} → whole numbers ls roots x ≡ gives y → Whole ls roots × (x ≡ y)
unfolding whole in_turn roots_closed
whole_gives {A} numbers ls roots x {y} =
    cond_at P (not (in_turn numbers ls roots)) (λ t. refused_none) λ a.
    cond_at P (not (named_once ls roots)) (λ t. refused_none) λ b.
    cond_at P (not (roots_closed ls roots)) (λ t. refused_none) λ c e.
    let t = and_r _ _ (not_no _ a) in (
      record {
        ordered_lines = and_l _ _ t;
        present = λ q i. ltb_lt _ _ (all_at _ i (and_r _ _ t));
        named = not_no _ b;
        closed = λ q i. all_at _ i (not_no _ c);
      },
      cc,
    )
  where
    P : Answer A → Type 0
    P z = z ≡ gives y → Whole ls roots × (x ≡ y)

-- the line of a row that is ok
line_fits_lem : (n : ℕ) (r : Row) → RowOk n r → r.group ≡ group_q → line_fits n r.process ≡ true
unfolding line_fits all_below in_limits row_line
line_fits_lem n r k g =
    let h = subst (RowOk n) (k.shaped.line_row g) k in
    let t = and_r _ _ h.in_limits_lem in
    and_i h.low (and_i (and_l _ _ (and_r _ _ t)) (and_l _ _ t))

-- the first of numbers below n; for none, 0
first_below : (n : ℕ) (xs : List ℕ) → 1 ≤ n → all_below n xs ≡ true → nth xs 0 < n
unfolding all_below all
first_below n [] h t = h
first_below n (x ∷ xs) h t = ltb_lt x n (and_l _ _ t)

-- the rows of a text, by group
module _ (t : Text) (bytes : List ℕ) {rows : List Row} (e : read_rows t bytes ≡ gives rows) where
  group_ok : (g : ℕ) {r : Row} → Elem r (of_group g rows) → RowOk (site_count t rows) r × (r.group ≡ g)
  unfolding of_group
  group_ok g i = let k = keep_out _ rows i in (All-in (rows_ok t bytes e) k.0, eqb_eq k.1)

  sites_fit : (g : ℕ) → all (all_below (site_count t rows)) (map (λ r. r.sites) (of_group g rows)) ≡ true
  sites_fit g = all_i _ _ λ ss i. let r = map_out _ _ i in ap (all_below _) r.2 ∙ (group_ok g r.1).0.low

  lines_fit : all (line_fits (site_count t rows)) (lines_of rows) ≡ true
  unfolding lines_of
  lines_fit = all_i _ _ λ l i. let r = map_out _ _ i in let k = group_ok group_q r.1 in ap (line_fits _) r.2 ∙ line_fits_lem _ r.0 k.0 k.1

  group_few : {A : Type 0} (f : Row → A) (g m : ℕ) → ((k : ℕ) → full t g k ≡ false → k < m) → length (map f (of_group g rows)) ≤ m
  group_few f g m h = rw length-map (rows_few t g m h bytes e)

  lines_few : present t ≤ line_limit → present t + length (lines_of rows) ≤ line_limit
  unfolding lines_of full either ◌&◌
  lines_few h = omega (arith, group_few (λ r. r.process) group_q (line_limit - present t) (λ k g. omega (arith, nleb_lt line_limit (present t + k) (neither_l _ _ g))))

  root_placed : 1 ≤ site_count t rows → {r : Root} → Elem r (map root_of (of_group group_l rows)) → r.site < site_count t rows
  unfolding root_of
  root_placed h i = let r = map_out _ _ i in rw r.2 (first_below _ r.0.sites h (group_ok group_l r.1).0.low)

-- the net that the rows make
net_rows : (bytes : List ℕ) (rows : List Row) → read_rows a_net bytes ≡ gives rows → empty rows ≡ false → Whole (lines_of rows) (map (λ r. r.line) (net_of rows).roots) → NetOk (net_of rows)
unfolding net_of lines_of gather silent_boxes full either ◌&◌ present site_count
net_rows bytes rows e s w =
    let n = net_size bytes e s in
    record {
      sites_some = n.0;
      sites_few = n.1;
      homes_long = length_table 1024 _;
      boxes_long = boxes_long silent_boxes (of_group group_d rows) ∙ length_table boxes_size _;
      tuples_few = group_few a_net bytes e _ group_t tuple_limit (λ k h. nleb_lt _ k (neither_l _ _ h));
      tuples_fit = sites_fit a_net bytes e group_t;
      roots_few = group_few a_net bytes e _ group_l thread_limit (λ k h. nleb_lt _ k (neither_l _ _ h));
      roots_ok = In-All _ (λ r i. record {
        placed = root_placed a_net bytes e n.0 i;
        present = w.present _ (in_map (λ r. r.line) i);
        closed = w.closed _ (in_map (λ r. r.line) i);
      });
      lines_few = omega (arith, lines_few a_net bytes e (omega arith));
      lines_ordered = w.ordered_lines;
      lines_fit = lines_fit a_net bytes e;
      each_named_once = w.named;
    }

-- a net that is read is ok
pub net_read : (bytes : List ℕ) (N : Net) → read_net bytes ≡ gives N → NetOk N
unfolding read_net whole_net
net_read bytes N e =
    let (rows, r, f) = then_gives (read_rows a_net bytes) e in
    cond_at (λ (z : Answer Net). z ≡ gives N → NetOk N) (empty rows) (λ t. refused_none)
    (λ s g. let w = whole_gives _ _ _ _ g in subst NetOk w.1 (net_rows bytes rows r s w.0)) f

-- an estimate that is read is ok
pub estimate_read : (n : ℕ) (bytes : List ℕ) (E : Estimate) → read_estimate n bytes ≡ gives E → EstimateOk n E
unfolding read_estimate estimate_of gather full either ◌&◌ site_count
estimate_read n bytes E e =
    let (rows, r, f) = then_gives (read_rows (an_estimate n) bytes) e in
    let q : estimate_of rows ≡ E = cc in
    subst (EstimateOk n) q (record {
      binds_long = length_table 32 _;
      stand_few = group_few (an_estimate n) bytes r _ group_a tuple_limit (λ k h. nleb_lt _ k h);
      stand_fit = sites_fit (an_estimate n) bytes r group_a;
      stand_distinct = rows_distinct (an_estimate n) bytes r;
      hold_long = length_table 1024 _;
    })

-- an arrival that is read is ok
pub arrival_read : (n d : ℕ) (bytes : List ℕ) (ls : List Line) → d ≤ line_limit → read_arrival n d bytes ≡ gives ls → ArrivalRead n d ls
unfolding read_arrival present site_count
arrival_read n d bytes ls h e =
    let (rows, r, f) = then_gives (read_rows (an_arrival n d) bytes) e in
    let (w, q) = whole_gives _ _ _ _ f in
    subst (ArrivalRead n d) q (record {
      some_line = w.present 0 (first refl);
      few = lines_few (an_arrival n d) bytes r h;
      lines_ordered = w.ordered_lines;
      lines_fit = lines_fit (an_arrival n d) bytes r;
      closed = w.closed 0 (first refl);
    })

-- the two texts of a start
pub both_read : (net estimate : List ℕ) (w : World) → read_both net estimate ≡ gives w → NetOk w.net × EstimateOk w.net.size w.estimate
unfolding read_both
both_read net estimate w e =
    let (N, r, f) = then_gives (read_net net) e in
    let (E, q, g) = then_gives (read_estimate N.size estimate) f in
    let p : record { net = N; estimate = E } ≡ w = cc in
    subst (λ (w : World). NetOk w.net × EstimateOk w.net.size w.estimate) p (net_read net N r, estimate_read N.size estimate E q)
