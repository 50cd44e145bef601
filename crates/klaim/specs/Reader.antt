-- A net, an estimate and an arrival read from their bytes: what the rows say, or the number and the row of the refusal.
-- Assumes nothing.
use Rattle.std.specs.Prelude.{Bool, true, not, cond, List, [], ◌∷◌, ◌++◌, map, ℕ, suc, ◌+◌, ◌%◌, ◌^◌, eqb, leb, ltb, length, get_or, set}
use Rattle.std.proofs.Math.Option.{Option, none, some}
use Rattle.sets.specs.Lists.{◌&◌, either, imp, all, any, keep, empty, table, below, same, count, concat, ◌⧺◌}
use Rattle.sets.specs.Bits.{every_right, grant, joins}
use Rattle.klaim.specs.Limits.{site_limit, var_limit, box_limit, tuple_limit, thread_limit, line_limit, policy_size, pair_index, box_width, boxes_size, box_index, self_place}
use Rattle.klaim.specs.Process.{Line, children, template, clash, ordered, tree, free}
use Rattle.klaim.specs.Rows.{Row, group_n, group_r, group_d, group_t, group_l, group_q, group_b, group_a, group_e, rows_of}
use Rattle.klaim.specs.Net.{Root, Net, Estimate}

-- what a call answers: "A refusal returns its number, and its row for 1 to 4 and 7", else row 0
pub data Answer (A : Type 0) : Type 0 where
  refused : ℕ → ℕ → Answer A
  gives : A → Answer A

-- what comes next, unless this was refused
unfoldable pub and_then : {A B : Type 0} → Answer A → (A → Answer B) → Answer B
and_then (refused n row) f = refused n row
and_then (gives x) f = f x

-- what is read: a net; an estimate, given the net's n; an arrival, given n and the number of present lines
pub data Text : Type 0 where
  a_net : Text
  an_estimate : ℕ → Text
  an_arrival : ℕ → ℕ → Text

-- 2: "number .. over its limit, n = 0"
unfoldable pub in_limits : Row → Bool
in_limits r =
    imp (eqb r.group group_n) (leb 1 r.size & leb r.size site_limit)
    & all (λ k. ltb k box_limit) r.boxes
    & all (λ u. ltb u var_limit) r.vars
    & all (λ s. ltb s site_limit) r.sites
    & all (λ q. ltb q line_limit) r.lines

-- the rows of a group
unfoldable pub of_group : ℕ → List Row → List Row
of_group g rows = keep (λ r. eqb r.group g) rows

-- "2 also past 256 lines in all": the lines that are there before the text
unfoldable pub present : Text → ℕ
present a_net = 0
present (an_estimate n) = 0
present (an_arrival n d) = d

-- 2: "row count over its limit": k rows of group g stand above
unfoldable pub full : Text → ℕ → ℕ → Bool
full t g k =
    either (eqb g group_t & leb tuple_limit k)
    (either (eqb g group_l & leb thread_limit k)
    (either (eqb g group_q & leb line_limit (present t + k))
    (eqb g group_a & leb tuple_limit k)))

-- 2
unfoldable pub over : Text → List Row → Row → Bool
over t above r = either (not (in_limits r)) (full t r.group (length (of_group r.group above)))

-- 3: "first row of a net not N": N stands first, and once
unfoldable pub headed : Text → List Row → Row → Bool
headed a_net above r = imp (empty above) (eqb r.group group_n) & imp (eqb r.group group_n) (empty above)
headed (an_estimate n) above r = true
headed (an_arrival n d) above r = true

-- 3: "foreign to this file"
unfoldable pub own : Text → ℕ → Bool
own a_net g = leb g group_q
own (an_estimate n) g = leb group_b g
own (an_arrival n d) g = eqb g group_q

-- 3: "group out of order"
unfoldable pub in_order : List Row → Row → Bool
in_order above r = all (λ b. leb b.group r.group) above

-- 3: "R, D and E rows repeat if their first two fields do, T, L, B and A rows if all do, Q rows never":
-- all but the rights
unfoldable pub key : Row → List ℕ
key r = r.group ∷ (r.boxes ⧺ (r.vars ⧺ (r.sites ⧺ r.lines)))

-- 3: "pair or row repeated"
unfoldable pub repeated : List Row → Row → Bool
repeated above r = not (eqb r.group group_q) & any (λ b. same (key b) (key r)) above

-- 3
unfoldable pub misplaced : Text → List Row → Row → Bool
misplaced t above r = either (not (headed t above r & own t r.group & in_order above r)) (repeated above r)

-- the n of the rows above
unfoldable pub size_of : List Row → ℕ
size_of [] = 0
size_of (r ∷ rs) = r.size

-- the n of the text: of a net what its N row says
unfoldable pub site_count : Text → List Row → ℕ
site_count a_net above = size_of above
site_count (an_estimate n) above = n
site_count (an_arrival n d) above = n

-- 4: "site not below n"
unfoldable pub absent : ℕ → Row → Bool
absent n r = any (λ s. leb n s) r.sites

-- a row refused by a number, or let through
pub data Judged : Type 0 where
  bad : ℕ → Judged
  good : Row → Judged

-- "Each row top down: 1, 2, 3, 4, 7."
unfoldable pub judge : Text → List Row → Option Row → Judged
judge t above none = bad 1
judge t above (some r) =
    cond (over t above r) (bad 2)
    (cond (misplaced t above r) (bad 3)
    (cond (absent (site_count t above) r) (bad 4)
    (cond (clash (template r.process)) (bad 7)
    (good r))))

-- "Rows count from 1 in each text": the rows of a text, below those in `above`
unfoldable pub scan : Text → List Row → List (Option Row) → Answer (List Row)
scan t above [] = gives above
scan t above (o ∷ os) = elim (judge t above o) [ bad n ↦ refused n (suc (length above)) | good r ↦ scan t (above ++ (r ∷ [])) os ]

-- the rows of a whole text
unfoldable pub read_rows : Text → List ℕ → Answer (List Row)
read_rows t bytes = scan t [] (rows_of bytes)

-- 5: "Q number out of turn, child or L line absent, child not greater"
unfoldable pub in_turn : List ℕ → List Line → List ℕ → Bool
in_turn numbers ls roots = same numbers (below (length ls)) & ordered ls & all (λ q. ltb q (length ls)) roots

-- 6: "line named twice or never": "Each line is named exactly once, by an L row or one parent"
unfoldable pub named_once : List Line → List ℕ → Bool
named_once ls roots = all (λ q. eqb (count q (roots ⧺ concat children ls)) 1) (below (length ls))

-- 8: "root with a free variable"
unfoldable pub roots_closed : List Line → List ℕ → Bool
roots_closed ls roots = all (λ q. empty (free (tree ls q))) roots

-- "Then 5, 6, 8, each over the whole text."
unfoldable pub whole : {A : Type 0} → List ℕ → List Line → List ℕ → A → Answer A
whole numbers ls roots x =
    cond (not (in_turn numbers ls roots)) (refused 5 0)
    (cond (not (named_once ls roots)) (refused 6 0)
    (cond (not (roots_closed ls roots)) (refused 8 0)
    (gives x)))

-- a row's first and second site, first line, ..
abbrev pub nth : List ℕ → ℕ → ℕ
nth xs i = get_or xs i 0

-- a table of n sets: in place i what the rows put there
unfoldable pub gather : ℕ → (Row → ℕ) → (Row → ℕ) → List Row → List ℕ
gather n place value rows = table n (λ i. joins (λ r. grant (eqb (place r) i) (value r)) rows)

-- byte 32 × s + t of a row with two sites
unfoldable pub pair_place : Row → ℕ
pair_place r = pair_index (nth r.sites 0) (nth r.sites 1)

-- byte 33 × k + t of a D row, which names no site for `self`
unfoldable pub box_place : Row → ℕ
box_place r = box_index (nth r.boxes 0) (get_or r.sites 0 self_place)

-- the sandboxes where no D row speaks: towards a site nothing;
-- No. 3: "a sandbox with no `self` row has all five rights for `self`"
unfoldable pub silent_boxes : List ℕ
silent_boxes = table boxes_size (λ i. grant (eqb (i % box_width) self_place) every_right)

-- each D row puts its set into its place, in place of what stands there; no two have one place (3)
unfoldable pub put_boxes : List ℕ → List Row → List ℕ
put_boxes t [] = t
put_boxes t (r ∷ rs) = put_boxes (set t (box_place r) r.rights) rs

-- "`L,s,q`"
unfoldable pub root_of : Row → Root
root_of r = record { site = nth r.sites 0; line = nth r.lines 0 }

-- the numbers of the Q rows, in their order
unfoldable pub numbers_of : List Row → List ℕ
numbers_of rows = map (λ r. nth r.lines 0) (of_group group_q rows)

-- the lines of the Q rows, in their order
unfoldable pub lines_of : List Row → List Line
lines_of rows = map (λ r. r.process) (of_group group_q rows)

-- the net that the rows say
unfoldable pub net_of : List Row → Net
net_of rows = record {
  size = size_of rows;
  homes = gather policy_size pair_place (λ r. r.rights) (of_group group_r rows);
  boxes = put_boxes silent_boxes (of_group group_d rows);
  tuples = map (λ r. r.sites) (of_group group_t rows);
  roots = map root_of (of_group group_l rows);
  lines = lines_of rows;
}

-- the estimate that the rows say
unfoldable pub estimate_of : List Row → Estimate
estimate_of rows = record {
  binds = gather var_limit (λ r. nth r.vars 0) (λ r. 2 ^ nth r.sites 0) (of_group group_b rows);
  stand = map (λ r. r.sites) (of_group group_a rows);
  hold = gather policy_size pair_place (λ r. r.rights) (of_group group_e rows);
}

-- "An empty net is 3, row 1."
unfoldable pub whole_net : List Row → Answer Net
whole_net rows = cond (empty rows) (refused 3 1) (whole (numbers_of rows) (lines_of rows) (map (λ r. r.line) (net_of rows).roots) (net_of rows))

-- a net from its bytes
unfoldable pub read_net : List ℕ → Answer Net
read_net bytes = and_then (read_rows a_net bytes) whole_net

-- an estimate from its bytes, given the n of the net
unfoldable pub read_estimate : ℕ → List ℕ → Answer Estimate
read_estimate n bytes = and_then (read_rows (an_estimate n) bytes) (λ rows. gives (estimate_of rows))

-- "Bring takes Q rows numbered from 0 .. and makes line 0 a root, which counts as its naming"; "no rows is 5": there is no line 0
unfoldable pub read_arrival : ℕ → ℕ → List ℕ → Answer (List Line)
read_arrival n d bytes = and_then (read_rows (an_arrival n d) bytes) (λ rows. whole (numbers_of rows) (lines_of rows) (0 ∷ []) (lines_of rows))

-- a net and its estimate
pub record World : Type 0 where
  pub net : Net
  pub estimate : Estimate

-- "The net is read before the estimate."
unfoldable pub read_both : List ℕ → List ℕ → Answer World
read_both net estimate = and_then (read_net net) λ N. and_then (read_estimate N.size estimate) λ E. gives (record { net = N; estimate = E })
