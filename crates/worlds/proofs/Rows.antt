-- The row of a refusal is one of the text, or the one behind it.
-- Assumes nothing.
use mathlib.Core.Path.{◌≡◌, sym, subst}
use mathlib.Core.Bool.{Bool, true, false, not, cond}
use mathlib.Core.List.{List, [], ◌∷◌, ◌++◌, map}
use mathlib.Core.Option.{Option}
use Prim.Native.Nat.{ℕ, suc, ◌+◌, ◌<◌, ◌≤◌}
use native.Mathlib.Omega.{arith}
use lib.Dec.{eqb}
use lib.ListN.{length, length-append}
use Rattle.sets.specs.Lists.{empty}
use Rattle.klaim.specs.Process.{Line}
use Rattle.klaim.specs.Rows.{Row, newline, pieces_after, split, rows_from, rows_of}
use Rattle.klaim.specs.Reader.{Answer, refused, gives, and_then, Text, a_net, an_estimate, Judged, bad, good, judge, scan, read_rows, in_turn, named_once, roots_closed, whole, numbers_of, lines_of, net_of, whole_net, read_net, read_estimate, World, read_both}

-- a refusal's row
abbrev row_of : {A : Type 0} → Answer A → ℕ
row_of (refused n row) = row
row_of (gives x) = 0

then_row : {A B : Type 0} (m : ℕ) (a : Answer A) (f : A → Answer B) → row_of a ≤ m → ((x : A) → row_of (f x) ≤ m) → row_of (and_then a f) ≤ m
unfolding and_then
then_row m (refused n row) f h g = h
then_row m (gives x) f h g = g x

pieces_short : (b : Bool) (x : ℕ) (ps : List (List ℕ)) (n : ℕ) → length ps ≤ n → 0 < n → length (pieces_after b x ps) ≤ suc n
unfolding pieces_after
pieces_short true x ps n h l = omega arith
pieces_short false x [] n h l = omega arith
pieces_short false x (p ∷ ps) n h l = omega arith

split_short : (b : ℕ) (s : List ℕ) → length (split b s) ≤ suc (length s)
unfolding split
split_short b [] = omega arith
split_short b (x ∷ s) = pieces_short (eqb x b) x (split b s) (suc (length s)) (split_short b s) (omega arith)

rows_short : (ps : List (List ℕ)) → length (rows_from ps) ≤ length ps
unfolding rows_from
rows_short [] = omega arith
rows_short ([] ∷ []) = omega arith
rows_short ((b ∷ left) ∷ []) = omega arith
rows_short ([] ∷ next ∷ ps) = let h = rows_short (next ∷ ps) in omega arith
rows_short ((b ∷ left) ∷ next ∷ ps) = let h = rows_short (next ∷ ps) in omega arith

scan_row : (t : Text) (above : List Row) (os : List (Option Row)) → row_of (scan t above os) ≤ length above + length os
unfolding scan
scan_row t above [] = omega arith
scan_row t above (o ∷ os) = go (judge t above o) (λ r. scan_row t (above ++ (r ∷ [])) os)
  where
    go : (j : Judged) → ((r : Row) → row_of (scan t (above ++ (r ∷ [])) os) ≤ length (above ++ (r ∷ [])) + length os) → row_of {A = List Row} (elim j [ bad n ↦ refused n (suc (length above)) | good r ↦ scan t (above ++ (r ∷ [])) os ]) ≤ length above + length (o ∷ os)
    go (bad n) ih = omega arith
    go (good r) ih = let h = ih r in omega (arith, h, length-append above (r ∷ []))

read_row : (t : Text) (bytes : List ℕ) → row_of (read_rows t bytes) ≤ suc (length bytes)
unfolding read_rows rows_of
read_row t bytes = omega (arith, scan_row t [] (rows_from (split newline bytes)), rows_short (split newline bytes), split_short newline bytes)

whole_row : {A : Type 0} (numbers : List ℕ) (ls : List Line) (roots : List ℕ) (x : A) → row_of (whole numbers ls roots x) ≤ 1
unfolding whole
whole_row {A} numbers ls roots x = go (in_turn numbers ls roots) (named_once ls roots) (roots_closed ls roots)
  where
    go : (a b c : Bool) → row_of {A = A} (cond (not a) (refused 5 0) (cond (not b) (refused 6 0) (cond (not c) (refused 8 0) (gives x)))) ≤ 1
    go false b c = omega arith
    go true false c = omega arith
    go true true false = omega arith
    go true true true = omega arith

net_row : (rows : List Row) → row_of (whole_net rows) ≤ 1
unfolding whole_net
net_row rows = go (empty rows) (whole_row (numbers_of rows) (lines_of rows) (map (λ r. r.line) (net_of rows).roots) (net_of rows))
  where
    go : (b : Bool) → row_of (whole (numbers_of rows) (lines_of rows) (map (λ r. r.line) (net_of rows).roots) (net_of rows)) ≤ 1 → row_of (cond b (refused 3 1) (whole (numbers_of rows) (lines_of rows) (map (λ r. r.line) (net_of rows).roots) (net_of rows))) ≤ 1
    go true h = omega arith
    go false h = h

pub both_row : (net estimate : List ℕ) (m n row : ℕ) → length net < m → length estimate < m → refused n row ≡ read_both net estimate → row ≤ m
unfolding read_both read_net read_estimate
both_row net estimate m n row h g e = subst (λ (a : Answer World). row_of a ≤ m) (sym e)
    (then_row m (read_net net) _
    (then_row m (read_rows a_net net) whole_net (omega (arith, read_row a_net net)) (λ rows. omega (arith, net_row rows)))
    (λ N. then_row m (read_estimate N.size estimate) _ (then_row m (read_rows (an_estimate N.size) estimate) _ (omega (arith, read_row (an_estimate N.size) estimate)) (λ rows. omega arith)) (λ E. omega arith)))
