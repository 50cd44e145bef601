-- Laws of lines moved behind others.
-- Assumes nothing.
use mathlib.Core.Path.{◌≡◌, sym, ap, subst, ◌∙◌}
use mathlib.Core.Bool.{true}
use mathlib.Core.List.{List, [], ◌∷◌, ◌++◌, map, append-nil, append_assoc, map-append}
use Prim.Native.Nat.{ℕ, ◌+◌, ◌<◌, ◌≤◌}
use native.Mathlib.Numerals.{add-one}
use native.Mathlib.Omega.{arith}
use Rattle.sets.specs.Lists.{Elem, table, table_from}
use Rattle.sets.proofs.Tables.{table_snoc}
use Rattle.klaim.specs.Process.{Line, children, move, ordered}
use Rattle.klaim.proofs.Process.{child_line}
use Rattle.tables.specs.declared.Action.{Action}
use Rattle.tables.specs.View.{Lines, action_line, line_of, lines_of}
use Rattle.tables.proofs.LineTable.{lines_long, line_at_lem}

-- a child of an action has room n lines further on
pub within : (n : ℕ) {x y : Action} → x ≡ y → ((c : ℕ) → Elem c (children (action_line x)) → n + c < 256) → (c : ℕ) → Elem c (children (action_line y)) → n + c < 256
within n e h c i = h c (subst (λ (a : Action). Elem c (children (action_line a))) (sym e) i)

-- and so has a child of line q of the arrival, where there is room for the arrival
pub has_room : (n : ℕ) (t : Lines) (q : ℕ) {x : Line} → n + t.count ≤ 256 → ordered (lines_of t) ≡ true → q < t.count → x ≡ line_of t q → (c : ℕ) → Elem c (children x) → n + c < 256
has_room n t q few o h e c i =
    omega (arith, few, lines_long t, child_line (lines_of t) q o c (subst (λ (l : Line). Elem c (children l)) (e ∙ sym (line_at_lem t q h)) i))

-- no line, and one line more
pub none_moved : (n : ℕ) (f : ℕ → Line) (ls : List Line) → ls ≡ ls ++ map (move n) (table 0 f)
unfolding table table_from
none_moved n f ls = sym (append-nil ls)

pub one_moved : (n q : ℕ) (f : ℕ → Line) (ls : List Line) → (ls ++ map (move n) (table q f)) ++ (move n (f q) ∷ []) ≡ ls ++ map (move n) (table (q + 1) f)
one_moved n q f ls =
    append_assoc ls (map (move n) (table q f)) (move n (f q) ∷ [])
    ∙ ap (λ (l : List Line). ls ++ l) (sym (ap (map (move n)) (ap (λ (k : ℕ). table k f) (add-one q) ∙ table_snoc q f) ∙ map-append (move n) (table q f) (f q ∷ [])))
