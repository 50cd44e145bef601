-- A table of lines, tuples or roots with the entry of a row more.
-- Assumes nothing.
use mathlib.Core.Path.{◌≡◌, ap, ◌∙◌}
use mathlib.Core.List.{List, [], ◌∷◌, ◌++◌}
use Prim.Native.Nat.{ℕ, ◌+◌, ◌<◌}
use lib.ListN.{set}
use Rattle.klaim.specs.Process as Process
use Rattle.klaim.specs.Net as Net
use Rattle.tables.specs.declared.line.Line.{Line}
use Rattle.tables.specs.declared.Tuple.{Tuple}
use Rattle.tables.specs.declared.Root.{Root}
use Rattle.tables.specs.View.{Lines, Tuples, Roots, no_line, no_tuple, no_root, action_line, tuple_view, root_view, line_of, row_at, root_at, lines_of, tuples_of, roots_of}
use Rattle.tables.proofs.Entries.{pushed}

pub line_pushed : (old new : Lines) (x : Line) {l : Process.Line} → old.count < 256 →
    new.items ≡ set old.items old.count x → new.count ≡ old.count + 1 → action_line x.action ≡ l → lines_of new ≡ lines_of old ++ (l ∷ [])
unfolding lines_of line_of
line_pushed old new x h i n e = pushed (λ (x : Line). action_line x.action) no_line old new x h i n ∙ ap (λ l. lines_of old ++ (l ∷ [])) e

pub tuple_pushed : (old new : Tuples) (x : Tuple) {ss : List ℕ} → old.count < 256 →
    new.items ≡ set old.items old.count x → new.count ≡ old.count + 1 → tuple_view x ≡ ss → tuples_of new ≡ tuples_of old ++ (ss ∷ [])
unfolding tuples_of row_at
tuple_pushed old new x h i n e = pushed tuple_view no_tuple old new x h i n ∙ ap (λ ss. tuples_of old ++ (ss ∷ [])) e

pub root_pushed : (old new : Roots) (x : Root) {r : Net.Root} → old.count < 64 →
    new.items ≡ set old.items old.count x → new.count ≡ old.count + 1 → root_view x ≡ r → roots_of new ≡ roots_of old ++ (r ∷ [])
unfolding roots_of root_at
root_pushed old new x h i n e = pushed root_view no_root old new x h i n ∙ ap (λ r. roots_of old ++ (r ∷ [])) e
