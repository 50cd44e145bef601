-- The form of a process line as the code holds it.
-- Assumes nothing.
use Rattle.std.specs.Prelude.{List, map, ℕ, drop}
use Rattle.std.proofs.Math.Option.{Option, some}
use Rattle.klaim.specs.declared.Loc.{Loc}
use Rattle.klaim.specs.Process as Spec
use Rattle.klaim.specs.Fields.{items}
use Rattle.klaim.specs.Rows.{at, ◌>>=◌, number, loc_field, fields}
use Rattle.text.specs.Fields.{loc, slot}
use Rattle.lines.specs.declared.Acts.{Acts}
use Rattle.lines.specs.declared.Line.{Line}
use Rattle.lines.specs.declared.Line.TheVariants.{Nil, Par, Rep, Out, In, Read, Eval, Accept}

-- a line of `out`, `in` or `read`, by what its fields mean
unfoldable pub acts_of : {T A : Type 0} → (T → A) → (ℕ → Loc → List A → Spec.Line) → Acts T → Spec.Line
acts_of meaning kind x = kind x.next (loc x.target) (map meaning (items x.fields))

-- the same from the fields of its row: a in the fourth, g in the fifth, f.. behind
unfoldable pub acts_form : {A : Type 0} → (List ℕ → Option A) → (ℕ → Loc → List A → Spec.Line) → List (List ℕ) → Option Spec.Line
acts_form field kind fs = number (at fs 3) >>= λ a. loc_field (at fs 4) >>= λ g. fields field (drop 5 fs) >>= λ xs. some (kind a g xs)

-- a process line
unfoldable pub line_view : Line → Spec.Line
line_view Nil = Spec.Nil
line_view (Par a b) = Spec.Par a b
line_view (Rep a) = Spec.Rep a
line_view (Out x) = acts_of loc Spec.Out x
line_view (In x) = acts_of slot Spec.In x
line_view (Read x) = acts_of slot Spec.Read x
line_view (Eval a g b k) = Spec.Eval a (loc g) b k
line_view (Accept a k) = Spec.Accept a k
