-- Why a whole text is refused, if it is.
-- Assumes nothing.
use Rattle.std.specs.Prelude.{Bool, not, cond, List, ℕ, ltb, length, Result, Ok, Err}
use Rattle.sets.specs.Lists.{◌&◌, all}
use Rattle.klaim.specs.Process.{Line, ordered}
use Rattle.klaim.specs.Reader.{Answer, refused, gives, named_once, roots_closed}
use Rattle.klaim.specs.Refusals.{number_of}
use Rattle.klaim.specs.declared.Reason.{Reason}
use Rattle.klaim.specs.declared.Reason.TheVariants.{Turn, Naming, Free}

-- 5, 6, 8, or none
unfoldable pub whole_of : Bool → List Line → List ℕ → Result (Unit {0}) Reason
whole_of turn ls roots =
    cond (not (turn & ordered ls & all (λ q. ltb q (length ls)) roots)) (Err Turn)
    (cond (not (named_once ls roots)) (Err Naming)
    (cond (not (roots_closed ls roots)) (Err Free) (Ok tt)))

-- what it says of what was read
abbrev pub whole_answer : {A : Type 0} → Result (Unit {0}) Reason → A → Answer A
whole_answer (Ok u) x = gives x
whole_answer (Err why) x = refused (number_of why) 0
