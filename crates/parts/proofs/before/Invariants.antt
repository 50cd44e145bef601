use Rattle.parts.proofs.Parts.{Searched}
use Rattle.parts.proofs.before.Given as goal

-- no row `.` stands before place i
abbrev pub invariant-loop-i : goal.invariant-loop-i
invariant-loop-i l = Searched l.input l.i
