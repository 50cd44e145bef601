use Prim.Native.Nat.{◌%◌}
use lib.ListN.{get_or}
use Rattle.sets.proofs.Tables.{Filled}
use Rattle.text.specs.Fields.{unsaid}
use Rattle.nets.proofs.clear_unsaid.Given as goal

abbrev pub invariant-loop-i : goal.invariant-loop-i
invariant-loop-i l = Filled 0 (λ k. get_or l.initial.boxes k 0 % unsaid) l.initial.boxes l.boxes l.i
