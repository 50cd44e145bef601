use Rattle.std.specs.Io.KnownBytes.{Keeps}
use Rattle.streams.proofs.read.Given as goal

-- an interrupted read took nothing
abbrev pub invariant-loop : goal.invariant-loop
invariant-loop g l = Keeps (g.R.Read.remaining l.initial.input) (g.R.Read.remaining l.input)
