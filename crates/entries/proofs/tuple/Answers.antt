use Prim.Native.Nat.{◌%◌}
use Rattle.entries.proofs.Names.{tuple_same}
use Rattle.entries.proofs.tuple.Goals as goal

pub returns : goal.returns
returns c = rw (c.byte.ensures, c.map.ensures (λ s. s.0 % 256) (λ x y p. p)) (tuple_same c.args.tuple.now c.requires)
