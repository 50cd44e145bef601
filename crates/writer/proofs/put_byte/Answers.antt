use Rattle.writer.proofs.Wrote.{wrote_byte}
use Rattle.writer.proofs.put_byte.Goals as goal

pub returns : goal.returns
returns c = wrote_byte _ _ _ c.requires
