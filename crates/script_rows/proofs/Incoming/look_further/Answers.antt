use Rattle.script_rows.proofs.Rows.{read_on}
use Rattle.script_rows.proofs.Incoming.look_further.Goals as goal

pub returns : goal.returns
returns g c = read_on c.requires.0 c.requires.1 c.make_room.ensures c.read_more.ensures
