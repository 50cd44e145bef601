use mathlib.Core.Path.{ap, ◌∙◌}
use native.Mathlib.Omega.{arith}
use lib.ListN.{get_or}
use Rattle.tables.specs.View.{line_of}
use Rattle.tables.proofs.Low.{action_is_low}
use Rattle.tables.proofs.LineTable.{read_at}
use Rattle.tables.proofs.Table+Line+LINES.action.Goals as goal

pub returns : goal.returns
returns c =
    let t = c.args.self.now in
    let read = get_or t.items c.from.result c.index-self-from.result in
    record {
      line = read_at t c.from.result c.index-self-from.result (omega (arith, c.from.ensures)) ∙ ap (line_of t) c.from.ensures;
      low = action_is_low read.action read.low;
    }
