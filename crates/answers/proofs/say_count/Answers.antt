use Rattle.std.proofs.lemmas.Result.{on_ok_weaker}
use Rattle.sets.specs.Lists.{◌⧺◌}
use Rattle.answers.specs.Printed.{count_row}
use Rattle.answers.proofs.Printed.{adds_then, printed}
use Rattle.answers.proofs.say_count.Goals as goal

pub returns : goal.returns
unfolding count_row ◌⧺◌
returns g c = on_ok_weaker _ (printed (g.W.Write.contents c.args.output.now) (g.W.Write.contents c.say.new.output) c.new-row.ensures.empty (adds_then c.text.ensures (adds_then c.count.ensures.adds c.byte.ensures))) c.say.ensures
