use Rattle.std.proofs.Common.{subst}
use Rattle.std.proofs.lemmas.Result.{on_ok_weaker}
use Rattle.sets.specs.Lists.{◌⧺◌}
use Rattle.klaim.specs.Rows.{text}
use Rattle.klaim.specs.Listing.{row, tail}
use Rattle.answers.specs.Made.{Adds}
use Rattle.answers.specs.Printed.{shown, performed_row}
use Rattle.answers.proofs.Printed.{adds_then, printed}
use Rattle.answers.proofs.say_performed.Goals as goal

pub returns : goal.returns
unfolding performed_row row tail text ◌⧺◌
returns g c =
    let site = subst (λ n. Adds c.text.new.self c.count.new.self (shown n)) c.from.ensures c.count.ensures.adds in
    let target = subst (λ n. Adds c.text-2.new.self c.count-2.new.self (shown n)) c.from-2.ensures c.count-2.ensures.adds in
    on_ok_weaker _ (printed (g.W.Write.contents c.args.output.now) (g.W.Write.contents c.say.new.output) c.new-row.ensures.empty (adds_then c.text.ensures (adds_then site (adds_then c.text-2.ensures (adds_then target (adds_then c.byte.ensures (adds_then c.rights.ensures.adds c.byte-2.ensures))))))) c.say.ensures
