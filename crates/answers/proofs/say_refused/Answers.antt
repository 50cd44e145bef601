use Rattle.std.proofs.Common.{subst}
use Rattle.std.proofs.lemmas.Result.{on_ok_weaker}
use Rattle.sets.specs.Lists.{◌⧺◌}
use Rattle.klaim.specs.Rows.{text}
use Rattle.klaim.specs.Listing.{row, tail}
use Rattle.answers.specs.Made.{Adds}
use Rattle.answers.specs.Printed.{shown, refused_row}
use Rattle.answers.proofs.Printed.{adds_then, printed}
use Rattle.answers.proofs.say_refused.Goals as goal

pub returns : goal.returns
unfolding refused_row row tail text ◌⧺◌
returns g c =
    let number = subst (λ n. Adds c.text.new.self c.count.new.self (shown n)) c.from.ensures c.count.ensures.adds in
    on_ok_weaker _ (printed (g.W.Write.contents c.args.output.now) (g.W.Write.contents c.say.new.output) c.new-row.ensures.empty (adds_then c.text.ensures (adds_then number (adds_then c.byte.ensures (adds_then c.count-2.ensures.adds c.byte-2.ensures))))) c.say.ensures
