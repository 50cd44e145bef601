use mathlib.Core.Path.{sym, ap, ◌∙◌}
use Rattle.sets.specs.Options.{option_of}
use Rattle.tables.specs.View.{lines_of, net_view, estimate_view}
use Rattle.door.proofs.Laws.{sound_broken, sound_adds}
use Rattle.door.proofs.sound.Goals as goal

pub returns-in-Some : goal.returns-in-Some
returns-in-Some c =
    let N = net_view c.args.net.now in
    let E = estimate_view c.args.estimate.now in
    λ z. sound_broken N E c.args.l (lines_of c.args.lines.now) c.args.q c.single-places.ensures (sym (c.first_broken.ensures z) ∙ ap (option_of (λ q. q)) c.in-Some.is)

pub returns-in-None : goal.returns-in-None
returns-in-None c =
    let N = net_view c.args.net.now in
    let E = estimate_view c.args.estimate.now in
    λ z. sound_adds N E c.args.l (lines_of c.args.lines.now) c.args.q c.single-places.ensures (sym (c.first_broken.ensures z) ∙ ap (option_of (λ q. q)) c.in-None.is) c.adds_nothing.ensures
