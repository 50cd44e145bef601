use native.Mathlib.Omega.{arith}
use Rattle.state.proofs.Few.{sites_few}
use Rattle.brings.proofs.Laws.{sized, few, place, root_form, joined_brought}
use Rattle.brings.proofs.join.Goals as goal

pub append_moved-requires-clause-few : goal.append_moved-requires-clause-few
append_moved-requires-clause-few c = few c.requires.0 c.args.arrival.now c.requires.1

pub sound_sites-sound-requires : goal.sound_sites-sound-requires
sound_sites-sound-requires c =
    let f = c.requires.0 in
    let m = c.append_moved.ensures in
    (root_form f c.args.arrival.now c.requires.1 c.append_moved.new.lines m.list m.count, sized f, sites_few f)

pub push-requires : goal.push-requires
push-requires c = (omega arith, place c.requires.0 c.args.arrival.now c.requires.1)

pub returns : goal.returns
returns c =
    let m = c.append_moved.ensures in
    let s = c.sound_sites-sound in
    joined_brought c.requires.0 c.args.arrival.now c.requires.1 c.append_moved.new.lines m.list m.count s.result c.push.new.self c.push.ensures.items c.push.ensures.count s.ensures
