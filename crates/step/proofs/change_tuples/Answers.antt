use mathlib.Core.Path.{sym, ap, subst, ◌∙◌}
use native.Mathlib.Omega.{arith}
use Rattle.tables.specs.View.{tuples_of}
use Rattle.tuples.proofs.Rows.{tuple_pushed, tuple_removed}
use Rattle.plan.specs.declared.Change.{Change}
use Rattle.plan.specs.Move.{IsChange, tuples_after}
use Rattle.step.proofs.Laws.{room_more}
use Rattle.step.proofs.change_tuples.Goals as goal

pub push-requires : goal.push-requires
push-requires c = (omega arith, room_more c.args.tuples.now c.args.m c.in-Appended.tuple c.in-Appended.is c.requires.1)

pub returns-in-Appended-clause-list : goal.returns-in-Appended-clause-list
returns-in-Appended-clause-list c =
    let ts = c.args.tuples.now in
    let low = room_more ts c.args.m c.in-Appended.tuple c.in-Appended.is c.requires.1 in
    let more = tuple_pushed ts c.push.new.self c.in-Appended.tuple low c.push.ensures.items c.push.ensures.count in
    more ∙ sym (ap (tuples_after (tuples_of ts) c.args.m) c.in-Appended.is)

pub returns-in-Taken-clause-list : goal.returns-in-Taken-clause-list
returns-in-Taken-clause-list c =
    let ts = c.args.tuples.now in
    let low = subst (λ (x : Change). IsChange c.args.m ts.count x) c.in-Taken.is c.requires.0 in
    tuple_removed ts c.remove.new.self c.args.m low c.remove.ensures ∙ sym (ap (tuples_after (tuples_of ts) c.args.m) c.in-Taken.is)
