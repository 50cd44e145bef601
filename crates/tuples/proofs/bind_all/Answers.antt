use mathlib.Core.Path.{sym, ap, ◌∙◌}
use Rattle.std.proofs.lemmas.Slice.Zip.{either_empty_from_Zip}
use Rattle.klaim.specs.Engine.{bind_all}
use Rattle.threads.specs.View.{thread_view, rebound}
use Rattle.tuples.proofs.Laws.{bind_turn, bind_end}
use Rattle.tuples.proofs.bind_all.Goals as goal

pub loop-slot-preserved : goal.loop-slot-preserved
loop-slot-preserved c =
    let steps = c.in-Some.ensures.steps in
    c.loop-slot.invariant ∙ bind_turn (thread_view c.loop-slot.r) steps.0 steps.1 c.bind_slot-r.ensures

pub returns : goal.returns
unfolding bind_all
returns c =
    let now = thread_view c.loop-slot.r in
    let s = c.loop-slot.slot-iterator in
    let last = bind_end s.a.rest.now s.b.rest.now now.bindings (either_empty_from_Zip s c.next.new.self c.next.result c.in-None.is c.next.ensures.steps) in
    λ g. sym (c.loop-slot.invariant ∙ ap (rebound now) last)
