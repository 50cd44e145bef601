use mathlib.Core.Path.{◌≡◌}
use Rattle.klaim.specs.Engine.{bind_all}
use Rattle.klaim.specs.Fields.{items}
use Rattle.threads.specs.View.{thread_view, rebound}
use Rattle.tuples.proofs.bind_all.Given as goal

abbrev pub invariant-loop-slot : goal.invariant-loop-slot
invariant-loop-slot l =
    let first = thread_view l.fn.th in
    let now = thread_view l.r in
    rebound first (bind_all (items l.fn.fields) (items l.fn.tuple.fields) first.bindings)
    ≡ rebound now (bind_all l.slot-iterator.a.rest.now l.slot-iterator.b.rest.now now.bindings)
