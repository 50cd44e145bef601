use mathlib.Core.Path.{refl, ◌∙◌}
use native.Mathlib.Omega.{arith}
use Rattle.std.proofs.Common.{rules, tests}
use Rattle.std.proofs.lemmas.Iterator.{YieldsList-from_range}
use Rattle.std.proofs.lemmas.Iterator.Search.{any_from_yields_List}
use Rattle.threads.specs.View.{thread_view}
use Rattle.state.specs.View.{arrival_root, arrivals_of, state_view}
use Rattle.ready.specs.Runs.{welcome}
use Rattle.ready.proofs.Some.{any_places}
use Rattle.ready.proofs.some_guest.Goals as goal

pub returns : goal.returns
unfolding state_view arrivals_of
returns c =
    let t = c.args.state.now.arrivals in
    let test = welcome (state_view c.args.state.now) (thread_view c.args.th.now) c.args.a c.args.d in
    let road = YieldsList-from_range 0 t.count t.count refl (omega arith) in
    any_from_yields_List (λ i. test (arrival_root t i)) c.any.new.self _ c.any.result c.any.ensures.ran road (λ x b q k. search (rules, tests))
    ∙ any_places test (arrival_root t) t.count
