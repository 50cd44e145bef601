use mathlib.Core.Path.{◌∙◌}
use Rattle.std.proofs.Common.{rules, tests}
use Rattle.std.proofs.lemmas.Iterator.{YieldsList-from_slice}
use Rattle.std.proofs.lemmas.Iterator.Search.{any_from_yields_List}
use Rattle.klaim.specs.Engine.{agrees}
use Rattle.klaim.specs.Fields.{items}
use Rattle.tables.specs.Entries.{entries}
use Rattle.tables.specs.View.{no_tuple, tuple_view, row_at, tuples_of}
use Rattle.threads.specs.View.{thread_view}
use Rattle.state.specs.View.{state_view}
use Rattle.ready.proofs.Some.{any_entries}
use Rattle.ready.proofs.some_agrees.Goals as goal

pub returns : goal.returns
unfolding state_view tuples_of row_at
returns c =
    let ts = c.args.state.now.tuples in
    let test = agrees (thread_view c.args.th.now) c.args.target (items c.args.fields.now) in
    let road = YieldsList-from_slice (entries ts) (c.iter.ensures.rest ∙ c.as_slice.ensures) in
    any_from_yields_List (λ t. test (tuple_view t)) c.any.new.self _ c.any.result c.any.ensures.ran road (λ x b q k. search (rules, tests))
    ∙ any_entries test tuple_view no_tuple ts
