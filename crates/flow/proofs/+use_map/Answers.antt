use mathlib.Core.Path.{◌∙◌}
use native.Mathlib.Omega.{arith}
use Rattle.flow.proofs.Laws.{join_table, join_tables, below_at, uses_by, uses_at}
use Rattle.flow.proofs.+use_map.Goals as goal

pub use_map-a-requires : goal.use_map-a-requires
use_map-a-requires t c =
    let k = below_at c.requires c.action.ensures c.part_of.ensures c.in-Both.is in
    (omega (arith, k.0.greater, c.decreases), k.0.form)

pub use_map-b-requires : goal.use_map-b-requires
use_map-b-requires t c =
    let k = below_at c.requires c.action.ensures c.part_of.ensures c.in-Both.is in
    (omega (arith, k.1.greater, c.decreases), k.1.form)

pub use_map-requires : goal.use_map-requires
use_map-requires t c =
    let k = below_at c.requires c.action.ensures c.part_of.ensures c.in-Same.is in
    (omega (arith, k.0.greater, c.decreases), k.0.form)

pub use_map-a-requires-in-Acts : goal.use_map-a-requires-in-Acts
use_map-a-requires-in-Acts t c =
    let k = below_at c.requires c.action.ensures c.part_of.ensures c.in-Acts.is in
    (omega (arith, k.0.greater, c.decreases), k.0.form)

pub acting-requires : goal.acting-requires
acting-requires t c =
    (below_at c.requires c.action.ensures c.part_of.ensures c.in-Acts.is).1

pub use_map-a-requires-in-Accepts : goal.use_map-a-requires-in-Accepts
use_map-a-requires-in-Accepts t c =
    let k = below_at c.requires c.action.ensures c.part_of.ensures c.in-Accepts.is in
    (omega (arith, k.0.greater, c.decreases), k.0.form)

pub taking-requires : goal.taking-requires
taking-requires t c =
    (below_at c.requires c.action.ensures c.part_of.ensures c.in-Accepts.is).1

pub returns-in-Nothing : goal.returns-in-Nothing
unfolding uses_by
returns-in-Nothing t c =
    c.empty.ensures ∙ uses_at c.requires c.action.ensures c.part_of.ensures c.in-Nothing.is _ _ _

pub returns-in-Both : goal.returns-in-Both
unfolding uses_by
returns-in-Both t c =
    c.join.ensures ∙ join_tables _ _ c.use_map-a.ensures c.use_map-b.ensures ∙ uses_at c.requires c.action.ensures c.part_of.ensures c.in-Both.is _ _ _

pub returns-in-Same : goal.returns-in-Same
unfolding uses_by
returns-in-Same t c =
    c.use_map.ensures ∙ uses_at c.requires c.action.ensures c.part_of.ensures c.in-Same.is _ _ _

pub returns-in-Acts : goal.returns-in-Acts
unfolding uses_by
returns-in-Acts t c =
    c.acting.ensures ∙ join_table _ _ c.use_map-a-in-Acts.ensures ∙ uses_at c.requires c.action.ensures c.part_of.ensures c.in-Acts.is _ _ _

pub returns-in-Accepts : goal.returns-in-Accepts
unfolding uses_by
returns-in-Accepts t c =
    c.taking.ensures ∙ join_table _ _ c.use_map-a-in-Accepts.ensures ∙ uses_at c.requires c.action.ensures c.part_of.ensures c.in-Accepts.is _ _ _
