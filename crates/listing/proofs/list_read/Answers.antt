use mathlib.Core.Path.{◌∙◌}
use Rattle.worlds.specs.World.{world_view}
use Rattle.checker.proofs.Laws.{judgeable}
use Rattle.verdict.specs.Verdict.{verdict_view}
use Rattle.writer.proofs.Wrote.{wrote_as}
use Rattle.listing.proofs.Reading.{list_verdict_lem}
use Rattle.rows.proofs.Rows.{broken_tuple_list, broken_line_list}
use Rattle.listing.proofs.list_read.Goals as goal

pub judge-requires : goal.judge-requires
judge-requires c = judgeable _ c.requires.0

pub returns-in-Accepted-clause-wrote : goal.returns-in-Accepted-clause-wrote
unfolding verdict_view world_view
returns-in-Accepted-clause-wrote c = wrote_as (list_verdict_lem c.args.w _ c.in-Accepted.ensures) c.list_accepted.ensures.wrote

pub returns-in-BrokenTuple-clause-wrote : goal.returns-in-BrokenTuple-clause-wrote
unfolding verdict_view world_view
returns-in-BrokenTuple-clause-wrote c = wrote_as (broken_tuple_list _ _ ∙ list_verdict_lem c.args.w _ c.in-BrokenTuple.ensures) c.put_break.ensures.wrote

pub returns-in-BrokenLine-clause-wrote : goal.returns-in-BrokenLine-clause-wrote
unfolding verdict_view world_view
returns-in-BrokenLine-clause-wrote c = wrote_as (broken_line_list _ _ ∙ list_verdict_lem c.args.w _ c.in-BrokenLine.ensures) c.put_break-in-BrokenLine.ensures.wrote
