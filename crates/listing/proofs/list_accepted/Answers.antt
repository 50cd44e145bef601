use Rattle.worlds.specs.World.{world_view}
use Rattle.checker.proofs.Laws.{rooted_world}
use Rattle.writer.proofs.Wrote.{wrote_long, wrote_as}
use Rattle.listing.proofs.Reading.{accepted_world, report_long, counts_by, size_few, world_few}
use Rattle.listing.proofs.list_accepted.Goals as goal

pub report-report-requires : goal.report-report-requires
report-report-requires c = rooted_world _ c.requires.0

pub used_counts-used-requires : goal.used_counts-used-requires
used_counts-used-requires c = rooted_world _ c.requires.0

pub put_listing-requires : goal.put_listing-requires
unfolding world_view
put_listing-requires c = (report_long c.args.w c.report-report.ensures, counts_by c.args.w c.home_counts-held.ensures c.used_counts-used.ensures, size_few c.args.w c.requires.0, c.requires.1)

pub shape_of-out : goal.shape_of-out
shape_of-out c = wrote_long c.put_listing.ensures.wrote

pub returns : goal.returns
unfolding world_view
returns c = record { wrote = wrote_as (accepted_world c.args.w _ _ _ (world_few c.args.w c.requires.0) c.report-report.ensures c.home_counts-held.ensures c.used_counts-used.ensures) c.put_listing.ensures.wrote; upper_bound = c.put_listing.ensures.upper_bound }
