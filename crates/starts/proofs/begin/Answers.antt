use Rattle.starts.proofs.Laws.{begun_view, begun_fits}
use Rattle.starts.proofs.begin.Goals as goal

pub returns-clause-value : goal.returns-clause-value
returns-clause-value c = begun_view c.args.w c.empty.result c.root_threads-threads.result _ c.empty.ensures.count c.root_threads-threads.ensures

pub returns-clause-fits : goal.returns-clause-fits
returns-clause-fits c = begun_fits c.args.w c.empty.result c.root_threads-threads.result _ c.empty.ensures.count
