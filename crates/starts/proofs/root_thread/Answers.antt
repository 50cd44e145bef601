use mathlib.Core.Path.{refl}
use Rattle.tables.specs.View.{net_view, root_view}
use Rattle.starts.proofs.Laws.{root_thread_view}
use Rattle.starts.proofs.root_thread.Goals as goal

pub returns : goal.returns
returns c = root_thread_view (net_view c.args.net.now) (root_view c.args.root) refl c.home_policy.ensures refl
