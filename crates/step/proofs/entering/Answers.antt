use mathlib.Core.Path.{sym, ap}
use native.Mathlib.Omega.{arith}
use lib.ListN.{length}
use Rattle.tables.specs.View.{lines_of}
use Rattle.threads.specs.View.{thread_view}
use Rattle.threads.proofs.Laws.{settle_nil, settle_one}
use Rattle.step.proofs.entering.Goals as goal

pub returns-then-is_nil : goal.returns-then-is_nil
returns-then-is_nil c = (omega arith, sym (ap length (settle_nil (lines_of c.args.lines.now) (thread_view c.args.th) c.is_nil.ensures c.if-is_nil.true)))

pub returns-else-is_nil : goal.returns-else-is_nil
returns-else-is_nil c = (omega arith, sym (ap length (settle_one (lines_of c.args.lines.now) (thread_view c.args.th) c.is_nil.ensures c.if-is_nil.false)))
