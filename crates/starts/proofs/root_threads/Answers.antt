use mathlib.Core.Path.{◌≡◌, ◌∙◌}
use native.Mathlib.Omega.{arith}
use Rattle.tables.specs.View.{net_view, lines_of, root_at, roots_of}
use Rattle.threads.specs.View.{thread_view}
use Rattle.starts.proofs.Laws.{roots_none, roots_more, settle_few}
use Rattle.starts.proofs.root_threads.Goals as goal

pub loop-i-init : goal.loop-i-init
loop-i-init c = (c.no_threads-threads.ensures.list ∙ roots_none (net_view c.args.net.now) c.args.net.now.roots, omega (arith, c.no_threads-threads.ensures.count))

pub root_thread-thread-requires : goal.root_thread-thread-requires
unfolding root_at
root_thread-thread-requires c = c.requires.placed c.loop-i.i (omega arith)

pub enter-requires : goal.enter-requires
enter-requires c =
    let few = settle_few (lines_of c.args.net.now.lines) (thread_view c.root_thread-thread.result) in
    omega (arith, c.loop-i.invariant.1, c.args.net.now.roots.few, few)

pub loop-i-preserved : goal.loop-i-preserved
unfolding root_at
loop-i-preserved c =
    let few = settle_few (lines_of c.args.net.now.lines) (thread_view c.root_thread-thread.result) in (
      roots_more (net_view c.args.net.now) c.args.net.now.roots c.loop-i.i c.root_thread-thread.ensures c.loop-i.invariant.0 c.enter.ensures.list,
      omega (arith, c.loop-i.invariant.1, c.enter.ensures.count, few),
    )

pub returns : goal.returns
unfolding roots_of
returns c =
    let e : c.loop-i.i ≡ c.args.net.now.roots.count = omega arith in
    rw e at c.loop-i.invariant.0
