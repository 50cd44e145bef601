use mathlib.Core.Path.{sym, ap, ◌∙◌}
use mathlib.Core.Bool.{Bool}
use lib.Dec.{leb}
use Rattle.std.proofs.Common.{rules, tests}
use Rattle.std.proofs.lemmas.Iterator.{YieldsList-from_slice}
use Rattle.std.proofs.lemmas.Iterator.Search.{any_from_yields_List}
use Rattle.sets.specs.Lists.{any}
use Rattle.klaim.specs.State as Spec
use Rattle.tables.specs.Entries.{entries}
use Rattle.tables.proofs.Entries.{viewed_map}
use Rattle.threads.specs.View.{no_thread, thread_view, thread_at, threads_of}
use Rattle.threads.specs.declared.Thread.{Thread}
use Rattle.withdraws.proofs.Laws.{any_seen}
use Rattle.withdraws.proofs.occupied.Goals as goal

pub returns : goal.returns
unfolding threads_of thread_at
returns c =
    let ts = entries c.args.threads.now in
    let p : Thread → Bool = λ th. leb c.args.r th.line in
    any_from_yields_List p _ _ _ c.any.ensures.ran (YieldsList-from_slice ts (c.iter.ensures.rest ∙ c.as_slice.ensures)) (λ x b q k. search (rules, tests))
    ∙ any_seen (λ (th : Spec.Thread). leb c.args.r th.line) ts
    ∙ ap (any (λ (th : Spec.Thread). leb c.args.r th.line)) (sym (viewed_map thread_view no_thread c.args.threads.now))
