use mathlib.Core.Path.{sym, ap, ◌∙◌}
use mathlib.Core.List.{List}
use native.Mathlib.Omega.{arith}
use lib.ListN.{length}
use Rattle.sets.specs.Lists.{splice}
use Rattle.klaim.specs.State as Spec
use Rattle.tables.specs.View.{lines_of}
use Rattle.threads.specs.View.{thread_view, threads_of}
use Rattle.threads.proofs.Laws.{settle_nil, settle_one, thread_replaced, thread_removed}
use Rattle.threads.proofs.settle.Goals as goal

pub returns-then-is_nil : goal.returns-then-is_nil
returns-then-is_nil c =
    let ts = c.args.threads.now in
    let e = settle_nil (lines_of c.args.lines.now) (thread_view c.args.th) c.is_nil.ensures c.if-is_nil.true in
    let removed = thread_removed ts c.remove.new.self c.args.k c.requires c.remove.ensures in
    record {
      list = removed ∙ ap (λ (xs : List Spec.Thread). splice c.args.k xs (threads_of ts)) (sym e);
      count = omega (arith, c.remove.ensures.count, ap length e);
    }

pub returns-else-is_nil : goal.returns-else-is_nil
returns-else-is_nil c =
    let ts = c.args.threads.now in
    let e = settle_one (lines_of c.args.lines.now) (thread_view c.args.th) c.is_nil.ensures c.if-is_nil.false in
    let replaced = thread_replaced ts c.replace.new.self c.args.k c.args.th c.requires c.replace.ensures.items c.replace.ensures.count in
    record {
      list = replaced ∙ ap (λ (xs : List Spec.Thread). splice c.args.k xs (threads_of ts)) (sym e);
      count = omega (arith, c.replace.ensures.count, c.requires, ap length e);
    }
