use mathlib.Core.Path.{sym, ap, ◌∙◌}
use mathlib.Core.List.{List, ◌++◌, append-nil}
use Prim.Native.Nat.{◌<◌}
use native.Mathlib.Omega.{arith}
use lib.ListN.{length}
use Rattle.klaim.specs.State as Spec
use Rattle.tables.specs.View.{lines_of}
use Rattle.threads.specs.View.{thread_view, threads_of}
use Rattle.threads.proofs.Laws.{settle_nil, settle_one, thread_pushed}
use Rattle.threads.proofs.enter.Goals as goal

pub push-requires : goal.push-requires
push-requires c =
    let e = settle_one (lines_of c.args.lines.now) (thread_view c.args.th) c.is_nil.ensures c.if-not-is_nil.true in
    omega (arith, c.requires, ap length e)

pub returns-then-not-is_nil : goal.returns-then-not-is_nil
returns-then-not-is_nil c =
    let ts = c.args.threads.now in
    let e = settle_one (lines_of c.args.lines.now) (thread_view c.args.th) c.is_nil.ensures c.if-not-is_nil.true in
    let h : ts.count < 64 = omega (arith, c.requires, ap length e) in
    let pushed = thread_pushed ts c.push.new.self c.args.th h c.push.ensures.items c.push.ensures.count in
    record {
      list = pushed ∙ ap (λ (xs : List Spec.Thread). threads_of ts ++ xs) (sym e);
      count = omega (arith, c.push.ensures.count, ap length e);
    }

pub returns-else-not-is_nil : goal.returns-else-not-is_nil
returns-else-not-is_nil c =
    let ts = c.args.threads.now in
    let e = settle_nil (lines_of c.args.lines.now) (thread_view c.args.th) c.is_nil.ensures c.if-not-is_nil.false in
    record {
      list = sym (ap (λ (xs : List Spec.Thread). threads_of ts ++ xs) e ∙ append-nil (threads_of ts));
      count = omega (arith, ap length e);
    }
