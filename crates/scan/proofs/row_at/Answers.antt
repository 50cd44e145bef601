use mathlib.Core.Path.{sym, ap, ◌∙◌}
use Prim.Native.Nat.{◌-◌}
use lib.ListN.{take, drop}
use Rattle.klaim.specs.Rows.{row_of}
use Rattle.scan.proofs.Progress.{row_whole, row_left}
use Rattle.scan.proofs.row_at.Goals as goal

pub returns-then-end-s : goal.returns-then-end-s
returns-then-end-s c =
    let e = c.cut-cut.ensures.end in
    record { end_value = e; at_value = row_whole _ _ _ e c.requires c.if-end-s.true (c.row_of-row.ensures ∙ ap row_of (c.cut-cut.ensures.bytes ∙ ap (λ x. take (x - c.args.at) (drop c.args.at c.args.s.now)) (sym e))) }

pub returns : goal.returns
returns c =
    let e = c.cut-cut.ensures.end in
    record { end_value = e; at_value = row_left _ _ _ e c.requires c.if-end-s.false }
