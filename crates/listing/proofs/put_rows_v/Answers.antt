use mathlib.Core.Path.{◌≡◌, sym, ap, ◌∙◌}
use native.Mathlib.Omega.{arith}
use lib.ListN.{get_or}
use Rattle.writer.proofs.Wrote.{wrote_none, wrote_then, wrote_long, wrote_as}
use Rattle.listing.proofs.Lines.{rows_to, rows_none, rows_more, rows_all, entry_short}
use Rattle.listing.proofs.put_rows_v.Goals as goal

pub loop-i-init : goal.loop-i-init
loop-i-init c = (omega arith, wrote_as (sym (rows_none _)) (wrote_none _ _ (omega arith)))

pub put_entry-next-requires : goal.put_entry-next-requires
put_entry-next-requires c =
    let h = wrote_long c.loop-i.invariant.1 in
    (c.letter_table-table.ensures, omega arith, omega arith)

pub loop-i-preserved : goal.loop-i-preserved
loop-i-preserved c =
    let e = c.put_entry-next.ensures in
    let r = c.args.report.now in
    let h = entry_short c.loop-i.i (get_or r c.loop-i.i 0) (omega arith) in
    (omega (arith, e.ends), wrote_as (sym (rows_more r c.loop-i.i)) (wrote_then c.loop-i.invariant.1 e))

pub shape_of-out : goal.shape_of-out
shape_of-out c = wrote_long c.loop-i.invariant.1

pub returns : goal.returns
returns c =
    let r = c.args.report.now in
    let e : c.loop-i.i ≡ 1024 = omega arith in
    (omega arith, wrote_as (ap (rows_to r) e ∙ rows_all r) c.loop-i.invariant.1)
