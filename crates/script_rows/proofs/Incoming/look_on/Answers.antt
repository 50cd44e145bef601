use mathlib.Core.Path.{refl}
use native.Mathlib.Omega.{arith}
use lib.ListN.{take}
use lib.Seq.{length-take-le}
use Rattle.klaim.specs.Rows.{newline}
use Rattle.text.proofs.Pieces.{end_le}
use Rattle.script_rows.proofs.Rows.{row_here, looked_all}
use Rattle.script_rows.proofs.Incoming.look_on.Goals as goal

pub returns-then-end-w : goal.returns-then-end-w
returns-then-end-w g c =
    let end = c.row_end-end in
    row_here end.result c.requires end.ensures c.if-end-w.true (omega (arith, end.ensures)) c.ended-self.ensures

pub look_further-requires : goal.look_further-requires
look_further-requires g c =
    let last = c.args.self.now.window in
    let buf = c.args.self.now.buf.now in
    let end = c.row_end-end in
    let in_order = c.requires.within in
    let long = length-take-le last.to buf in_order.3 in
    let low = end_le newline (take last.to buf) last.next (omega (arith, long)) in (
      record {
        within = (in_order.0, omega arith, omega arith, in_order.3);
        unended = looked_all end.result c.requires end.ensures (omega (arith, end.ensures, low, long)) c.if-end-w.false;
      },
      refl,
    )
