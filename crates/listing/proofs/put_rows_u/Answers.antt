use mathlib.Core.Path.{◌≡◌, sym, ap}
use native.Mathlib.Omega.{arith}
use lib.ListN.{get_or}
use Rattle.writer.proofs.Wrote.{wrote_none, wrote_then, wrote_long, wrote_as}
use Rattle.listing.specs.Lines.{lines_u}
use Rattle.listing.proofs.Lines.{lines_none, lines_more, line_short}
use Rattle.listing.proofs.put_rows_u.Goals as goal

pub loop-s-init : goal.loop-s-init
loop-s-init c = (omega arith, wrote_as (sym (lines_none _ _)) (wrote_none _ _ (omega arith)))

pub put_line-next-requires : goal.put_line-next-requires
put_line-next-requires c =
    let k = c.requires.0 in
    let h = wrote_long c.loop-s.invariant.1 in
    rw c.from-i.ensures (omega arith, k.used_most c.loop-s.s, k.held_most c.loop-s.s, omega arith)

pub loop-s-preserved : goal.loop-s-preserved
loop-s-preserved c =
    let e = rw c.from-i.ensures at c.put_line-next.ensures in
    let a = c.args in
    let k = c.requires.0 in
    let s = c.loop-s.s in
    let h = line_short s (get_or a.held.now s 0) (get_or a.used.now s 0) (omega arith) (k.used_most s) (k.held_most s) in
    (omega (arith, e.ends), wrote_as (sym (lines_more a.held.now a.used.now s)) (wrote_then c.loop-s.invariant.1 e))

pub shape_of-out : goal.shape_of-out
shape_of-out c = wrote_long c.loop-s.invariant.1

pub returns : goal.returns
returns c =
    let a = c.args in
    let e : c.loop-s.s ≡ a.n = omega arith in
    (omega arith, wrote_as (ap (lines_u a.held.now a.used.now) e) c.loop-s.invariant.1)
