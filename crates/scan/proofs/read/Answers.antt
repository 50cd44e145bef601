use native.Mathlib.Omega.{arith}
use Rattle.scan.proofs.Progress.{progress_none, progress_more, progress_bad, progress_end, row_within}
use Rattle.scan.proofs.read.Goals as goal

pub loop-at-init : goal.loop-at-init
loop-at-init g c = (omega arith, λ t h. progress_none t c.args.s.now h)

pub returns-in-Err : goal.returns-in-Err
returns-in-Err g c = λ t h.
    let R = c.loop-at.invariant.1 t h in
    let taken = rw c.as_ref.ensures.value at c.take.ensures t R.above R.held in
    progress_bad R _ _ c.row_at-next.ensures.at_value _ (rw c.in-Err.is at taken)

pub overflow_add-at : goal.overflow_add-at
overflow_add-at g c =
    let e = row_within _ _ _ c.row_at-next.ensures.end_value c.loop-at-test.true in
    omega (arith, e, c.well_formed)

pub loop-at-preserved : goal.loop-at-preserved
loop-at-preserved g c = (
  omega (arith, c.row_at-next.ensures.end_value, c.loop-at.invariant.0),
  λ t h.
      let R = c.loop-at.invariant.1 t h in
      let taken = rw (c.as_ref.ensures.value, c.in_default.is) at c.take.ensures t R.above R.held in
      progress_more R _ _ c.row_at-next.ensures.at_value taken.0 (taken.2, taken.3),
)

pub returns : goal.returns
returns g c = λ t h. let R = c.loop-at.invariant.1 t h in (R.above, progress_end R c.loop-at-test.false, R.held)
