use native.Mathlib.Omega.{arith}
use Rattle.forms.specs.Forms.{row_data}
use Rattle.entries.proofs.Pushed.{line_pushed}
use Rattle.arrivals.proofs.Rows.{only_lines, room, tally_more}
use Rattle.arrivals.proofs.reading.ArrivalReader.keep.Goals as goal

pub line-requires : goal.line-requires
unfolding row_data
line-requires c = rw c.in-Q.is at c.requires.low

pub push-requires : goal.push-requires
push-requires c = (omega arith, room _ _ c.requires.placed c.requires.room)

pub returns-in-Q-clause-counts : goal.returns-in-Q-clause-counts
returns-in-Q-clause-counts c = λ n above Y.
    let h = line_pushed _ _ _ (room _ _ c.requires.placed c.requires.room) c.push.ensures.items c.push.ensures.count c.line.ensures in
    rw c.in-Q.is (tally_more n _ above c.in-Q.process _ Y h)

pub returns-in_default : goal.returns-in_default
returns-in_default c = absurd (only_lines _ c.requires.placed c.in_default.not-Q)
