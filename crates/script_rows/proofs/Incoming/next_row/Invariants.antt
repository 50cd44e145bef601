use Rattle.std.proofs.Common.{◌≡◌, ◌+◌, ◌-◌, ◌≤◌, length}
use Rattle.script_rows.specs.Window.{Kept, Seeks}
use Rattle.script_rows.proofs.Incoming.next_row.Given as goal

abbrev pub invariant-loop-self : goal.invariant-loop-self
invariant-loop-self g l =
    let first = l.initial.self.window in
    let w = l.self.window in
    Seeks w l.self.buf.now
    × (length l.self.buf.now ≡ length l.initial.self.buf.now)
    × (w.row + first.from ≡ first.row + w.from)
    × (first.to + w.from ≤ w.to + first.from)
    × Kept first.from first.to l.initial.self.buf.now w.from l.self.buf.now
    × (w.more ≡ first.more)

abbrev pub decreases-loop-self : goal.decreases-loop-self
decreases-loop-self g l = length l.initial.self.buf.now + l.self.window.from - l.self.window.to
