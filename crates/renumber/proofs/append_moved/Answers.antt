use mathlib.Core.Path.{◌≡◌, ap, ◌∙◌}
use native.Mathlib.Omega.{arith}
use Rattle.klaim.specs.Process.{move}
use Rattle.tables.specs.declared.line.Line as Code
use Rattle.tables.specs.View.{no_line, action_line, line_of, lines_of}
use Rattle.tables.proofs.Entries.{pushed}
use Rattle.tables.proofs.LineTable.{read_at}
use Rattle.renumber.proofs.Renumber.{has_room, none_moved, one_moved}
use Rattle.renumber.proofs.append_moved.Goals as goal

pub loop-q-init : goal.loop-q-init
loop-q-init c = (omega arith, none_moved c.args.lines.now.count (line_of c.args.arrival.now) (lines_of c.args.lines.now))

pub moved-requires : goal.moved-requires
moved-requires c =
    let t = c.args.arrival.now in
    let q = c.loop-q.q in
    let h = c.loop-q-test.true in
    has_room c.args.lines.now.count t q c.requires.few c.requires.in_order h (read_at t q c.index-arrival-q.result (omega (arith, h, t.few)))

pub loop-q-preserved : goal.loop-q-preserved
unfolding lines_of line_of
loop-q-preserved c =
    let at = c.loop-q in
    let n = c.args.lines.now.count in
    let t = c.args.arrival.now in
    let h = c.loop-q-test.true in
    let line : action_line c.moved.result.action ≡ move n (line_of t at.q) = c.moved.ensures ∙ ap (move n) (read_at t at.q c.index-arrival-q.result (omega (arith, h, t.few))) in (
      omega (arith, c.push.ensures.count, at.invariant.0),
      pushed (λ (l : Code.Line). action_line l.action) no_line at.lines c.push.new.self c.moved.result (omega (arith, at.invariant.0, h, c.requires.few)) c.push.ensures.items c.push.ensures.count
          ∙ rw (at.invariant.1, line) (one_moved n at.q (line_of t) (lines_of c.args.lines.now)),
    )

pub returns-clause-list : goal.returns-clause-list
unfolding lines_of
returns-clause-list c =
    let e : c.loop-q.q ≡ c.args.arrival.now.count = omega arith in
    rw e at c.loop-q.invariant.1
