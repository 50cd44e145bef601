use mathlib.Core.Path.{ap, subst, ◌∙◌}
use Prim.Native.Nat.{ℕ, ◌<◌, ◌≤◌}
use native.Mathlib.Omega.{arith}
use Rattle.std.specs.Prelude.{Option}
use Rattle.klaim.specs.Process.{tree}
use Rattle.klaim.specs.Reader.{refused}
use Rattle.klaim.specs.Refusals.{number_of}
use Rattle.klaim.specs.declared.Refusal.{Refusal}
use Rattle.klaim.specs.Report.{door}
use Rattle.state.specs.View.{state_view}
use Rattle.plan.specs.Move.{Placed}
use Rattle.plan.proofs.Laws.{placed_none}
use Rattle.plan.proofs.Fitted.{admits, sound_here}
use Rattle.state.proofs.Few.{sites_few}
use Rattle.ready.proofs.Laws.{door_unknown, door_far, door_other, door_gives}
use Rattle.ready.proofs.door.Goals as goal

pub returns-in_default : goal.returns-in_default
unfolding state_view
returns-in_default c =
    let rs = c.args.state.now.arrivals in
    ap (λ (e : Refusal). refused (number_of e.why) e.row) c.from.ensures
    ∙ door_unknown (state_view c.args.state.now) c.args.r c.args.l c.args.d (placed_none rs c.args.r c.arrival_at.ensures c.in_default.not-Some)

pub returns-then-from-l : goal.returns-then-from-l
unfolding state_view
returns-then-from-l c =
    let rs = c.args.state.now.arrivals in
    let far : c.args.state.now.net.size ≤ c.args.l = omega (arith, c.if-from-l.true, c.from-2.ensures) in
    let p = subst (λ (o : Option ℕ). Placed rs c.args.r o) c.in-Some.is c.arrival_at.ensures in
    ap (λ (e : Refusal). refused (number_of e.why) e.row) c.from-then-from-l.ensures
    ∙ door_far (state_view c.args.state.now) c.args.r c.args.l c.args.d p.2 far

pub returns-then-d-ge-SANDBOXES : goal.returns-then-d-ge-SANDBOXES
unfolding state_view
returns-then-d-ge-SANDBOXES c =
    let rs = c.args.state.now.arrivals in
    let near : c.args.l < c.args.state.now.net.size = omega (arith, c.if-from-l.false, c.from-2.ensures) in
    let p = subst (λ (o : Option ℕ). Placed rs c.args.r o) c.in-Some.is c.arrival_at.ensures in
    ap (λ (e : Refusal). refused (number_of e.why) e.row) c.from-then-d-ge-SANDBOXES.ensures
    ∙ door_other (state_view c.args.state.now) c.args.r c.args.l c.args.d p.2 near c.if-d-ge-SANDBOXES.true

pub returns : goal.returns
unfolding state_view
returns c =
    let rs = c.args.state.now.arrivals in
    let near : c.args.l < c.args.state.now.net.size = omega (arith, c.if-from-l.false, c.from-2.ensures) in
    let st = state_view c.args.state.now in
    let p = subst (λ (o : Option ℕ). Placed rs c.args.r o) c.in-Some.is c.arrival_at.ensures in
    door_gives st c.args.r c.args.l c.args.d p.2 near c.if-d-ge-SANDBOXES.false (c.admitted.ensures (sound_here c.requires c.args.l near) ∙ ap (λ (x : ℕ). door st.net st.estimate c.args.d c.args.l (tree st.lines x)) p.1)

pub admitted-requires : goal.admitted-requires
admitted-requires c =
    let near : c.args.l < c.args.state.now.net.size = omega (arith, c.if-from-l.false, c.from-2.ensures) in
    let p = subst (λ (o : Option ℕ). Placed c.args.state.now.arrivals c.args.r o) c.in-Some.is c.arrival_at.ensures in
    (admits c.requires, p.0, omega (arith, near, sites_few c.requires), c.if-d-ge-SANDBOXES.false)
