use mathlib.Core.Path.{sym, ◌∙◌}
use Prim.Native.Nat.{◌<◌}
use native.Mathlib.Omega.{arith}
use Rattle.state.proofs.Own.{withdraw_net}
use Rattle.withdraws.proofs.Laws.{refused_withdrawn, none_refused, occupied_refused, root_low, kept_withdrawn}
use Rattle.withdraws.proofs.withdraw.Goals as goal

pub returns-then-state-eq0-clause-withdrawn : goal.returns-then-state-eq0-clause-withdrawn
returns-then-state-eq0-clause-withdrawn c = refused_withdrawn c.requires (none_refused c.requires c.if-state-eq0.true) c.from.ensures

pub returns-then-occupied-clause-withdrawn : goal.returns-then-occupied-clause-withdrawn
returns-then-occupied-clause-withdrawn c =
    let some : 0 < c.args.state.now.arrivals.count = omega arith in
    refused_withdrawn c.requires (occupied_refused c.requires some (sym c.occupied.ensures ∙ c.if-occupied.true)) c.from-then-occupied.ensures

pub truncate-requires : goal.truncate-requires
truncate-requires c =
    let some : 0 < c.args.state.now.arrivals.count = omega arith in
    (omega arith, rw c.from-2.ensures (root_low c.requires some))

pub returns-clause-withdrawn : goal.returns-clause-withdrawn
returns-clause-withdrawn c =
    let some : 0 < c.args.state.now.arrivals.count = omega arith in
    kept_withdrawn c.requires some c.truncate.new.self c.truncate-2.new.self c.truncate.ensures.items (c.truncate.ensures.count ∙ c.from-2.ensures) c.truncate-2.ensures.items c.truncate-2.ensures.count (sym c.occupied.ensures ∙ c.if-occupied.false)

pub returns-then-state-eq0-clause-net : goal.returns-then-state-eq0-clause-net
returns-then-state-eq0-clause-net c = λ f. let w = returns-then-state-eq0-clause-withdrawn c in withdraw_net f w.fits w.result

pub returns-then-occupied-clause-net : goal.returns-then-occupied-clause-net
returns-then-occupied-clause-net c = λ f. let w = returns-then-occupied-clause-withdrawn c in withdraw_net f w.fits w.result

pub returns-clause-net : goal.returns-clause-net
returns-clause-net c = λ f. let w = returns-clause-withdrawn c in withdraw_net f w.fits w.result
