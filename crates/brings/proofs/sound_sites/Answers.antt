use mathlib.Core.Path.{◌≡◌, refl}
use Prim.Native.Nat.{suc, ◌+◌}
use native.Mathlib.Omega.{arith}
use Rattle.brings.proofs.Laws.{sites_none, sites_more, sites_all}
use Rattle.brings.proofs.sound_sites.Goals as goal

pub loop-l-init : goal.loop-l-init
loop-l-init c = sites_none _

pub sound-here-requires : goal.sound-here-requires
sound-here-requires c = (c.requires.0, omega (arith, c.requires.2))

pub with_site-sites-requires : goal.with_site-sites-requires
with_site-sites-requires c = omega (arith, c.requires.2)

pub loop-l-preserved : goal.loop-l-preserved
loop-l-preserved c =
    let at = c.loop-l in
    let e : suc at.l ≡ at.l + 1 = omega arith in
    sites_more _ at.l at.sites _ at.invariant (c.sound-here.ensures (record { rows = c.args.estimate.now.stand; stand = refl; sized = c.requires.1; made = c.of-index.ensures })) c.with_site-sites.ensures (at.l + 1) e

pub returns : goal.returns
returns c =
    let at = c.loop-l in
    λ l h. sites_all _ at.l at.sites at.invariant l (omega (arith, at.auto.l-end))
