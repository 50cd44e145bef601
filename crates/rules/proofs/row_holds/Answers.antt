use mathlib.Core.Path.{◌≡◌, refl, ap, ◌∙◌}
use Prim.Native.Nat.{ℕ}
use native.Mathlib.Omega.{arith}
use lib.ListN.{get_or}
use Rattle.std.specs.Prelude.{◌&&◌}
use Rattle.sets.specs.Lists.{all, below, table, table_from}
use Rattle.sets.specs.Bits.{within}
use Rattle.klaim.specs.Net.{holds}
use Rattle.tables.specs.View.{estimate_view}
use Rattle.rules.proofs.Laws.{all_further}
use Rattle.rules.proofs.row_holds.Goals as goal

pub loop-t-init : goal.loop-t-init
unfolding all below table table_from
loop-t-init c = refl

pub loop-t-preserved : goal.loop-t-preserved
loop-t-preserved c = rw (c.within-ok.ensures, c.from.ensures, c.holds.ensures, c.loop-t.invariant) (all_further (λ t. within (get_or c.args.need.rights t 0) (holds (estimate_view c.args.estimate.now) c.args.l t)) c.loop-t.t)

pub returns : goal.returns
returns c =
    let t : c.loop-t.t ≡ 32 = omega arith in
    c.loop-t.invariant ∙ ap (λ (n : ℕ). all (λ t. within (get_or c.args.need.rights t 0) (holds (estimate_view c.args.estimate.now) c.args.l t)) (below n)) t
