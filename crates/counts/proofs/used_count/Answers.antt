use mathlib.Core.Path.{◌≡◌, refl, ap, ◌∙◌}
use Prim.Native.Nat.{ℕ}
use native.Mathlib.Omega.{arith}
use lib.Bits.{bit_and}
use lib.ListN.{get_or}
use Rattle.sets.specs.Lists.{sum, below, table, table_from}
use Rattle.sets.specs.Bits.{size, meet}
use Rattle.klaim.specs.Net.{home}
use Rattle.tables.specs.View.{net_view}
use Rattle.counts.proofs.Size.{counted_most, counted}
use Rattle.counts.proofs.used_count.Goals as goal

pub loop-t-init : goal.loop-t-init
unfolding sum below table table_from
loop-t-init c = (omega arith, refl)

pub overflow_add-count : goal.overflow_add-count
overflow_add-count c = let m = counted_most _ c.size_of-count.ensures in omega arith

pub loop-t-preserved : goal.loop-t-preserved
unfolding meet
loop-t-preserved c =
    let m = counted_most _ c.size_of-count.ensures in
    let usable = c.args.usable in
    (omega arith, counted _ c.loop-t.invariant.1 (c.size_of-count.ensures ∙ ap (λ (x : ℕ). size (bit_and x (get_or usable c.loop-t.t 0))) c.home.ensures))

pub returns : goal.returns
returns c =
    let s = c.args.s in
    let t : c.loop-t.t ≡ 32 = omega arith in
    let usable = c.args.usable in
    c.loop-t.invariant.1 ∙ ap (λ (n : ℕ). sum (λ u. size (meet (home (net_view c.args.net.now) s u) (get_or usable u 0))) (below n)) t
