use mathlib.Core.Path.{◌∙◌}
use Prim.Native.Nat.{ℕ}
use Rattle.sets.specs.Bits.{mem, sites, join, grant, joins, accept_bit}
use Rattle.klaim.specs.Net.{box_at}
use Rattle.tables.specs.View.{net_view}
use Rattle.flow.proofs.Laws.{join_right, join_tables}
use Rattle.flow.proofs.UseMap.taking.Goals as goal

pub returns : goal.returns
returns c =
    let s = c.args in
    let own : ℕ → ℕ = λ n. grant (mem n s.places) accept_bit in
    let given : ℕ → ℕ = λ n. joins (λ l. box_at (net_view s.net.now) s.k l n) (sites s.places) in
    c.join.ensures ∙ join_right s.self.rights (λ n. join (own n) (given n)) (c.join-given.ensures ∙ join_tables own given c.over-own.ensures c.of_box.ensures)
