use mathlib.Core.Path.{ap, ◌∙◌}
use Prim.Native.Nat.{ℕ, ◌%◌}
use native.Mathlib.Omega.{arith}
use Rattle.tables.specs.View.{tuple_view}
use Rattle.matching.proofs.Index.{column_first, column_later}
use Rattle.matching.proofs.key.Goals as goal

pub returns-then-c-eq0 : goal.returns-then-c-eq0
returns-then-c-eq0 c = (c.len.ensures.value ∙ column_first (tuple_view c.args.tuple.now) c.args.c c.if-c-eq0.true, omega (arith, c.len.ensures.most))

pub returns : goal.returns
returns c =
    (c.from.ensures ∙ ap (λ (v : ℕ). v % 32) c.site_at.ensures ∙ column_later (tuple_view c.args.tuple.now) c.args.c c.if-c-eq0.false, omega (arith, c.from.ensures))
