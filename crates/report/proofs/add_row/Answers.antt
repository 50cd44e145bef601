use mathlib.Core.Path.{◌≡◌, sym, ap, ◌∙◌}
use borrow.Author.Rules.{rules}
use Prim.Native.Nat.{ℕ, ◌*◌}
use native.Mathlib.Omega.{arith}
use Rattle.sets.specs.Bits.{join}
use Rattle.report.proofs.Rows.{row_none, row_start, row_more, row_all}
use Rattle.report.proofs.add_row.Goals as goal

pub loop-object-init : goal.loop-object-init
loop-object-init c = (search rules, ap (λ (s : ℕ). 32 * s) c.from-at.ensures, sym c.has_site.ensures ∙ c.if-has_site.true, row_start _ c.args.m.rights _)

pub loop-object-preserved : goal.loop-object-preserved
unfolding join
loop-object-preserved c =
    let v = c.loop-object.invariant in
    (v.0, v.1, v.2, row_more _ c.args.m.rights _ _ _ v.3 (omega (arith, v.0, v.1, c.requires)))

pub returns-after-loop-object : goal.returns-after-loop-object
returns-after-loop-object c =
    let v = c.loop-object.invariant in
    let e : c.loop-object.object ≡ 32 = omega arith in
    row_all _ _ _ _ _ v.2 (rw (e, c.from-at.ensures) at v.3)

pub returns-else-has_site : goal.returns-else-has_site
returns-else-has_site c = row_none _ _ (sym c.has_site.ensures ∙ c.if-has_site.false)
