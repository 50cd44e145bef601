use mathlib.Core.Path.{sym}
use borrow.Author.Tests.{eq-eqb, ne_eqb}
use Rattle.sets.specs.Lists.{◌&◌}
use Rattle.parts.proofs.Parts.{dot_short, dot_bytes}
use Rattle.parts.proofs.dot_at.Goals as goal

pub returns-then-input-i-lt2 : goal.returns-then-input-i-lt2
returns-then-input-i-lt2 c = sym (dot_short c.args.input.now c.args.i c.if-input-i-lt2.true)

pub returns-then-input-i-ne46 : goal.returns-then-input-i-ne46
unfolding ◌&◌
returns-then-input-i-ne46 c =
    let a = c.args in
    rw (dot_bytes a.input.now a.i c.if-input-i-lt2.false, ne_eqb _ _ c.if-input-i-ne46.true)

pub returns : goal.returns
unfolding ◌&◌
returns c =
    let a = c.args in
    rw (dot_bytes a.input.now a.i c.if-input-i-lt2.false, eq-eqb _ _ c.if-input-i-ne46.false)
