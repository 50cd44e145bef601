use mathlib.Core.Path.{◌≡◌, sym, ◌∙◌}
use native.Mathlib.Omega.{arith}
use lib.ListN.{length}
use Rattle.parts.proofs.Parts.{searched_none, searched_more, searched_found, searched_all}
use Rattle.parts.proofs.before.Goals as goal

pub loop-i-init : goal.loop-i-init
loop-i-init c = searched_none _

pub returns-then-parted_at : goal.returns-then-parted_at
returns-then-parted_at c = searched_found c.loop-i.invariant (omega arith) (sym c.parted_at.ensures ∙ c.if-parted_at.true)

pub loop-i-preserved : goal.loop-i-preserved
loop-i-preserved c = searched_more c.loop-i.invariant (omega arith) (sym c.parted_at.ensures ∙ c.if-parted_at.false)

pub returns : goal.returns
returns c =
    let e : length c.args.input.now ≡ c.loop-i.i = omega arith in
    e ∙ searched_all c.loop-i.invariant (omega arith)
