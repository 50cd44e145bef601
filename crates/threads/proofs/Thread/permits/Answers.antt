use mathlib.Core.Path.{sym, ap, ◌∙◌}
use Prim.Native.Nat.{ℕ}
use lib.ListN.{get_or}
use Rattle.sets.specs.Bits.{has}
use Rattle.sets.proofs.Lists.{and_yes, and_no}
use Rattle.klaim.specs.Engine.{permits}
use Rattle.threads.proofs.Thread.permits.Goals as goal

pub returns-then-has_right : goal.returns-then-has_right
unfolding permits
returns-then-has_right c =
    let right = c.args.right in
    let own = ap (λ (t : ℕ). has (get_or c.args.self.now.policy t 0) right) (sym c.from.ensures) ∙ sym c.has_right.ensures ∙ c.if-has_right.true in
    c.has_right-then-has_right.ensures ∙ ap (λ (x : ℕ). has x right) c.home.ensures ∙ sym (and_yes _ own)

pub returns : goal.returns
unfolding permits
returns c =
    let right = c.args.right in
    let own = ap (λ (t : ℕ). has (get_or c.args.self.now.policy t 0) right) (sym c.from.ensures) ∙ sym c.has_right.ensures ∙ c.if-has_right.false in
    sym (and_no _ own)
