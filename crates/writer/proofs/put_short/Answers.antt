use mathlib.Core.Path.{sym, ap, ap₂, ◌∙◌}
use mathlib.Core.List.{[], ◌∷◌}
use Prim.Native.Nat.{ℕ}
use native.Mathlib.Omega.{arith}
use lib.ListN.{length}
use Rattle.sets.specs.Lists.{◌⧺◌}
use Rattle.klaim.proofs.Numeral.{numeral_digit, numeral_two}
use Rattle.writer.proofs.Wrote.{wrote_then, wrote_as}
use Rattle.writer.proofs.put_short.Goals as goal

pub put_byte-requires : goal.put_byte-requires
put_byte-requires c = omega (arith, ap length (numeral_digit c.args.n c.if-n-lt10.true))

pub returns-then-n-lt10 : goal.returns-then-n-lt10
returns-then-n-lt10 c = wrote_as (ap (λ (b : ℕ). b ∷ []) c.digit.ensures ∙ sym (numeral_digit _ c.if-n-lt10.true)) c.put_byte.ensures

pub put_byte-next-requires : goal.put_byte-next-requires
put_byte-next-requires c = omega (arith, ap length (numeral_two c.args.n c.if-n-lt10.false c.requires.0))

pub put_byte-requires-2 : goal.put_byte-requires-2
put_byte-requires-2 c = omega (arith, ap length (numeral_two c.args.n c.if-n-lt10.false c.requires.0))

pub returns : goal.returns
unfolding ◌⧺◌
returns c =
    wrote_as
    (ap₂ (λ (a b : ℕ). a ∷ b ∷ []) c.digit-2.ensures c.digit-3.ensures ∙ sym (numeral_two c.args.n c.if-n-lt10.false c.requires.0))
    (wrote_then c.put_byte-next.ensures c.put_byte-2.ensures)
