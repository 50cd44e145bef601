-- The rule of a line itself, without those of the lines that follow it.
-- Assumes nothing.
use Rattle.std.specs.Prelude.{Bool, true, ℕ}
use Rattle.klaim.specs.Process.{Line, Nil, Par, Rep, Out, In, Read, Eval, Accept}
use Rattle.klaim.specs.Net.{Net, Estimate}
use Rattle.klaim.specs.Analysis.{out_rule, get_rule, eval_rule}

unfoldable pub own_rule : Net → Estimate → ℕ → Line → Bool
own_rule N E P Nil = true
own_rule N E P (Par a b) = true
own_rule N E P (Rep a) = true
own_rule N E P (Out a g fs) = out_rule E P g fs
own_rule N E P (In a g ss) = get_rule E P g ss
own_rule N E P (Read a g ss) = get_rule E P g ss
own_rule N E P (Eval a g b k) = eval_rule N E P g k
own_rule N E P (Accept a k) = true
