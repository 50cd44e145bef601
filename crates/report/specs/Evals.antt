-- The eight actions by what they add to the report, and what adds nothing.
-- Assumes nothing.
use Rattle.std.specs.Prelude.{Bool, ℕ, eqb}
use Rattle.sets.specs.Lists.{all, below}
use Rattle.tables.specs.declared.Action.{Action}
use Rattle.tables.specs.declared.Action.TheVariants.{Nil, Par, Rep, Out, In, Read, Eval, Accept}
use Rattle.report.specs.declared.Evals.{Evals}
use Rattle.report.specs.declared.Evals.TheVariants.{Nothing, Both, Next, Sends}

unfoldable pub evals_of : Action → Evals
evals_of Nil = Nothing
evals_of (Par a b) = Both a b
evals_of (Rep a) = Next a
evals_of (Out a g fs) = Next a
evals_of (In a g fs) = Next a
evals_of (Read a g fs) = Next a
evals_of (Eval a g b k) = Sends a g b k
evals_of (Accept a k) = Next a

-- no right for any subject and object
unfoldable pub nowhere : (ℕ → ℕ → ℕ) → Bool
nowhere f = all (λ s. all (λ t. eqb (f s t) 0) (below 32)) (below 32)
