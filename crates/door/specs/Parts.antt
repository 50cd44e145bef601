-- The door's tests in two parts: those that the sandbox plays no part in, and the one against the sandbox.
-- Assumes nothing.
use Rattle.std.specs.Prelude.{Bool, ℕ}
use Rattle.sets.specs.Lists.{◌&◌, all, empty, below}
use Rattle.sets.specs.Bits.{within}
use Rattle.klaim.specs.Limits.{site_limit}
use Rattle.klaim.specs.Process.{Tree}
use Rattle.klaim.specs.Net.{Net, Estimate, box_at}
use Rattle.klaim.specs.Analysis.{place_set, broken}
use Rattle.klaim.specs.Report.{uses, adds_nothing}

-- all rules hold with place set l, and no eval line adds anything to a report
unfoldable pub sound : Net → Estimate → ℕ → Tree → Bool
sound N E l t = empty (broken N E (place_set l) t) & adds_nothing N E (place_set l) t

-- the use map lies within d evaluated at l
unfoldable pub uses_fit : Net → Estimate → ℕ → ℕ → Tree → Bool
uses_fit N E d l t = all (λ s. within (uses N E (place_set l) t s) (box_at N d l s)) (below site_limit)
