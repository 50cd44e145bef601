-- The use map, the report and the door.
-- Assumes nothing.
use Rattle.std.specs.Prelude.{Bool, List, ℕ, ◌/◌, ◌%◌, eqb}
use Rattle.sets.specs.Lists.{◌&◌, all, empty, table, below}
use Rattle.sets.specs.Bits.{out_bit, eval_bit, accept_bit, mem, sites, join, less, within, grant, joins, meets}
use Rattle.klaim.specs.Limits.{site_limit, report_size}
use Rattle.klaim.specs.Process.{Tree, nil_t, par_t, rep_t, out_t, get_t, eval_t, accept_t}
use Rattle.klaim.specs.Net.{Root, Net, Estimate, home, box_at, holds}
use Rattle.klaim.specs.Analysis.{reach, place_set, broken, process}

-- "the rights that the sandbox has evaluated at every site of that reach": those of sandbox k towards t, over the reach m
unfoldable pub sure : Net → ℕ → ℕ → ℕ → ℕ
sure N k m t = meets (λ l. box_at N k l t) (sites m)

module _ (N : Net) (E : Estimate) where
  -- "The use map of a line gives rights per site": of a process with place set P, the rights on site s.
  -- "`nil` has" the empty use map; "`par` joins both, `rep` takes its child's"; "`out`, `in`, `read` and `eval` add their right
  -- on each site of the target's reach to a's map; `accept` adds right a on each place, and the sandbox evaluated at each place."
  unfoldable pub uses : ℕ → Tree → ℕ → ℕ
  uses P nil_t s = 0
  uses P (par_t a b) s = join (uses P a s) (uses P b s)
  uses P (rep_t a) s = uses P a s
  uses P (out_t q g fs a) s = join (uses P a s) (grant (mem s (reach E P g)) out_bit)
  uses P (get_t q r g ss a) s = join (uses P a s) (grant (mem s (reach E P g)) r)
  uses P (eval_t q g k b a) s = join (uses P a s) (grant (mem s (reach E P g)) eval_bit)
  uses P (accept_t k a) s = join (uses P a s) (join (grant (mem s P) accept_bit) (joins (λ l. box_at N k l s) (sites P)))

  -- "for each eval line and each subject in its target's reach, the body's use map less the rights that the sandbox has
  -- evaluated at every site of that reach": subject s, object t, the reach m
  unfoldable pub eval_adds : ℕ → ℕ → Tree → ℕ → ℕ → ℕ
  eval_adds m k b s t = grant (mem s m) (less (uses m b t) (sure N k m t))

  -- what the eval lines of a process with place set P add for subject s and object t, those inside bodies too
  unfoldable pub adds : ℕ → Tree → ℕ → ℕ → ℕ
  adds P nil_t s t = 0
  adds P (par_t a b) s t = join (adds P a s t) (adds P b s t)
  adds P (rep_t a) s t = adds P a s t
  adds P (out_t q g fs a) s t = adds P a s t
  adds P (get_t q r g ss a) s t = adds P a s t
  adds P (eval_t q g k b a) s t = join (eval_adds (reach E P g) k b s t) (join (adds (reach E P g) b s t) (adds P a s t))
  adds P (accept_t k a) s t = adds P a s t

  -- "for each L row, the root's use map less the home policy of its site"
  unfoldable pub root_adds : Root → ℕ → ℕ → ℕ
  root_adds r s t = grant (eqb r.site s) (less (uses (place_set r.site) (process N r) t) (home N s t))

  -- "for each site, its E rights less its home policy"
  unfoldable pub hold_adds : ℕ → ℕ → ℕ
  hold_adds s t = less (holds E s t) (home N s t)

  -- the report for subject s and object t
  unfoldable pub report_at : ℕ → ℕ → ℕ
  report_at s t =
      join (joins (λ r. root_adds r s t) N.roots)
      (join (joins (λ r. adds (place_set r.site) (process N r) s t) N.roots)
      (hold_adds s t))

  -- report: "1,024 bytes, byte 32 × subject + object"
  unfoldable pub report : List ℕ
  report = table report_size (λ i. report_at (i / site_limit) (i % site_limit))

  -- "each of its eval lines adds nothing to a report"
  unfoldable pub adds_nothing : ℕ → Tree → Bool
  adds_nothing P a = all (λ s. all (λ t. eqb (adds P a s t) 0) (below site_limit)) (below site_limit)

  -- door: "passes an arrival at site l under sandbox d if all rules hold for its lines with place set l, its use map lies
  -- within d evaluated at l, and each of its eval lines adds nothing to a report"
  unfoldable pub door : ℕ → ℕ → Tree → Bool
  door d l a =
      empty (broken N E (place_set l) a)
      & all (λ t. within (uses (place_set l) a t) (box_at N d l t)) (below site_limit)
      & adds_nothing (place_set l) a
