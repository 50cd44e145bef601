-- What a net and an estimate that were read meet, and the bytes of a report in a buffer.
-- Assumes nothing.
use mathlib.Core.Path.{◌≡◌, refl, sym, ap}
use mathlib.Core.Bool.{true}
use mathlib.Core.List.{List}
use Prim.Native.Nat.{ℕ, ◌<◌, ◌≤◌}
use native.Mathlib.Omega.{arith}
use lib.ListN.{length}
use borrow.Author.Tests.{le-ltb}
use Rattle.sets.specs.Lists.{all}
use Rattle.sets.proofs.Lists.{all_i, all_at, ltb_lt, lt-ltb}
use Rattle.klaim.specs.Invariant.{all_below}
use Rattle.klaim.specs.Analysis.{Verdict, verdict}
use Rattle.klaim.specs.Check.{written, check_read, check}
use Rattle.klaim.specs.Reader.{gives, refused, World, read_both}
use Rattle.klaim.proofs.Reader.{both_read}
use Rattle.report.specs.Given.{Rooted}
use Rattle.report.proofs.Ready.{rooted}
use Rattle.verdict.specs.Verdict.{Judgeable}
use Rattle.worlds.specs.declared.World as Code
use Rattle.worlds.specs.World.{world_view}
use Rattle.checker.specs.Check.{WellFormed}

-- both were read
pub sound : (net estimate : List ℕ) (w : Code.World) → gives (world_view w) ≡ read_both net estimate → WellFormed w
sound net estimate w e = let k = both_read net estimate (world_view w) (sym e) in record { net = k.0; estimate = k.1 }

-- sites below n are below 32
fit_low : (n : ℕ) (ts : List (List ℕ)) → n ≤ 32 → all (all_below n) ts ≡ true → all (all_below 32) ts ≡ true
unfolding all_below
fit_low n ts h f = all_i _ ts (λ t i. all_i _ t (λ s j. lt-ltb s 32 (omega (arith, ltb_lt s n (all_at _ j (all_at _ i f))))))

module _ (w : Code.World) (S : WellFormed w) where
  pub rooted_world : Rooted w.net.lines w.net.roots
  unfolding world_view
  rooted_world = rooted w.net S.net

  pub judgeable : Judgeable w.net w.estimate
  unfolding world_view
  judgeable = record {
    tuples_low = fit_low _ _ S.net.sites_few S.net.tuples_fit;
    rooted = rooted w.net S.net;
    sized = record { alone = S.estimate.stand_distinct; low = fit_low _ _ S.net.sites_few S.estimate.stand_fit };
  }

-- the answer and the buffer by the verdict
module _ (w : World) (buffer : List ℕ) (v : Verdict) (e : v ≡ verdict w.net w.estimate) where
  pub answer_by : gives v ≡ (check_read buffer (gives w)).answer
  unfolding check_read
  answer_by = ap gives e

  pub buffer_by : written w buffer v ≡ (check_read buffer (gives w)).buffer
  unfolding check_read
  buffer_by = ap (written w buffer) e

-- the answer and the buffer of the call
module _ (net estimate buffer : List ℕ) where
  pub too_short : length buffer < 1024 → (refused 9 0 ≡ (check net estimate buffer).answer) × (buffer ≡ (check net estimate buffer).buffer)
  unfolding check
  too_short h = rw (lt-ltb (length buffer) 1024 h) (refl, refl)

  pub not_read : {number row : ℕ} → 1024 ≤ length buffer → refused number row ≡ read_both net estimate → (refused number row ≡ (check net estimate buffer).answer) × (buffer ≡ (check net estimate buffer).buffer)
  unfolding check check_read
  not_read h e = rw (le-ltb (length buffer) 1024 h, ← e) (refl, refl)

  pub was_read : {w : World} → 1024 ≤ length buffer → gives w ≡ read_both net estimate → check_read buffer (gives w) ≡ check net estimate buffer
  unfolding check
  was_read h e = rw (le-ltb (length buffer) 1024 h, ← e)
