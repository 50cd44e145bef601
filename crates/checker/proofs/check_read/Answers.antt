use mathlib.Core.Path.{◌≡◌, refl, ◌∙◌}
use mathlib.Core.List.{List}
use Prim.Native.Nat.{ℕ}
use native.Mathlib.Omega.{arith}
use borrow.Author.Rules.{rules}
use lib.ListN.{length, length-take}
use Rattle.klaim.specs.Check.{written}
use Rattle.klaim.specs.Reader.{World}
use Rattle.worlds.specs.World.{world_view}
use Rattle.verdict.specs.declared.Verdict.{Verdict}
use Rattle.verdict.specs.declared.Verdict.TheVariants.{Accepted, BrokenTuple, BrokenLine}
use Rattle.verdict.specs.Verdict.{verdict_view}
use Rattle.checker.proofs.Laws.{answer_by, buffer_by, judgeable, rooted_world}
use Rattle.checker.proofs.check_read.Goals as goal

-- a broken rule writes nothing
kept : (w : World) (buffer : List ℕ) (v : Verdict) → (v ≡ Accepted → ⊥) → buffer ≡ written w buffer (verdict_view v)
unfolding verdict_view written
kept w buffer Accepted h = absurd (h refl)
kept w buffer (BrokenTuple i) h = refl
kept w buffer (BrokenLine q) h = refl

pub judge-verdict-requires : goal.judge-verdict-requires
judge-verdict-requires c = judgeable _ c.requires.well_formed

pub report-requires : goal.report-requires
report-requires c = rooted_world _ c.requires.well_formed

pub copy_from_slice-requires : goal.copy_from_slice-requires
copy_from_slice-requires c = let l : length c.report.result ≡ 1024 = search rules in omega (arith, c.requires.in_bounds, length-take 1024 c.args.buffer.now)

pub returns-in-Accepted-clause-verdict : goal.returns-in-Accepted-clause-verdict
unfolding world_view
returns-in-Accepted-clause-verdict c = answer_by _ _ _ c.judge-verdict.ensures

pub returns-in-Accepted-clause-buffer_after : goal.returns-in-Accepted-clause-buffer_after
unfolding verdict_view written world_view
returns-in-Accepted-clause-buffer_after c = rw (c.copy_from_slice.ensures.after, c.report.ensures) (buffer_by _ _ _ c.in-Accepted.ensures)

pub returns-in_default : goal.returns-in_default
unfolding world_view
returns-in_default c = record {
  verdict = answer_by _ _ _ c.judge-verdict.ensures;
  buffer_after = kept _ c.args.buffer.now c.judge-verdict.result c.in_default.not-Accepted ∙ buffer_by _ _ _ c.judge-verdict.ensures;
}
