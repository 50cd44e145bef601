-- The call check: its answer, and the lent buffer behind it.
-- Assumes nothing.
use Rattle.std.specs.Prelude.{cond, List, ◌++◌, ℕ, ltb, length, drop}
use Rattle.klaim.specs.Limits.{report_size}
use Rattle.klaim.specs.Reader.{Answer, refused, gives, World, read_both}
use Rattle.klaim.specs.Analysis.{Verdict, accepted, broken_t, broken_q, verdict}
use Rattle.klaim.specs.Report.{report}

-- the answer, and the lent buffer behind the call
pub record Checked : Type 0 where
  pub answer : Answer Verdict
  pub buffer : List ℕ

-- "A broken rule writes no report."; "A longer buffer keeps its further bytes."
unfoldable pub written : World → List ℕ → Verdict → List ℕ
written w buffer accepted = report w.net w.estimate ++ drop report_size buffer
written w buffer (broken_t i) = buffer
written w buffer (broken_q q) = buffer

-- "nothing lent is written" where it refuses
unfoldable pub check_read : List ℕ → Answer World → Checked
check_read buffer (refused n row) = record { answer = refused n row; buffer = buffer }
check_read buffer (gives w) = let v = verdict w.net w.estimate in record { answer = gives v; buffer = written w buffer v }

-- 9: "report buffer under 1,024 bytes"; "9 comes first."
unfoldable pub check : List ℕ → List ℕ → List ℕ → Checked
check net estimate buffer = cond (ltb (length buffer) report_size) (record { answer = refused 9 0; buffer = buffer }) (check_read buffer (read_both net estimate))
