use mathlib.Core.Path.{refl, sym}
use native.Mathlib.Omega.{arith}
use Rattle.klaim.specs.Rows.{split, comma, ◌>>=◌}
use Rattle.lines.proofs.Templates.{one_at, two_at, three_at, four_at, other_at}
use Rattle.lines.proofs.fields_at.Goals as goal

pub returns-in_err-read-in-1 : goal.returns-in_err-read-in-1
unfolding ◌>>=◌
returns-in_err-read-in-1 g c = rw (c.from_residual.ensures, one_at g.T.Spoken.form (split comma c.args.row.now.bytes.now) c.args.k (omega arith), ← c.in_err-read-in-1.ensures) refl

pub returns-in_ok-read-in-1 : goal.returns-in_ok-read-in-1
unfolding ◌>>=◌
returns-in_ok-read-in-1 g c = rw (one_at g.T.Spoken.form (split comma c.args.row.now.bytes.now) c.args.k (omega arith), ← c.in_ok-read-in-1.ensures) refl

pub returns-in_err-read-in-2 : goal.returns-in_err-read-in-2
unfolding ◌>>=◌
returns-in_err-read-in-2 g c = rw (c.from_residual-in_err-read-in-2.ensures, two_at g.T.Spoken.form (split comma c.args.row.now.bytes.now) c.args.k (omega arith), ← c.in_err-read-in-2.ensures) refl

pub returns-in_err-read-in-2-2 : goal.returns-in_err-read-in-2-2
unfolding ◌>>=◌
returns-in_err-read-in-2-2 g c = rw (c.from_residual-in_err-read-in-2-2.ensures, two_at g.T.Spoken.form (split comma c.args.row.now.bytes.now) c.args.k (omega arith), ← c.in_ok-read-in-2.ensures, ← c.in_err-read-in-2-2.ensures) refl

pub returns-in_ok-read-in-2-2 : goal.returns-in_ok-read-in-2-2
unfolding ◌>>=◌
returns-in_ok-read-in-2-2 g c = rw (two_at g.T.Spoken.form (split comma c.args.row.now.bytes.now) c.args.k (omega arith), ← c.in_ok-read-in-2.ensures, ← c.in_ok-read-in-2-2.ensures) refl

pub returns-in_err-read-in-3 : goal.returns-in_err-read-in-3
unfolding ◌>>=◌
returns-in_err-read-in-3 g c = rw (c.from_residual-in_err-read-in-3.ensures, three_at g.T.Spoken.form (split comma c.args.row.now.bytes.now) c.args.k (omega arith), ← c.in_err-read-in-3.ensures) refl

pub returns-in_err-read-in-3-2 : goal.returns-in_err-read-in-3-2
unfolding ◌>>=◌
returns-in_err-read-in-3-2 g c = rw (c.from_residual-in_err-read-in-3-2.ensures, three_at g.T.Spoken.form (split comma c.args.row.now.bytes.now) c.args.k (omega arith), ← c.in_ok-read-in-3.ensures, ← c.in_err-read-in-3-2.ensures) refl

pub returns-in_err-read-in-3-3 : goal.returns-in_err-read-in-3-3
unfolding ◌>>=◌
returns-in_err-read-in-3-3 g c = rw (c.from_residual-in_err-read-in-3-3.ensures, three_at g.T.Spoken.form (split comma c.args.row.now.bytes.now) c.args.k (omega arith), ← c.in_ok-read-in-3.ensures, ← c.in_ok-read-in-3-2.ensures, ← c.in_err-read-in-3-3.ensures) refl

pub returns-in_ok-read-in-3-3 : goal.returns-in_ok-read-in-3-3
unfolding ◌>>=◌
returns-in_ok-read-in-3-3 g c = rw (three_at g.T.Spoken.form (split comma c.args.row.now.bytes.now) c.args.k (omega arith), ← c.in_ok-read-in-3.ensures, ← c.in_ok-read-in-3-2.ensures, ← c.in_ok-read-in-3-3.ensures) refl

pub returns-in_err-read-in-4 : goal.returns-in_err-read-in-4
unfolding ◌>>=◌
returns-in_err-read-in-4 g c = rw (c.from_residual-in_err-read-in-4.ensures, four_at g.T.Spoken.form (split comma c.args.row.now.bytes.now) c.args.k (omega arith), ← c.in_err-read-in-4.ensures) refl

pub returns-in_err-read-in-4-2 : goal.returns-in_err-read-in-4-2
unfolding ◌>>=◌
returns-in_err-read-in-4-2 g c = rw (c.from_residual-in_err-read-in-4-2.ensures, four_at g.T.Spoken.form (split comma c.args.row.now.bytes.now) c.args.k (omega arith), ← c.in_ok-read-in-4.ensures, ← c.in_err-read-in-4-2.ensures) refl

pub returns-in_err-read-in-4-3 : goal.returns-in_err-read-in-4-3
unfolding ◌>>=◌
returns-in_err-read-in-4-3 g c = rw (c.from_residual-in_err-read-in-4-3.ensures, four_at g.T.Spoken.form (split comma c.args.row.now.bytes.now) c.args.k (omega arith), ← c.in_ok-read-in-4.ensures, ← c.in_ok-read-in-4-2.ensures, ← c.in_err-read-in-4-3.ensures) refl

pub returns-in_err-read-in-4-4 : goal.returns-in_err-read-in-4-4
unfolding ◌>>=◌
returns-in_err-read-in-4-4 g c = rw (c.from_residual-in_err-read-in-4-4.ensures, four_at g.T.Spoken.form (split comma c.args.row.now.bytes.now) c.args.k (omega arith), ← c.in_ok-read-in-4.ensures, ← c.in_ok-read-in-4-2.ensures, ← c.in_ok-read-in-4-3.ensures, ← c.in_err-read-in-4-4.ensures) refl

pub returns-in_ok-read-in-4-4 : goal.returns-in_ok-read-in-4-4
unfolding ◌>>=◌
returns-in_ok-read-in-4-4 g c = rw (four_at g.T.Spoken.form (split comma c.args.row.now.bytes.now) c.args.k (omega arith), ← c.in_ok-read-in-4.ensures, ← c.in_ok-read-in-4-2.ensures, ← c.in_ok-read-in-4-3.ensures, ← c.in_ok-read-in-4-4.ensures) refl

pub returns-in_default : goal.returns-in_default
returns-in_default g c = sym (other_at g.T.Spoken.form (split comma c.args.row.now.bytes.now) c.args.k c.saturating_sub.result (omega arith) (λ e. omega arith) (λ e. omega arith) (λ e. omega arith) (λ e. omega arith))
