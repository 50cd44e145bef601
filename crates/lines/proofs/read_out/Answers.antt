use mathlib.Core.Path.{◌≡◌, sym, ◌∙◌}
use mathlib.Core.Option.{none}
use Rattle.klaim.specs.Process.{Out}
use Rattle.klaim.specs.Rows.{split, comma, loc_field}
use Rattle.lines.specs.Lines.{acts_of, acts_form, line_view}
use Rattle.lines.proofs.LineKinds.{out_at}
use Rattle.lines.proofs.read_out.Goals as goal

pub returns-in_err-acts : goal.returns-in_err-acts
returns-in_err-acts c =
    let fs = split comma c.args.row.now.bytes.now in
    let said : none ≡ acts_form loc_field Out fs = c.in_err-acts.ensures Out in
    rw c.from_residual.ensures (said ∙ sym (out_at fs))

pub returns : goal.returns
unfolding acts_of line_view
returns c = c.in_ok-acts.ensures Out ∙ sym (out_at (split comma c.args.row.now.bytes.now))
