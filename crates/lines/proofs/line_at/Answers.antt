use mathlib.Core.Path.{sym, ◌∙◌}
use Rattle.klaim.specs.Process.{In, Read}
use Rattle.klaim.specs.Rows.{split, comma}
use Rattle.lines.specs.Lines.{line_view}
use Rattle.lines.proofs.LineKinds.{get_at, word_nil, word_par, word_rep, word_out, word_in, word_read, word_eval, word_accept, word_none}
use Rattle.lines.proofs.line_at.Goals as goal

pub returns-then-same : goal.returns-then-same
returns-then-same c = c.read_nil.ensures ∙ sym (word_nil (split comma c.args.row.now.bytes.now) c.field-word.result.now c.field-word.ensures c.if-same.ensures)

pub returns-then-same-2 : goal.returns-then-same-2
returns-then-same-2 c = c.read_par.ensures ∙ sym (word_par (split comma c.args.row.now.bytes.now) c.field-word.result.now c.field-word.ensures c.if-same-2.ensures)

pub returns-then-same-3 : goal.returns-then-same-3
returns-then-same-3 c = c.read_rep.ensures ∙ sym (word_rep (split comma c.args.row.now.bytes.now) c.field-word.result.now c.field-word.ensures c.if-same-3.ensures)

pub returns-then-same-4 : goal.returns-then-same-4
returns-then-same-4 c = c.read_out.ensures ∙ sym (word_out (split comma c.args.row.now.bytes.now) c.field-word.result.now c.field-word.ensures c.if-same-4.ensures)

pub returns-in_err-read_acts : goal.returns-in_err-read_acts
returns-in_err-read_acts c = rw (c.from_residual.ensures) (c.in_err-read_acts.ensures In ∙ sym (get_at (split comma c.args.row.now.bytes.now) In) ∙ sym (word_in (split comma c.args.row.now.bytes.now) c.field-word.result.now c.field-word.ensures c.if-same-5.ensures))

pub returns-then-same-5 : goal.returns-then-same-5
unfolding line_view
returns-then-same-5 c = c.in_ok-read_acts.ensures In ∙ sym (get_at (split comma c.args.row.now.bytes.now) In) ∙ sym (word_in (split comma c.args.row.now.bytes.now) c.field-word.result.now c.field-word.ensures c.if-same-5.ensures)

pub returns-in_err-read_acts-2 : goal.returns-in_err-read_acts-2
returns-in_err-read_acts-2 c = rw (c.from_residual-in_err-read_acts-2.ensures) (c.in_err-read_acts-2.ensures Read ∙ sym (get_at (split comma c.args.row.now.bytes.now) Read) ∙ sym (word_read (split comma c.args.row.now.bytes.now) c.field-word.result.now c.field-word.ensures c.if-same-6.ensures))

pub returns-then-same-6 : goal.returns-then-same-6
unfolding line_view
returns-then-same-6 c = c.in_ok-read_acts-2.ensures Read ∙ sym (get_at (split comma c.args.row.now.bytes.now) Read) ∙ sym (word_read (split comma c.args.row.now.bytes.now) c.field-word.result.now c.field-word.ensures c.if-same-6.ensures)

pub returns-then-same-7 : goal.returns-then-same-7
returns-then-same-7 c = c.read_eval.ensures ∙ sym (word_eval (split comma c.args.row.now.bytes.now) c.field-word.result.now c.field-word.ensures c.if-same-7.ensures)

pub returns-then-same-8 : goal.returns-then-same-8
returns-then-same-8 c = c.read_accept.ensures ∙ sym (word_accept (split comma c.args.row.now.bytes.now) c.field-word.result.now c.field-word.ensures c.if-same-8.ensures)

pub returns : goal.returns
returns c = word_none (split comma c.args.row.now.bytes.now) c.field-word.result.now c.field-word.ensures c.if-same.ensures c.if-same-2.ensures c.if-same-3.ensures c.if-same-4.ensures c.if-same-5.ensures c.if-same-6.ensures c.if-same-7.ensures c.if-same-8.ensures
