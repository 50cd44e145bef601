use mathlib.Core.Path.{sym, ◌∙◌}
use native.Mathlib.Omega.{arith}
use Rattle.klaim.specs.Rows.{group_r, group_t, group_a, group_e}
use Rattle.forms.specs.Forms.{row_data}
use Rattle.forms.proofs.RowForms.{letter_long, letter_other, letter_N, letter_R, letter_D, letter_T, letter_L, letter_Q, letter_B, letter_A, letter_E}
use Rattle.forms.proofs.row_of.Goals as goal

pub returns-in_default : goal.returns-in_default
returns-in_default c = letter_long c.args.row.now.bytes.now c.field.result.now c.field.ensures (λ e. omega arith)

pub returns-in_default-2 : goal.returns-in_default-2
returns-in_default-2 c = letter_long c.args.row.now.bytes.now c.field.result.now c.field.ensures (λ e. omega arith)

pub returns-in_err-read_size-in-78 : goal.returns-in_err-read_size-in-78
returns-in_err-read_size-in-78 c = rw (c.from_residual.ensures) (c.in_err-read_size-in-78.ensures ∙ sym (letter_N c.args.row.now.bytes.now c.field.result.now c.field.ensures c.in-len1.len_at_least c.in-len1.len_below c.in-78.is))

pub returns-in_ok-read_size-in-78 : goal.returns-in_ok-read_size-in-78
unfolding row_data
returns-in_ok-read_size-in-78 c = c.in_ok-read_size-in-78.ensures ∙ sym (letter_N c.args.row.now.bytes.now c.field.result.now c.field.ensures c.in-len1.len_at_least c.in-len1.len_below c.in-78.is)

pub returns-in_err-read_pair-in-82 : goal.returns-in_err-read_pair-in-82
returns-in_err-read_pair-in-82 c = rw (c.from_residual-in_err-read_pair-in-82.ensures) (c.in_err-read_pair-in-82.ensures group_r ∙ sym (letter_R c.args.row.now.bytes.now c.field.result.now c.field.ensures c.in-len1.len_at_least c.in-len1.len_below c.in-82.is))

pub returns-in_ok-read_pair-in-82 : goal.returns-in_ok-read_pair-in-82
unfolding row_data
returns-in_ok-read_pair-in-82 c = c.in_ok-read_pair-in-82.ensures group_r ∙ sym (letter_R c.args.row.now.bytes.now c.field.result.now c.field.ensures c.in-len1.len_at_least c.in-len1.len_below c.in-82.is)

pub returns-in_err-read_sandbox-in-68 : goal.returns-in_err-read_sandbox-in-68
returns-in_err-read_sandbox-in-68 c = rw (c.from_residual-in_err-read_sandbox-in-68.ensures) (c.in_err-read_sandbox-in-68.ensures ∙ sym (letter_D c.args.row.now.bytes.now c.field.result.now c.field.ensures c.in-len1.len_at_least c.in-len1.len_below c.in-68.is))

pub returns-in_ok-read_sandbox-in-68 : goal.returns-in_ok-read_sandbox-in-68
unfolding row_data
returns-in_ok-read_sandbox-in-68 c = c.in_ok-read_sandbox-in-68.ensures ∙ sym (letter_D c.args.row.now.bytes.now c.field.result.now c.field.ensures c.in-len1.len_at_least c.in-len1.len_below c.in-68.is)

pub returns-in_err-read_tuple-in-84 : goal.returns-in_err-read_tuple-in-84
returns-in_err-read_tuple-in-84 c = rw (c.from_residual-in_err-read_tuple-in-84.ensures) (c.in_err-read_tuple-in-84.ensures group_t ∙ sym (letter_T c.args.row.now.bytes.now c.field.result.now c.field.ensures c.in-len1.len_at_least c.in-len1.len_below c.in-84.is))

pub returns-in_ok-read_tuple-in-84 : goal.returns-in_ok-read_tuple-in-84
unfolding row_data
returns-in_ok-read_tuple-in-84 c = c.in_ok-read_tuple-in-84.ensures group_t ∙ sym (letter_T c.args.row.now.bytes.now c.field.result.now c.field.ensures c.in-len1.len_at_least c.in-len1.len_below c.in-84.is)

pub returns-in_err-read_root-in-76 : goal.returns-in_err-read_root-in-76
returns-in_err-read_root-in-76 c = rw (c.from_residual-in_err-read_root-in-76.ensures) (c.in_err-read_root-in-76.ensures ∙ sym (letter_L c.args.row.now.bytes.now c.field.result.now c.field.ensures c.in-len1.len_at_least c.in-len1.len_below c.in-76.is))

pub returns-in_ok-read_root-in-76 : goal.returns-in_ok-read_root-in-76
unfolding row_data
returns-in_ok-read_root-in-76 c = c.in_ok-read_root-in-76.ensures ∙ sym (letter_L c.args.row.now.bytes.now c.field.result.now c.field.ensures c.in-len1.len_at_least c.in-len1.len_below c.in-76.is)

pub returns-in_err-read_process-in-81 : goal.returns-in_err-read_process-in-81
returns-in_err-read_process-in-81 c = rw (c.from_residual-in_err-read_process-in-81.ensures) (c.in_err-read_process-in-81.ensures ∙ sym (letter_Q c.args.row.now.bytes.now c.field.result.now c.field.ensures c.in-len1.len_at_least c.in-len1.len_below c.in-81.is))

pub returns-in_ok-read_process-in-81 : goal.returns-in_ok-read_process-in-81
unfolding row_data
returns-in_ok-read_process-in-81 c = c.in_ok-read_process-in-81.ensures ∙ sym (letter_Q c.args.row.now.bytes.now c.field.result.now c.field.ensures c.in-len1.len_at_least c.in-len1.len_below c.in-81.is)

pub returns-in_err-read_bound-in-66 : goal.returns-in_err-read_bound-in-66
returns-in_err-read_bound-in-66 c = rw (c.from_residual-in_err-read_bound-in-66.ensures) (c.in_err-read_bound-in-66.ensures ∙ sym (letter_B c.args.row.now.bytes.now c.field.result.now c.field.ensures c.in-len1.len_at_least c.in-len1.len_below c.in-66.is))

pub returns-in_ok-read_bound-in-66 : goal.returns-in_ok-read_bound-in-66
unfolding row_data
returns-in_ok-read_bound-in-66 c = c.in_ok-read_bound-in-66.ensures ∙ sym (letter_B c.args.row.now.bytes.now c.field.result.now c.field.ensures c.in-len1.len_at_least c.in-len1.len_below c.in-66.is)

pub returns-in_err-read_tuple-in-65 : goal.returns-in_err-read_tuple-in-65
returns-in_err-read_tuple-in-65 c = rw (c.from_residual-in_err-read_tuple-in-65.ensures) (c.in_err-read_tuple-in-65.ensures group_a ∙ sym (letter_A c.args.row.now.bytes.now c.field.result.now c.field.ensures c.in-len1.len_at_least c.in-len1.len_below c.in-65.is))

pub returns-in_ok-read_tuple-in-65 : goal.returns-in_ok-read_tuple-in-65
unfolding row_data
returns-in_ok-read_tuple-in-65 c = c.in_ok-read_tuple-in-65.ensures group_a ∙ sym (letter_A c.args.row.now.bytes.now c.field.result.now c.field.ensures c.in-len1.len_at_least c.in-len1.len_below c.in-65.is)

pub returns-in_err-read_pair-in-69 : goal.returns-in_err-read_pair-in-69
returns-in_err-read_pair-in-69 c = rw (c.from_residual-in_err-read_pair-in-69.ensures) (c.in_err-read_pair-in-69.ensures group_e ∙ sym (letter_E c.args.row.now.bytes.now c.field.result.now c.field.ensures c.in-len1.len_at_least c.in-len1.len_below c.in-69.is))

pub returns-in_ok-read_pair-in-69 : goal.returns-in_ok-read_pair-in-69
unfolding row_data
returns-in_ok-read_pair-in-69 c = c.in_ok-read_pair-in-69.ensures group_e ∙ sym (letter_E c.args.row.now.bytes.now c.field.result.now c.field.ensures c.in-len1.len_at_least c.in-len1.len_below c.in-69.is)

pub returns-in_default-letter : goal.returns-in_default-letter
returns-in_default-letter c = letter_other c.args.row.now.bytes.now c.field.result.now c.field.ensures c.in-len1.len_at_least c.in-len1.len_below (λ e. omega arith) (λ e. omega arith) (λ e. omega arith) (λ e. omega arith) (λ e. omega arith) (λ e. omega arith) (λ e. omega arith) (λ e. omega arith) (λ e. omega arith)
