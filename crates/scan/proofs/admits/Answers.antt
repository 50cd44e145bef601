use mathlib.Core.Path.{refl, sym, ap, ap₂, ◌∙◌}
use mathlib.Core.Bool.{Bool}
use Rattle.std.proofs.lemmas.Result.{err_from_is_err_and}
use Rattle.klaim.specs.Reader.{repeated, site_count}
use Rattle.forms.specs.Forms.{row_data}
use Rattle.scan.specs.Reasons.{Judging, late_of, judging_of, judged_by}
use Rattle.scan.proofs.Reasons.{numbered, judged_is, early_passed, passed_by, if_ok}
use Rattle.scan.proofs.admits.Goals as goal

pub returns-in_err-early-clause-judged : goal.returns-in_err-early-clause-judged
returns-in_err-early-clause-judged g c = λ t above H.
    let r = row_data c.args.row.now in
    let p = err_from_is_err_and c.from_residual.result c.from_residual.ensures.1 in
    let e = c.group-group.ensures in
    rw (p.1, p.2) (judged_is t above _ e (c.is_full.ensures.meant t above H) (c.is_placed.ensures.meant t above H r (numbered _ e)) refl
    ∙ ap (λ (j : Judging). judged_by (judging_of j (repeated above r) (late_of (site_count t above) r)) r) (sym c.early.ensures ∙ c.in_err-early.was))

pub is_seen-requires : goal.is_seen-requires
is_seen-requires g c = passed_by _ c.group-group.ensures (λ k. g.R.Reader.full_at k c.args.reader.now) (λ k. g.R.Reader.placed_at k c.args.reader.now) c.is_full.ensures.told c.is_placed.ensures.told (early_passed _ (sym c.early.ensures ∙ c.in_ok-early.was))

pub returns-then-is_seen-clause-judged : goal.returns-then-is_seen-clause-judged
returns-then-is_seen-clause-judged g c = λ t above H.
    let r = row_data c.args.row.now in
    let e = c.group-group.ensures in
    judged_is t above _ e (c.is_full.ensures.meant t above H) (c.is_placed.ensures.meant t above H r (numbered _ e)) refl
    ∙ ap₂ (λ (j : Judging) (b : Bool). judged_by (judging_of j b (late_of (site_count t above) r)) r) (sym c.early.ensures ∙ c.in_ok-early.was) (sym (c.is_seen.ensures t above H) ∙ c.if-is_seen.true)

pub returns-clause-judged : goal.returns-clause-judged
returns-clause-judged g c = λ t above H.
    let r = row_data c.args.row.now in
    let e = c.group-group.ensures in
    judged_is t above _ e (c.is_full.ensures.meant t above H) (c.is_placed.ensures.meant t above H r (numbered _ e)) (c.size.ensures t above H)
    ∙ ap₂ (λ (j : Judging) (b : Bool). judged_by (judging_of j b (late_of c.size.result r)) r) (sym c.early.ensures ∙ c.in_ok-early.was) (sym (c.is_seen.ensures t above H) ∙ c.if-is_seen.false)
    ∙ ap (λ (j : Judging). judged_by j r) (sym c.late.ensures)

pub returns-clause-passed : goal.returns-clause-passed
returns-clause-passed g c = if_ok c.late.result (passed_by _ c.group-group.ensures (λ k. g.R.Reader.full_at k c.args.reader.now) (λ k. g.R.Reader.placed_at k c.args.reader.now) c.is_full.ensures.told c.is_placed.ensures.told (early_passed _ (sym c.early.ensures ∙ c.in_ok-early.was)))
