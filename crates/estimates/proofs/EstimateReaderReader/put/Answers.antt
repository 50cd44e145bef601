use mathlib.Core.Path.{sym, ap, subst, ◌∙◌}
use mathlib.Core.List.{[], ◌∷◌, ◌++◌}
use Rattle.forms.specs.Forms.{row_data}
use Rattle.scan.specs.Tallies.{counted_of}
use Rattle.estimates.specs.Rows.{EstimateTally}
use Rattle.estimates.proofs.Rows.{tally_more, recounted}
use Rattle.estimates.proofs.EstimateReaderReader.put.Goals as goal

pub returns : goal.returns
returns c = λ t above H.
    let row = c.args.row.now in
    let e = c.count.ensures ∙ ap (counted_of row 0) c.keep.ensures.tally_same in
    record {
      n = H.n;
      text = H.text;
      tables = recounted (c.keep.ensures.tables above H.tables);
      counts = subst (EstimateTally H.n (above ++ (row_data row ∷ []))) (sym e) (tally_more H.n above c.args.self.now H.counts row c.requires);
    }
