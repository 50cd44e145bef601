use mathlib.Core.Path.{sym, ap, subst, ◌∙◌}
use mathlib.Core.List.{[], ◌∷◌, ◌++◌}
use Rattle.forms.specs.Forms.{row_data}
use Rattle.scan.specs.Tallies.{counted_of}
use Rattle.nets.specs.Rows.{NetTally}
use Rattle.nets.proofs.Rows.{size_few, tally_more, recounted}
use Rattle.nets.proofs.NetReaderReader.put.Goals as goal

pub invariant_of-self : goal.invariant_of-self
invariant_of-self c = record {
  keyed = c.keep.new.self.keyed;
  size_few = rw (c.count.ensures, c.keep.ensures.tally_same) (size_few _ _ _ c.requires.low c.args.self.now.size_few);
}

pub returns : goal.returns
returns c = λ t above H.
    let row = c.args.row.now in
    let e = c.count.ensures ∙ ap (counted_of row c.args.self.now.lines.count) c.keep.ensures.tally_same in
    record {
      text = H.text;
      tables = recounted (c.keep.ensures.tables above H.tables);
      counts = subst (NetTally (above ++ (row_data row ∷ []))) (sym e) (tally_more row H.tables H.counts c.requires);
    }
