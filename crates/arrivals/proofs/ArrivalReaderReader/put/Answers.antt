use mathlib.Core.Path.{sym, ap, ◌∙◌}
use Rattle.klaim.specs.Reader.{an_arrival}
use Rattle.scan.specs.Tallies.{counted_of}
use Rattle.arrivals.proofs.ArrivalReaderReader.put.Goals as goal

pub returns : goal.returns
returns c = λ t above H.
    let e = c.count.ensures ∙ ap (counted_of c.args.row.now c.args.self.now.lines.count) c.keep.ensures.same.0 in
    record {
      n = H.n;
      text = H.text ∙ ap (an_arrival H.n) (sym c.keep.ensures.same.1);
      counts = rw e (c.keep.ensures.counts H.n above H.counts);
    }
