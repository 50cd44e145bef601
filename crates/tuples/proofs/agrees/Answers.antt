use mathlib.Core.Path.{◌≡◌, sym, ◌∙◌}
use lib.ListN.{length}
use Rattle.std.proofs.Common.{rules, tests}
use Rattle.std.proofs.lemmas.Iterator.{YieldsList-from_slice, YieldsList-from_zip}
use Rattle.std.proofs.lemmas.Iterator.Consumers.{YieldsList-at}
use Rattle.std.proofs.lemmas.Iterator.Search.{all_from_yields_List}
use Rattle.klaim.specs.Analysis.{slot_match}
use Rattle.klaim.specs.Fields.{items}
use Rattle.threads.specs.View.{thread_view}
use Rattle.tuples.proofs.Laws.{Same, pairs_match, agree_other, agree_far, agree_here}
use Rattle.tuples.proofs.agrees.Goals.{then-slots-sites-via-then-slots-sites, then-slots-sites-via-else-slots-sites+then-tuple-value}
use Rattle.tuples.proofs.agrees.Goals as goal

pub returns-then-slots-sites : goal.returns-then-slots-sites
returns-then-slots-sites c =
    let th = thread_view c.args.th.now in
    let ss = items c.args.fields.now in
    let vs = items c.args.tuple.now.fields in
    elim c.then-slots-sites.branch [
      | then-slots-sites-via-then-slots-sites w ↦ agree_other th c.args.target ss c.args.tuple.now.site vs
          (λ e. w.if-slots-sites.true (cc))
      | then-slots-sites-via-else-slots-sites+then-tuple-value w ↦
          agree_far th c.args.target ss c.args.tuple.now.site vs (λ e. w.if-tuple-value.true (e ∙ sym w.value.ensures))
    ]

pub returns : goal.returns
returns c =
    let th = thread_view c.args.th.now in
    let ss = items c.args.fields.now in
    let vs = items c.args.tuple.now.fields in
    let long : length ss ≡ length vs = cc in
    let slots = YieldsList-from_slice ss (c.iter.ensures.rest ∙ c.as_slice-slots.ensures.value) in
    let sites = YieldsList-from_slice vs (c.zip.ensures.second.0 ∙ c.as_slice-sites.ensures.value) in
    let pairs = YieldsList-from_zip (YieldsList-at c.zip.ensures.first slots) sites in
    all_from_yields_List (λ p. slot_match (Same th) p.0 p.1) c.all.new.self _ c.all.result c.all.ensures.ran pairs (λ x b q k. search (rules, tests))
    ∙ pairs_match (Same th) ss vs long
    ∙ agree_here th c.args.target ss c.args.tuple.now.site vs (c.if-tuple-value.false ∙ c.value.ensures)
