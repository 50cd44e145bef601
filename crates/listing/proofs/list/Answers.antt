use borrow.Author.Rules.{rules}
use Rattle.parts.proofs.Parts.{front_long}
use Rattle.writer.proofs.Wrote.{wrote_as}
use Rattle.checker.proofs.Laws.{sound}
use Rattle.listing.proofs.Reading.{list_long, list_parts, row_low, part_net, part_estimate, take_short, behind_short}
use Rattle.listing.proofs.list.Goals as goal

pub returns-then-input-gt-INPUT-clause-wrote : goal.returns-then-input-gt-INPUT-clause-wrote
returns-then-input-gt-INPUT-clause-wrote c = wrote_as (list_long _ c.if-input-gt-INPUT.true) (rw c.from.ensures at c.put_refusal.ensures.wrote)

pub slice_bounds-read_both-end : goal.slice_bounds-read_both-end
slice_bounds-read_both-end c = front_long _ _ c.before-n.ensures

pub list_read-requires : goal.list_read-requires
list_read-requires c = (sound _ _ c.in-Ok.w c.in-Ok.ensures, search rules)

pub returns-in-Ok-clause-wrote : goal.returns-in-Ok-clause-wrote
returns-in-Ok-clause-wrote c = wrote_as (list_parts c.args.input.now c.if-input-gt-INPUT.false c.in-Ok.ensures (part_net _ _ c.before-n.ensures) (part_estimate _ _ c.behind-from.ensures.1)) c.list_read.ensures.wrote

pub put_refusal-requires-in-Err : goal.put_refusal-requires-in-Err
put_refusal-requires-in-Err c = (row_low c.args.input.now _ _ _ c.in-Err.refusal.row c.if-input-gt-INPUT.false (take_short c.before-n.result c.args.input.now) (behind_short c.behind-from.result c.args.input.now) c.in-Err.ensures, search rules)

pub returns-in-Err-clause-wrote : goal.returns-in-Err-clause-wrote
returns-in-Err-clause-wrote c = wrote_as (list_parts c.args.input.now c.if-input-gt-INPUT.false c.in-Err.ensures (part_net _ _ c.before-n.ensures) (part_estimate _ _ c.behind-from.ensures.1)) c.put_refusal-in-Err.ensures.wrote
