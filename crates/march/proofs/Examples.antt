-- The nine examples, by computation.
-- Assumes nothing.
use mathlib.Core.Path.{refl}
use Rattle.sets.specs.Lists
use Rattle.sets.specs.Bits
use Rattle.klaim.specs.Process
use Rattle.klaim.specs.Rows
use Rattle.klaim.specs.Net
use Rattle.klaim.specs.Reader
use Rattle.klaim.specs.Analysis
use Rattle.klaim.specs.Report
use Rattle.klaim.specs.Listing
use Rattle.march.specs.Examples

pub examples : Examples.Statement
unfolding Lists.◌&◌ Lists.either Lists.imp Lists.◌⧺◌ Lists.all Lists.any Lists.only Lists.keep Lists.splice Lists.empty Lists.table_from Lists.table Lists.sum Lists.concat Lists.below Lists.same Lists.among Lists.count Bits.has Bits.sites Bits.join Bits.meet Bits.less Bits.within Bits.grant Bits.joins Bits.meets Bits.size Process.children Process.boxes_of Process.slots_of Process.template Process.sites_in Process.used_in Process.bound_in Process.clash Process.node Process.trees Process.tree Process.ordered_from Process.ordered Process.without Process.free Process.move Rows.text Rows.pieces_after Rows.split Rows.◌>>=◌ Rows.given Rows.otherwise Rows.each Rows.digit Rows.decimal Rows.number Rows.lettered Rows.site_field Rows.var_field Rows.is_self Rows.right_of Rows.rights_after Rows.rights_field Rows.box_rights_field Rows.loc_field Rows.bind_field Rows.is_wildcard Rows.slot_field Rows.fields Rows.row_n Rows.row_pair Rows.towards Rows.row_d Rows.row_tuple Rows.row_l Rows.row_b Rows.line_nil Rows.line_par Rows.line_rep Rows.line_out Rows.line_get Rows.line_eval Rows.line_accept Rows.line_form Rows.row_line Rows.row_q Rows.row_form Rows.row_of Rows.rows_from Rows.rows_of Net.home Net.box Net.box_self Net.box_at Net.may Net.holds Reader.and_then Reader.in_limits Reader.of_group Reader.present Reader.full Reader.over Reader.headed Reader.own Reader.in_order Reader.key Reader.repeated Reader.misplaced Reader.size_of Reader.site_count Reader.absent Reader.judge Reader.scan Reader.read_rows Reader.in_turn Reader.named_once Reader.roots_closed Reader.whole Reader.gather Reader.pair_place Reader.box_place Reader.silent_boxes Reader.put_boxes Reader.root_of Reader.numbers_of Reader.lines_of Reader.net_of Reader.estimate_of Reader.whole_net Reader.read_net Reader.read_estimate Reader.read_arrival Reader.read_both Analysis.reach Analysis.place_set Analysis.slot_match Analysis.matches Analysis.choices Analysis.first_not Analysis.lesser Analysis.least Analysis.stands Analysis.out_rule Analysis.bound Analysis.get_rule Analysis.eval_rule Analysis.broken Analysis.broken_tuple Analysis.broken_line Analysis.verdict_of Analysis.verdict Report.sure Report.uses Report.eval_adds Report.adds Report.root_adds Report.hold_adds Report.report_at Report.report Report.adds_nothing Report.door Listing.digits Listing.numeral Listing.letter Listing.letters Listing.site_name Listing.tail Listing.row Listing.reported Listing.row_v Listing.rows_v Listing.home_count Listing.usable Listing.used_count Listing.even_of Listing.nearest Listing.share Listing.row_u Listing.list_verdict Listing.list_read Listing.before Listing.net_part Listing.estimate_part Listing.listing Examples.bytes Examples.but Examples.policies Examples.others Examples.estimate Examples.march Examples.unused Examples.inputs Examples.listings
examples = refl
