use mathlib.Core.Path.{sym, ap, ◌∙◌}
use mathlib.Core.Bool.{Bool}
use Rattle.std.proofs.Common.{rules, tests}
use Rattle.std.proofs.lemmas.Iterator.{YieldsList-from_slice}
use Rattle.std.proofs.lemmas.Iterator.Search.{any_from_yields_List}
use Rattle.sets.specs.Lists.{any, ◌&◌}
use Rattle.tables.specs.declared.Root.{Root}
use Rattle.tables.specs.Entries.{entries}
use Rattle.tables.specs.View.{root_view, no_root, root_at, roots_of}
use Rattle.tables.proofs.Entries.{viewed_map}
use Rattle.repeats.specs.Kept.{root_same}
use Rattle.repeats.proofs.Marks.{any_map}
use Rattle.repeats.proofs.Keys.{any_list}
use Rattle.repeats.proofs.has_root.Goals as goal

pub returns : goal.returns
unfolding roots_of root_at root_same ◌&◌
returns c =
    let p : Root → Bool = λ x. root_same c.args.s c.args.q (root_view x) in
    let xs = entries c.args.roots.now in
    any_from_yields_List p _ _ _ c.any.ensures.ran (YieldsList-from_slice c.as_slice.result.now c.iter.ensures.rest) (λ x b q k. search (rules, tests))
    ∙ any_list p c.as_slice.result.now
    ∙ ap (any p) c.as_slice.ensures
    ∙ sym (ap (any (root_same c.args.s c.args.q)) (viewed_map root_view no_root c.args.roots.now) ∙ any_map (root_same c.args.s c.args.q) root_view xs)
