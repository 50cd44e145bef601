use borrow.Author.Rules.{rules}
use mathlib.Core.Path.{sym, ap, ◌∙◌}
use mathlib.Core.List.{List}
use Prim.Native.Nat.{ℕ}
use lib.Pointwise.{pointwise}
use Rattle.std.specs.Prelude.{nat_eq}
use Rattle.std.specs.Cmp.Lexicographic.{same_text}
use Rattle.std.proofs.lemmas.Cmp.{nat_list_eq_equiv}
use Rattle.matching.specs.Index.{in_rows}
use Rattle.matching.proofs.Index.{words_same}
use Rattle.matching.proofs.same_rows.Goals as goal

pub returns : goal.returns
returns c =
    let x = c.args.x.words in
    let y = c.args.y.words in
    (λ t i h. ap (λ (r : List ℕ). in_rows r i) (same_text x y (sym t ∙ c.eq.ensures)), λ h. c.eq.ensures ∙ ap (pointwise nat_eq x) (sym (words_same x y (search (rules, c.well_formed)) (search (rules, c.well_formed)) (λ w l. search (rules, c.well_formed)) (λ w l. search (rules, c.well_formed)) h)) ∙ nat_list_eq_equiv.refl x)
