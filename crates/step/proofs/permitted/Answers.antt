use mathlib.Core.Path.{◌≡◌}
use native.Mathlib.Omega.{arith}
use borrow.Author.Rules.{rules}
use lib.ListN.{length}
use Rattle.tables.specs.View.{net_view}
use Rattle.step.proofs.Laws.{permits_past}
use Rattle.step.proofs.permitted.Goals as goal

pub returns : goal.returns
returns c =
    let long : length c.args.th.policy ≡ 32 = search rules in
    permits_past (net_view c.args.net.now) _ _ _ (omega (arith, c.if-from-lt-SITES.false, c.from.ensures, long)) c.requires.1
