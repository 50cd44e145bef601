use Prim.Native.Nat.{◌<◌}
use lib.Count.{ones-le}
use Rattle.matching.proofs.Index.{sites_ones}
use borrow.Author.Rules.{rules}
use Rattle.matching.proofs.count_sites.Goals as goal

pub returns : goal.returns
returns c = let low : c.args.set < 4294967296 = search rules in (sites_ones c.args.set low, ones-le 32 c.args.set low)
