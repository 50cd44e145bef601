use mathlib.Core.Path.{refl}
use Rattle.sets.specs.Lists.{◌⧺◌, only, keep, concat, table, table_from}
use Rattle.sets.specs.Bits.{has}
use Rattle.klaim.specs.Listing.{letter, letters}
use Rattle.writer.specs.Letters.{padded, letter_table}
use Rattle.writer.proofs.letter_table.Goals as goal

-- the rule of the table, over all its entries at once, by computing
pub returns : goal.returns
unfolding letter_table table table_from padded ◌⧺◌ letters concat keep only has letter
returns c = refl
