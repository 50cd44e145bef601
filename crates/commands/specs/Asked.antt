-- What an input asks next.
-- Assumes nothing.
use Rattle.std.specs.Prelude.{◌≡◌, Option, None, Result, Ok, Err}
use Rattle.std.specs.declared.io.Error.{Error}
use Rattle.script_rows.specs.declared.Window.{Window}
use Rattle.script_rows.specs.declared.Find.TheVariants.{End, Failed}
use Rattle.commands.specs.declared.Command.{Command}

-- a run ends where the input has ended or a read failed, and nowhere else; where a read failed, what had come is neither a command nor
-- the end of the input
pub record Stops (w : Window) (asked : Result (Option Command) Error) : Type 0 where
  pub failed : (why : Error) → w.found ≡ Failed why → asked ≡ Err why
  pub only_failed : (why : Error) → asked ≡ Err why → w.found ≡ Failed why
  pub only_ended : asked ≡ Ok None → w.found ≡ End
