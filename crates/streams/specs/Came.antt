-- How many bytes a reading gave.
-- Assumes nothing.
use Rattle.std.specs.Prelude.{ℕ, Result, Ok, Err}
use Rattle.streams.specs.declared.Broken.{Broken}

-- those of the whole reading, or those that came before it failed
abbrev pub came : Result ℕ Broken → ℕ
came (Ok n) = n
came (Err broken) = broken.count
