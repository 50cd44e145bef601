-- The refusals of documents 01 and 02: their numbers, and the answer of a call that may be refused.
-- Assumes nothing.
use Rattle.std.specs.Prelude.{ℕ, Result, Ok, Err}
use Rattle.klaim.specs.Reader.{Answer, refused, gives}
use Rattle.klaim.specs.declared.Reason.{Reason}
use Rattle.klaim.specs.declared.Reason.TheVariants.{Form, Limit, Place, Site, Turn, Naming, Clash, Free, Buffer, Thread, Tuple, Agreement, Arrival, Door, Right, Room, Newest, Occupied}
use Rattle.klaim.specs.declared.Refusal.{Refusal}

-- "A refusal returns its number"
abbrev pub number_of : Reason → ℕ
number_of Form = 1
number_of Limit = 2
number_of Place = 3
number_of Site = 4
number_of Turn = 5
number_of Naming = 6
number_of Clash = 7
number_of Free = 8
number_of Buffer = 9
number_of Thread = 21
number_of Tuple = 22
number_of Agreement = 23
number_of Arrival = 24
number_of Door = 25
number_of Right = 26
number_of Room = 27
number_of Newest = 35
number_of Occupied = 36

-- what a call answers, seen by `view`: "its number, and its row for 1 to 4 and 7"
abbrev pub answer_of : {A B : Type 0} → (A → B) → Result A Refusal → Answer B
answer_of view (Ok x) = gives (view x)
answer_of view (Err e) = refused (number_of e.why) e.row
