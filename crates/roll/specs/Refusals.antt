-- The refusals by number.
use Rattle.std.specs.Prelude.{ℕ}
use Rattle.roll.specs.declared.refusal.Refusal.{Refusal}
use Rattle.roll.specs.declared.refusal.Refusal.TheVariants.{Inadmissible, NumberTaken, RollFull, Incomparable, NumberUnknown, BadSize, BadBand, ShortTable, ShortPage, BadColumns, PastColumns, UnknownKind, ShortRecord, Misplaced, TooLong}

abbrev pub number_of : Refusal → ℕ
number_of Inadmissible = 1
number_of NumberTaken = 2
number_of RollFull = 3
number_of Incomparable = 4
number_of NumberUnknown = 5
number_of BadSize = 6
number_of BadBand = 7
number_of ShortTable = 8
number_of ShortPage = 9
number_of BadColumns = 10
number_of PastColumns = 11
number_of UnknownKind = 12
number_of ShortRecord = 13
number_of Misplaced = 14
number_of TooLong = 15
