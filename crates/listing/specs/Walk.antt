-- Going through the records of a file: what is left of its lines.
use Rattle.std.specs.Prelude.{◌≡◌, ℕ, ◌<◌, List, [], length, drop, Some, None, Ok, Err, Option, Result}
use Rattle.crossed.specs.declared.asked.Question.{Question}
use Rattle.crossed.specs.Rolls.{standing, room_of}
use Rattle.crossing.specs.Asking.{asking}
use Rattle.records.specs.declared.reader.Fault.{Fault}
use Rattle.records.specs.declared.reader.Record.{Record}
use Rattle.records.specs.Records.{Rec, plain}
use Rattle.listing.specs.declared.walk.Walk.{Walk}
use Rattle.listing.specs.Listing.{question_in, record_lines, asked_so_far, before, lines, lines_of}

-- the lines of the records that are left, after k questions, with a table of so many values
abbrev pub lines_left : ℕ → Walk → ℕ → Result (List ℕ) Fault
lines_left table w k = lines w.roll.columns (room_of w.roll) table (drop w.reader.place w.reader.bytes.now) (standing w.roll) k 0 w.reader.place

-- a file is opened over so many cells: all its lines are left, or its heading is at fault
abbrev pub Opens : ℕ → List ℕ → Result Walk Fault → Type 0
Opens room file (Ok w) = (table : ℕ) → lines_left table w 0 ≡ lines_of room table file
Opens room file (Err f) = (table : ℕ) → Err f ≡ lines_of room table file

-- a record is read and tried, and is not at fault: its lines come before those that are left then
pub record Takes (table : ℕ) (was : Walk) (rec : Rec) (is : Walk) : Type 0 where
  pub file : is.reader.bytes.now ≡ was.reader.bytes.now
  pub place : was.reader.place < is.reader.place
  pub lines : (k : ℕ) → lines_left table was k ≡ before (record_lines k (standing is.roll) rec) (lines_left table is (asked_so_far k rec))
  pub accepted : (q : Question) → Some q ≡ question_in rec → asking is.roll.columns (length (standing is.roll)) q table ≡ Ok tt

-- a step through the records: a record, the end of the file, or the first fault of those that are left
abbrev pub Steps : ℕ → Walk → Result (Option Record) Fault → Walk → Type 0
Steps table was (Ok (Some item)) is = Takes table was (plain item) is
Steps table was (Ok None) is = (k : ℕ) → lines_left table was k ≡ Ok []
Steps table was (Err f) is = (k : ℕ) → lines_left table was k ≡ Err f
