-- The listing of a file, by definition: the line of its first fault, or the lines of its questions, each put to the roll as it
-- then stands.
use Rattle.std.specs.Prelude.{◌≡◌, ℕ, zero, suc, ◌+◌, ◌-◌, Bool, true, false, cond, List, [], ◌∷◌, ◌++◌, map, length, take, drop, ℤ, pos, negsuc, Some, None, Ok, Err, Option, Result, nat_le, slice_index}
use Rattle.std.specs.List.{flat_map}
use Rattle.sets.specs.Crossed.{crossed}
use Rattle.sets.specs.Trace.{Trace, somes}
use Rattle.roll.specs.Refusals.{number_of}
use Rattle.roll.specs.declared.refusal.Refusal.{Refusal}
use Rattle.crossing.specs.Asking.{asking}
use Rattle.crossed.specs.Books.{if_ok}
use Rattle.crossed.specs.declared.asked.Question.{Question}
use Rattle.crossed.specs.declared.entries.Columns.{Columns}
use Rattle.crossed.specs.Entries.{Entry, row_of}
use Rattle.records.specs.Bytes.{asked_of}
use Rattle.rollfile.specs.Files.{then, applied, opened}
use Rattle.rollfile.specs.Writing.{written, output_after}
use Rattle.crossed.specs.Rolls.{standing, room_of}
use Rattle.crossed.specs.declared.rolls.Roll.{Roll}
use Rattle.records.specs.Records.{Rec, heading, entering, striking, question, size_of, parsed, located, fault_of}
use Rattle.records.specs.declared.reader.Fault.{Fault}
use Rattle.listing.specs.Text.{line}

-- what the search of a question has to come where xs stand
abbrev pub coming : List Entry → Question → Trace
coming xs q = crossed 3 (map (λ e. row_of e.value) xs) (row_of q.band.low) (row_of q.band.high) q.size

-- the numbers of the entries at the places of a set
abbrev pub numbers : List Entry → List ℕ → List ℕ
numbers xs ps = map (λ p. slice_index (map (λ e. e.number) xs) (p - 1)) ps

-- how many steps a question may take
abbrev pub most_steps : ℕ
most_steps = 100000

-- the line of a set: `S` and the numbers of its entries
abbrev pub set_line : List Entry → List ℕ → List ℕ
set_line xs ps = line 83 (numbers xs ps)

-- a line for each set found within so many steps, then `F` if no space is left, or `P` if the steps are spent
abbrev pub lines_within : ℕ → List Entry → Trace → List ℕ
lines_within steps xs t = flat_map (set_line xs) (somes (take steps t)) ++ line (cond (nat_le (length t) steps) 70 80) []

-- a line for each set found within the steps of a question, then `F` if no space is left, or `P` if the steps are spent
abbrev pub sets_lines : List Entry → Trace → List ℕ
sets_lines xs t = flat_map (λ s. line 83 (numbers xs s)) (somes (take most_steps t)) ++ line (cond (nat_le (length t) most_steps) 70 80) []

-- `Q`, the ordinal and the size, then the lines of its sets
abbrev pub question_lines : ℕ → List Entry → Question → List ℕ
question_lines k xs q = line 81 (k ∷ q.size ∷ []) ++ sets_lines xs (coming xs q)

-- what a record makes of what stands, with the test of a question and a table of so many values
abbrev pub tried : Columns → ℕ → ℕ → List Entry → Rec → Result (List Entry) Refusal
tried d room table xs (heading b) = Ok xs
tried d room table xs (entering b) = applied d room xs (entering b)
tried d room table xs (striking b) = applied d room xs (striking b)
tried d room table xs (question b) = if_ok (asking d (length xs) (asked_of b) table) xs

-- the question that a record asks, if it asks one
abbrev pub question_in : Rec → Option Question
question_in (heading b) = None
question_in (entering b) = None
question_in (striking b) = None
question_in (question b) = Some (asked_of b)

abbrev pub is_question : Rec → Bool
is_question (heading b) = false
is_question (entering b) = false
is_question (striking b) = false
is_question (question b) = true

-- with the place of the record at fault, and its layer
abbrev pub faulted : {X : Type 0} → Bool → ℕ → Result X Refusal → Result X Fault
faulted asked at (Ok x) = Ok x
faulted asked at (Err r) = Err (fault_of asked at r)

-- the lines of a record that is read where xs stand, after k questions; only a question has any
abbrev pub record_lines : ℕ → List Entry → Rec → List ℕ
record_lines k xs (heading b) = []
record_lines k xs (entering b) = []
record_lines k xs (striking b) = []
record_lines k xs (question b) = question_lines (suc k) xs (asked_of b)

abbrev pub asked_so_far : ℕ → Rec → ℕ
asked_so_far k r = cond (is_question r) (suc k) k

abbrev pub before : {E : Type 0} → List ℕ → Result (List ℕ) E → Result (List ℕ) E
before bs (Ok cs) = Ok (bs ++ cs)
before bs (Err e) = Err e

-- the lines of the records after the heading, of which the first begins after so many bytes, where xs stand after k questions
abbrev pub lines : Columns → ℕ → ℕ → List ℕ → List Entry → ℕ → ℕ → ℕ → Result (List ℕ) Fault
lines d room table [] xs k skip at = Ok []
lines d room table (b ∷ bs) xs k (suc skip) at = lines d room table bs xs k skip (at + 1)
lines d room table (b ∷ bs) xs k zero at =
    then (located at (parsed false b bs)) (λ r. then (faulted (is_question r) at (tried d room table xs r)) (λ ys. before (record_lines k xs r) (lines d room table bs ys (asked_so_far k r) (size_of b) (at + 1))))

-- the line of a fault: `R`, the refusal's number and the record's place
abbrev pub listed : Result (List ℕ) Fault → List ℕ
listed (Ok bs) = bs
listed (Err f) = line 82 (number_of f.refusal ∷ f.place ∷ [])

-- the lines of a file, or its first fault, with a roll of so many cells and a table of so many values
abbrev pub lines_of : ℕ → ℕ → List ℕ → Result (List ℕ) Fault
lines_of room table file = then (opened file) (λ d. lines d room table (drop 2 file) [] 0 0 2)

-- the listing of a file
abbrev pub listing : ℕ → ℕ → List ℕ → List ℕ
listing room table file = listed (then (opened file) (λ d. lines d room table (drop 2 file) [] 0 0 2))

-- whether there is a fault
abbrev pub fault_in : Result (List ℕ) Fault → Result (Unit {0}) Fault
fault_in (Ok bs) = Ok tt
fault_in (Err f) = Err f

-- a record is tried on a roll, with a table of so many values: the answer r, and how the roll is then
pub record Tried (was : Roll) (table : ℕ) (rec : Rec) (r : Result (Unit {0}) Refusal) (is : Roll) : Type 0 where
  pub answer : if_ok r (standing is) ≡ tried was.columns (room_of was) table (standing was) rec
  pub columns : is.columns ≡ was.columns
  pub room : room_of is ≡ room_of was

-- the listing of a file is written, over a roll of 120 cells and a table of 1,600 values: its length, or that it does not fit,
-- and what stands in the output then
pub record ListsFile (file out : List ℕ) (r : Result ℕ Refusal) (after : List ℕ) : Type 0 where
  pub answer : r ≡ written out (listing 120 1600 file)
  pub output : after ≡ output_after out (listing 120 1600 file)

-- the same, told as a number: the length of the listing, or the negative of the refusal's number
abbrev pub as_number : Result ℕ Refusal → ℤ
as_number (Ok n) = pos n
as_number (Err e) = negsuc (number_of e - 1)

pub record TellsFile (file out : List ℕ) (r : ℤ) (after : List ℕ) : Type 0 where
  pub answer : r ≡ as_number (written out (listing 120 1600 file))
  pub output : after ≡ output_after out (listing 120 1600 file)
