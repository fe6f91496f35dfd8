-- A roll as a file: what reading makes of bytes, and what is written.
use Rattle.std.specs.Prelude.{◌≡◌, ℕ, zero, suc, ◌+◌, true, false, List, [], ◌∷◌, ◌++◌, drop, replicate, is_ok, Some, None, Ok, Err, Option, Result, slice_index}
use Rattle.std.specs.List.{flat_map}
use Rattle.roll.specs.declared.refusal.Refusal.{Refusal}
use Rattle.crossed.specs.Entries.{Entry}
use Rattle.crossed.specs.declared.entries.Columns.{Columns}
use Rattle.crossed.specs.declared.entries.Columns.TheVariants.{One}
use Rattle.crossed.specs.declared.rolls.Roll.{Roll}
use Rattle.crossed.specs.Entries.{columns_of, zero_entry}
use Rattle.crossed.specs.Books.{put, without, enters, strikes, if_ok}
use Rattle.crossed.specs.Rolls.{standing, room_of, memory_of}
use Rattle.records.specs.declared.reader.Fault.{Fault}
use Rattle.records.specs.declared.reader.Reader.{Reader}
use Rattle.records.specs.Bytes.{of4, entry_of, entry_bytes, heading_bytes}
use Rattle.records.specs.Records.{Rec, heading, entering, striking, question, size_of, parsed, located, next_of, Behind}

-- one step after another, up to the first fault
abbrev pub then : {X Y E : Type 0} → Result X E → (X → Result Y E) → Result Y E
then (Ok x) f = f x
then (Err e) f = Err e

-- what a record makes of what stands; a question changes nothing
abbrev pub applied : Columns → ℕ → List Entry → Rec → Result (List Entry) Refusal
applied d room xs (heading b) = Ok xs
applied d room xs (entering b) = if_ok (enters d room xs (entry_of b)) (put (entry_of b) xs)
applied d room xs (striking b) = if_ok (strikes xs (of4 b 0)) (without (of4 b 0) xs)
applied d room xs (question b) = Ok xs

-- the record of kind k at a place, before the bytes bs
abbrev pub stepped : Columns → ℕ → List Entry → ℕ → ℕ → List ℕ → Result (List Entry) Fault
stepped d room xs at k bs = then (located at (parsed false k bs)) (λ r. located at (applied d room xs r))

-- what a file gives: the columns, and what stands
abbrev pub Outcome : Type 0
Outcome = Result (Columns × List Entry) Fault

-- the records after the heading, of which the first begins after so many bytes
abbrev pub run : Columns → ℕ → List ℕ → List Entry → ℕ → ℕ → Outcome
run d room [] xs skip at = Ok (d, xs)
run d room (b ∷ bs) xs (suc skip) at = run d room bs xs skip (at + 1)
run d room (b ∷ bs) xs zero at = then (stepped d room xs at b bs) (λ ys. run d room bs ys (size_of b) (at + 1))

-- the columns that the first record says; only a heading comes first
abbrev pub headed : Option Rec → Result Columns Fault
headed None = Ok One
headed (Some (heading b)) = located 0 (columns_of (slice_index b 0))
headed (Some (entering b)) = Ok One
headed (Some (striking b)) = Ok One
headed (Some (question b)) = Ok One

-- the columns that a file says
abbrev pub opened : List ℕ → Result Columns Fault
opened bs = then (next_of bs 0) headed

-- what a file gives where there are so many cells, or its fault
abbrev pub reads : List ℕ → ℕ → Outcome
reads bs room = then (opened bs) (λ d. run d room (drop 2 bs) [] 0 2)

-- the file of a roll: the heading, then the entries in place order
abbrev pub writes : Columns → List Entry → List ℕ
writes d xs = heading_bytes d ++ flat_map entry_bytes xs

-- the columns of the roll that is read; after a fault one
abbrev pub columns_read : Outcome → Columns
columns_read (Ok p) = p.0
columns_read (Err f) = One

-- what stands on it; after a fault nothing
abbrev pub entries_read : Outcome → List Entry
entries_read (Ok p) = p.1
entries_read (Err f) = []

-- the fault, or none
abbrev pub fault_read : Outcome → Result (Unit {0}) Fault
fault_read (Ok p) = Ok tt
fault_read (Err f) = Err f

-- after a fault each of so many cells is zero
abbrev pub ZeroAfterFault : Outcome → ℕ → List Entry → Type 0
ZeroAfterFault (Ok p) n cells = Unit {0}
ZeroAfterFault (Err f) n cells = cells ≡ replicate n zero_entry

-- what a roll holds, unless there is a fault
abbrev pub holds : Result (Unit {0}) Fault → Roll → Outcome
holds (Ok u) r = Ok (r.columns, standing r)
holds (Err f) r = Err f

-- one record is applied to a roll
pub record Applied (was : Roll) (rec : Rec) (r : Result (Unit {0}) Refusal) (is : Roll) : Type 0 where
  pub answer : if_ok r (standing is) ≡ applied was.columns (room_of was) (standing was) rec
  pub columns : is.columns ≡ was.columns
  pub room : room_of is ≡ room_of was

-- the heading is read: the columns, and how the reader stands then
pub record Started (was : Reader) (r : Result Columns Fault) (is : Reader) : Type 0 where
  pub answer : r ≡ opened was.bytes.now
  pub behind : is_ok r ≡ true → Behind is × (is.place ≡ 2)
  pub file : is.bytes.now ≡ was.bytes.now

-- the records from a reader's place on are applied to a roll
pub record Ran (reader : Reader) (was : Roll) (r : Result (Unit {0}) Fault) (is : Roll) : Type 0 where
  pub answer : holds r is ≡ run was.columns (room_of was) (drop reader.place reader.bytes.now) (standing was) 0 reader.place
  pub room : room_of is ≡ room_of was

-- a roll is read from a file, up to the first fault
pub record Loaded (bs : List ℕ) (was : Roll) (r : Result (Unit {0}) Fault) (is : Roll) : Type 0 where
  pub answer : holds r is ≡ reads bs (room_of was)
  pub room : room_of is ≡ room_of was

-- a roll is read from a file, or cleared after a fault
pub record Filled (bs : List ℕ) (was : Roll) (r : Result (Unit {0}) Fault) (is : Roll) : Type 0 where
  pub answer : r ≡ fault_read (reads bs (room_of was))
  pub columns : is.columns ≡ columns_read (reads bs (room_of was))
  pub stands : standing is ≡ entries_read (reads bs (room_of was))
  pub room : room_of is ≡ room_of was
  pub memory : ZeroAfterFault (reads bs (room_of was)) (room_of was) (memory_of is)

-- a file is tested with so many cells
pub record Checked (bs : List ℕ) (n : ℕ) (r : Result (Unit {0}) Fault) (cells : List Entry) : Type 0 where
  pub answer : r ≡ fault_read (reads bs n)
  pub memory : ZeroAfterFault (reads bs n) n cells

-- the roll that a file gives over so many cells
pub record Read (bs : List ℕ) (n : ℕ) (is : Roll) : Type 0 where
  pub columns : is.columns ≡ columns_read (reads bs n)
  pub stands : standing is ≡ entries_read (reads bs n)
  pub room : room_of is ≡ n
  pub memory : ZeroAfterFault (reads bs n) n (memory_of is)
