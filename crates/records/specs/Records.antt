-- The records of a file, one after another, and their faults.
use Rattle.std.specs.Prelude.{◌≡◌, ℕ, ◌+◌, ◌<◌, ◌≤◌, Bool, true, false, cond, not, ◌||◌, List, length, take, drop, Some, None, Ok, Err, Option, Result, ◌==◌, nat_lt, slice_index, slice_index_or}
use Rattle.std.specs.Borrow.{Bor}
use Rattle.roll.specs.Refusals.{number_of}
use Rattle.roll.specs.declared.refusal.Refusal.{Refusal}
use Rattle.roll.specs.declared.refusal.Refusal.TheVariants.{UnknownKind, ShortRecord, Misplaced, TooLong}
use Rattle.records.specs.declared.reader.Kind.{Kind}
use Rattle.records.specs.declared.reader.Kind.TheVariants.{Heading as HeadingKind, Entry as EntryKind, Strike as StrikeKind, Question as QuestionKind}
use Rattle.records.specs.declared.reader.Record.{Record}
use Rattle.records.specs.declared.reader.Record.TheVariants.{Heading, Entry, Strike, Question as QuestionRecord}
use Rattle.records.specs.declared.reader.Layer.{Layer}
use Rattle.records.specs.declared.reader.Layer.TheVariants.{File, Roll, Question}
use Rattle.records.specs.declared.reader.Fault.{Fault}
use Rattle.records.specs.declared.reader.Reader.{Reader}

-- a record with what its body holds
pub data Rec : Type 0 where
  heading : List ℕ → Rec
  entering : List ℕ → Rec
  striking : List ℕ → Rec
  question : List ℕ → Rec

-- what a record that is read holds
abbrev pub plain : Record → Rec
plain (Heading b) = heading b.now
plain (Entry b) = entering b.now
plain (Strike b) = striking b.now
plain (QuestionRecord b) = question b.now

-- the layer of a refusal: the file for those of its form, else the question or the roll
abbrev pub layer_of : Bool → Refusal → Layer
layer_of asked r = cond (nat_lt 11 (number_of r)) File (cond asked Question Roll)

-- the fault of the record at a place, which is a question or not
abbrev pub fault_of : Bool → ℕ → Refusal → Fault
fault_of asked at r = record { refusal = r; place = at; layer = layer_of asked r }

-- the fault in reading a roll
abbrev pub fault_at : ℕ → Refusal → Fault
fault_at = fault_of false

-- the kind that a kind byte means
abbrev pub kind_of : ℕ → Result Kind Refusal
kind_of k = cond (k == 1) (Ok HeadingKind) (cond (k == 2) (Ok EntryKind) (cond (k == 3) (Ok StrikeKind) (cond (k == 4) (Ok QuestionKind) (Err UnknownKind))))

-- the kind byte of a kind
abbrev pub byte_of : Kind → ℕ
byte_of HeadingKind = 1
byte_of EntryKind = 2
byte_of StrikeKind = 3
byte_of QuestionKind = 4

-- there is a record of this kind
abbrev pub known : ℕ → Bool
known k = k == 1 || k == 2 || k == 3 || k == 4

-- Kept: kinds by their kind byte from here on, since these definitions speak of any bytes, also of those that are no kind.
-- how many bytes the body of a kind has
abbrev pub size_of : ℕ → ℕ
size_of k = cond (k == 1) 1 (cond (k == 2) 36 (cond (k == 3) 4 65))

-- the record of a kind with a body
abbrev pub record_of : ℕ → List ℕ → Rec
record_of k b = cond (k == 1) (heading b) (cond (k == 2) (entering b) (cond (k == 3) (striking b) (question b)))

-- both or neither
abbrev pub same : Bool → Bool → Bool
same true b = b
same false b = not b

-- the record of kind k before the bytes bs; the first is a heading, and no other is
abbrev pub parsed : Bool → ℕ → List ℕ → Result Rec Refusal
parsed first k bs =
    cond (known k)
    (cond (nat_lt (length bs) (size_of k)) (Err ShortRecord)
    (cond (same first (k == 1)) (Ok (record_of k (take (size_of k) bs))) (Err Misplaced)))
    (Err UnknownKind)

-- with the place of the record at fault
abbrev pub located : {X : Type 0} → ℕ → Result X Refusal → Result X Fault
located at (Ok x) = Ok x
located at (Err r) = Err (fault_at at r)

-- an answer that is not the end
abbrev pub some : {X E : Type 0} → Result X E → Result (Option X) E
some (Ok x) = Ok (Some x)
some (Err e) = Err e

-- what the reader answers at a place
abbrev pub next_of : List ℕ → ℕ → Result (Option Rec) Fault
next_of bs at =
    cond (nat_lt 65536 (length bs)) (Err (fault_at 0 TooLong))
    (cond (nat_lt at (length bs)) (some (located at (parsed (at == 0) (slice_index bs at) (drop (at + 1) bs))))
    (cond (at == 0) (Err (fault_at 0 ShortRecord)) (Ok None)))

-- and where it stands then
abbrev pub moved : List ℕ → ℕ → Result (Option Rec) Fault → ℕ
moved bs at (Ok (Some r)) = at + 1 + size_of (slice_index bs at)
moved bs at (Ok None) = at
moved bs at (Err f) = at

-- an answer with what its record holds
abbrev pub told : Result (Option Record) Fault → Result (Option Rec) Fault
told (Ok (Some r)) = Ok (Some (plain r))
told (Ok None) = Ok None
told (Err f) = Err f

-- reading on: the answer r, and how the reader stands then
pub record ReadNext (was : Reader) (r : Result (Option Record) Fault) (is : Reader) : Type 0 where
  pub answer : told r ≡ next_of was.bytes.now was.place
  pub place : is.place ≡ moved was.bytes.now was.place (told r)
  pub file : is.bytes.now ≡ was.bytes.now

-- the reader stands in a file that is not too long
pub record At (is : Reader) : Type 0 where
  pub short : length is.bytes.now ≤ 65536
  pub inside : is.place < length is.bytes.now

-- it stands at a record of kind k
pub record AtKind (is : Reader) (k : ℕ) : Type 0 where
  pub at : At is
  pub kind : slice_index_or is.bytes.now is.place 0 ≡ k

-- the reader stands behind the first record
pub record Behind (is : Reader) : Type 0 where
  pub short : length is.bytes.now ≤ 65536
  pub positive : 0 < is.place
  pub inside : is.place ≤ length is.bytes.now

-- the body of so many bytes before the bytes bs, if the record may stand there
abbrev pub body_of : Bool → ℕ → List ℕ → Result (List ℕ) Refusal
body_of may n bs = cond (nat_lt (length bs) n) (Err ShortRecord) (cond may (Ok (take n bs)) (Err Misplaced))

-- what the body that is read holds
abbrev pub body_told : Result (Bor (List ℕ)) Fault → Result (List ℕ) Fault
body_told (Ok b) = Ok b.now
body_told (Err f) = Err f

-- where the reader stands after a body of so many bytes
abbrev pub behind : {X : Type 0} → ℕ → ℕ → Result X Fault → ℕ
behind at n (Ok x) = at + 1 + n
behind at n (Err f) = at

-- reading the body of a record of kind k
pub record ReadBody (k : ℕ) (was : Reader) (r : Result (Bor (List ℕ)) Fault) (is : Reader) : Type 0 where
  pub answer : body_told r ≡ located was.place (body_of (same (was.place == 0) (k == 1)) (size_of k) (drop (was.place + 1) was.bytes.now))
  pub place : is.place ≡ behind was.place (size_of k) r
  pub file : is.bytes.now ≡ was.bytes.now
