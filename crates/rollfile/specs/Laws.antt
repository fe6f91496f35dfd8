-- What is written is read again.
use Rattle.std.specs.Prelude.{◌≡◌, ℕ, ◌^◌, ◌<◌, ◌≤◌, List, length, Ok, FitsSigned}
use Rattle.std.specs.Int.{w64}
use Rattle.std.specs.List.{AllByRecursion}
use Rattle.crossed.specs.Entries.{Entry}
use Rattle.crossed.specs.declared.entries.Columns.{Columns}
use Rattle.crossed.specs.Entries.{columns_of, count_of}
use Rattle.crossed.specs.Reachable.{Reachable}
use Rattle.records.specs.Bytes.{entry_of, entry_body}
use Rattle.rollfile.specs.Files.{reads, writes}

-- an entry that its fields can hold
pub record Fitting (e : Entry) : Type 0 where
  pub number : e.number < 2 ^ 32
  pub first : FitsSigned w64 e.value.first
  pub second : FitsSigned w64 e.value.second
  pub third : FitsSigned w64 e.value.third
  pub fourth : FitsSigned w64 e.value.fourth

-- the body of an entry says that entry
abbrev pub EntriesBack : Type 0
EntriesBack = (e : Entry) → Fitting e → entry_of (entry_body e) ≡ e

-- every body of 36 bytes is that of the entry it says
abbrev pub BodiesBack : Type 0
BodiesBack = (bs : List ℕ) → length bs ≡ 36 → AllByRecursion (λ b. b < 256) bs → entry_body (entry_of bs) ≡ bs

-- the number of columns says the columns, and no other number does
abbrev pub ColumnsBack : Type 0
ColumnsBack = ((d : Columns) → columns_of (count_of d) ≡ Ok d) × ((n : ℕ) (d : Columns) → columns_of n ≡ Ok d → count_of d ≡ n)

-- reading what was written gives the roll again, wherever there is room for it
abbrev pub RoundTrip : Type 0
RoundTrip = (d : Columns) (xs : List Entry) → Reachable d xs → (room : ℕ) → length xs ≤ room → reads (writes d xs) room ≡ Ok (d, xs)

-- and writing that gives the same bytes
abbrev pub SameBytes : Type 0
SameBytes = (d : Columns) (xs : List Entry) → Reachable d xs → (room : ℕ) → length xs ≤ room → (d' : Columns) (ys : List Entry) → reads (writes d xs) room ≡ Ok (d', ys) → writes d' ys ≡ writes d xs
