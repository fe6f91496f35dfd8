-- Numbers and entries as bytes: the high byte first, amounts in two's complement.
use Rattle.std.specs.Prelude.{ℕ, ◌+◌, ◌*◌, ◌/◌, ◌%◌, List, [], ◌∷◌, ◌++◌, ℤ, slice_index}
use Rattle.std.specs.Int.{w64}
use Rattle.std.proofs.Common.{to_z, of_z}
use Rattle.crossed.specs.declared.entries.Amounts.{Amounts}
use Rattle.crossed.specs.Entries.{Entry}
use Rattle.crossed.specs.declared.entries.Columns.{Columns}
use Rattle.crossed.specs.Entries.{count_of}
use Rattle.crossed.specs.declared.asked.Question.{Question}

-- a number as four bytes
abbrev pub be4 : ℕ → List ℕ
be4 n = (n / 16777216 % 256) ∷ (n / 65536 % 256) ∷ (n / 256 % 256) ∷ (n % 256) ∷ []

-- a number as eight bytes
abbrev pub be8 : ℕ → List ℕ
be8 n = (n / 72057594037927936 % 256) ∷ (n / 281474976710656 % 256) ∷ (n / 1099511627776 % 256) ∷ (n / 4294967296 % 256) ∷ (n / 16777216 % 256) ∷ (n / 65536 % 256) ∷ (n / 256 % 256) ∷ (n % 256) ∷ []

-- the number of the four bytes from a place on; past the end they are 0
abbrev pub of4 : List ℕ → ℕ → ℕ
of4 bs i = slice_index bs i * 16777216 + slice_index bs (i + 1) * 65536 + slice_index bs (i + 2) * 256 + slice_index bs (i + 3)

-- the number of the eight bytes from a place on
abbrev pub of8 : List ℕ → ℕ → ℕ
of8 bs i = slice_index bs i * 72057594037927936 + slice_index bs (i + 1) * 281474976710656 + slice_index bs (i + 2) * 1099511627776 + slice_index bs (i + 3) * 4294967296 + slice_index bs (i + 4) * 16777216 + slice_index bs (i + 5) * 65536 + slice_index bs (i + 6) * 256 + slice_index bs (i + 7)

-- an amount as bytes
abbrev pub amount_bytes : ℤ → List ℕ
amount_bytes z = be8 (of_z w64 z)

-- the amount of the eight bytes from a place on
abbrev pub amount_of : List ℕ → ℕ → ℤ
amount_of bs i = to_z w64 (of8 bs i)

-- four amounts as bytes
abbrev pub amounts_bytes : Amounts → List ℕ
amounts_bytes a = amount_bytes a.first ++ (amount_bytes a.second ++ (amount_bytes a.third ++ amount_bytes a.fourth))

-- the four amounts from a place on
abbrev pub amounts_of : List ℕ → ℕ → Amounts
amounts_of bs i = record { first = amount_of bs i; second = amount_of bs (i + 8); third = amount_of bs (i + 16); fourth = amount_of bs (i + 24) }

-- the body of the record of an entry
abbrev pub entry_body : Entry → List ℕ
entry_body e = be4 e.number ++ amounts_bytes e.value

-- the record of an entry
abbrev pub entry_bytes : Entry → List ℕ
entry_bytes e = 2 ∷ entry_body e

-- the entry that a body says
abbrev pub entry_of : List ℕ → Entry
entry_of bs = record { number = of4 bs 0; value = amounts_of bs 4 }

-- the heading of a roll of d columns
abbrev pub heading_bytes : Columns → List ℕ
heading_bytes d = 1 ∷ count_of d ∷ []

-- what the body of a question asks
abbrev pub asked_of : List ℕ → Question
asked_of bs = record { size = slice_index bs 0; band = record { low = amounts_of bs 1; high = amounts_of bs 33 } }
