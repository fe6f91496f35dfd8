-- What a roll of so many columns admits.
use Rattle.std.specs.Prelude.{ℕ, Bool, cond, ◌&&◌, List, [], ◌∷◌, take, drop, ℤ, pos, negsuc, Ok, Err, Result, ◌==◌, int_le}
use Rattle.std.specs.List.{list_all}
use Rattle.std.specs.Ordering.{int_eq}
use Rattle.roll.specs.declared.refusal.Refusal.{Refusal}
use Rattle.roll.specs.declared.refusal.Refusal.TheVariants.{BadColumns}
use Rattle.crossed.specs.declared.entries.Amounts.{Amounts}
use Rattle.roll.specs.declared.entry.Entry.{Entry as Numbered}
use Rattle.crossed.specs.declared.entries.Columns.{Columns}
use Rattle.crossed.specs.declared.entries.Columns.TheVariants.{One, Two, Three, Four}

-- the columns that a number means
abbrev pub columns_of : ℕ → Result Columns Refusal
columns_of n = cond (n == 1) (Ok One) (cond (n == 2) (Ok Two) (cond (n == 3) (Ok Three) (cond (n == 4) (Ok Four) (Err BadColumns))))

-- the number of columns
abbrev pub count_of : Columns → ℕ
count_of One = 1
count_of Two = 2
count_of Three = 3
count_of Four = 4

-- the four amounts as a row, that of the first column first
abbrev pub row_of : Amounts → List ℤ
row_of a = a.first ∷ a.second ∷ a.third ∷ a.fourth ∷ []

-- the amount is from -100,000,000,000 to 100,000,000,000
abbrev pub within : ℤ → Bool
within z = int_le (negsuc 99999999999) z && int_le z (pos 100000000000)

-- each amount in the columns is one that an entry may have
abbrev pub in_range : Columns → Amounts → Bool
in_range d a = list_all within (take (count_of d) (row_of a))

-- each amount past the columns is zero
abbrev pub past_zero : Columns → Amounts → Bool
past_zero d a = list_all (λ z. int_eq z (pos 0)) (drop (count_of d) (row_of a))

-- an entry has an amount in each column
abbrev pub Entry : Type 0
Entry = Numbered Amounts

-- an entry of zeros
abbrev pub zero_entry : Entry
zero_entry = record { number = 0; value = record { first = pos 0; second = pos 0; third = pos 0; fourth = pos 0 } }
