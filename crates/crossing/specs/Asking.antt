-- Questions to a crossed roll: the first refusal that holds.
use Rattle.std.specs.Prelude.{ℕ, Bool, cond, ◌&&◌, take, ℤ, pos, negsuc, Ok, Err, Result, int_le, nat_le}
use Rattle.std.specs.List.{list_all, zip}
use Rattle.measure.specs.declared.Band.{Band}
use Rattle.roll.specs.declared.refusal.Refusal.{Refusal}
use Rattle.roll.specs.declared.refusal.Refusal.TheVariants.{BadSize, BadBand, ShortTable, PastColumns}
use Rattle.question.specs.Asking.{size_fits, table_size}
use Rattle.question.specs.declared.asking.Side.TheVariants.{Paid}
use Rattle.crossed.specs.Entries.{count_of, row_of, past_zero}
use Rattle.crossed.specs.declared.asked.Question.{Question}
use Rattle.crossed.specs.declared.entries.Amounts.{Amounts}
use Rattle.crossed.specs.declared.entries.Columns.{Columns}

-- an end of a band is from -20,000,000,000,000 to 20,000,000,000,000
abbrev pub end_within : ℤ → Bool
end_within z = int_le (negsuc 19999999999999) z && int_le z (pos 20000000000000)

-- low is not above high, and both are in range
abbrev pub band_fits : ℤ → ℤ → Bool
band_fits low high = int_le low high && end_within low && end_within high

-- each of the columns has a band
abbrev pub bands_fit : Columns → Band Amounts → Bool
bands_fit d b = list_all (λ p. band_fits p.0 p.1) (take (count_of d) (zip (row_of b.low) (row_of b.high)))

-- what a question is answered where n entries stand, with a table of so many values
abbrev pub asking : Columns → ℕ → Question → ℕ → Result (Unit {0}) Refusal
asking d n q room =
    cond (size_fits Paid n q.size)
    (cond (bands_fit d q.band)
    (cond (nat_le (table_size n q.size) room)
    (cond (past_zero d q.band.low && past_zero d q.band.high) (Ok tt) (Err PastColumns)) (Err ShortTable)) (Err BadBand))
    (Err BadSize)
