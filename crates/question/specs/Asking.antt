-- Questions to a straight roll: the first refusal that holds, and the sets and the band that are sought for one.
use Rattle.std.specs.Prelude.{ℕ, ◌+◌, ◌-◌, ◌*◌, ◌/◌, Bool, cond, ◌&&◌, List, length, Ok, Err, Result, nat_le, nat_lt}
use Rattle.std.specs.List.{range_with_len}
use Rattle.measure.specs.Algebra.{Algebra, Row}
use Rattle.measure.specs.declared.Band.{Band}
use Rattle.sets.specs.Sets.{total}
use Rattle.roll.specs.declared.refusal.Refusal.{Refusal}
use Rattle.roll.specs.declared.refusal.Refusal.TheVariants.{BadSize, BadBand, ShortTable}
use Rattle.question.specs.declared.asking.Side.{Side}
use Rattle.question.specs.declared.asking.Side.TheVariants.{Paid, Left}
use Rattle.question.specs.declared.asking.Question.{Question}

-- how many places the sought sets have, for a question of size l where n entries stand
abbrev pub sought : Side → ℕ → ℕ → ℕ
sought Paid n l = l
sought Left n l = n - l

-- l of n entries can be asked for: at least one, and on the left side not all
abbrev pub size_fits : Side → ℕ → ℕ → Bool
size_fits Paid n l = nat_lt 0 l && nat_le l n
size_fits Left n l = nat_lt 0 l && nat_lt l n

-- low is not above high, and both are admitted
abbrev pub band_fits : {M : Type 0} → Algebra → (M → Row) → (M → ℕ) → Band M → Bool
band_fits a row span b = a.not_above (row b.low) (row b.high) && (nat_le (span b.low) 1 && nat_le (span b.high) 1)

-- how many values the table has for a search of m of n entries: m columns and two ends
abbrev pub table_size : ℕ → ℕ → ℕ
table_size n m = m * (2 * n - m + 1) / 2 + 2

-- what a question is answered where n entries stand, with a table of so many values: the first refusal that holds
abbrev pub asking : {M : Type 0} → Algebra → (M → Row) → (M → ℕ) → ℕ → Question M → ℕ → Result (Unit {0}) Refusal
asking a row span n q room =
    cond (size_fits q.side n q.size)
    (cond (band_fits a row span q.band)
    (cond (nat_le (table_size n (sought q.side n q.size)) room) (Ok tt) (Err ShortTable)) (Err BadBand))
    (Err BadSize)

-- what is left of all without x
abbrev pub rest : Algebra → Row → Row → Row
rest a all x = a.plus all (a.reverse x)

-- an end of the sought band, for the end of the asked band that it comes from and the other one: on the left side, what
-- the other end leaves of all
abbrev pub end : Algebra → Side → Row → Row → Row → Row
end a Paid all this other = this
end a Left all this other = rest a all other

-- a fact that only the left side needs: it speaks of the total of all entries
abbrev pub Needed : Side → Type 0 → Type 0
Needed Paid T = Unit {0}
Needed Left T = T

-- the total of all the rows
abbrev pub total_of_all : Algebra → List Row → Row
total_of_all a rs = total a rs (range_with_len 1 (length rs))

-- the low end of the sought band where the rows rs stand
abbrev pub searched_low : {M : Type 0} → Algebra → (M → Row) → List Row → Question M → Row
searched_low a row rs q = end a q.side (total_of_all a rs) (row q.band.low) (row q.band.high)

-- and the high end
abbrev pub searched_high : {M : Type 0} → Algebra → (M → Row) → List Row → Question M → Row
searched_high a row rs q = end a q.side (total_of_all a rs) (row q.band.high) (row q.band.low)
