-- How a table is written: column by column, then the two ends of the sought band.
use Rattle.std.specs.Prelude.{◌≡◌, ℕ, ◌+◌, ◌<◌, List, map, length, drop, slice_index_or}
use Rattle.std.specs.List.{range_with_len}
use Rattle.measure.specs.Algebra.{Algebra, Row}
use Rattle.roll.specs.declared.entry.Entry.{Entry}
use Rattle.roll.specs.Totals.{rows_of, Few, Totals}
use Rattle.question.specs.declared.asking.Question.{Question}
use Rattle.question.specs.Asking.{sought, searched_low, searched_high}
use Rattle.squeezing.specs.Table.{Stood, Holds, entries, offset}

-- the values of entries
abbrev pub values : {M : Type 0} → List (Entry M) → List M
values xs = map (λ e. e.value) xs

-- the first w values of a table are written: the totals of neighbours among n entries of the rows xs
abbrev pub Laid : {M : Type 0} → Algebra → (M → Row) → (M → ℕ) → List Row → ℕ → List M → ℕ → Type 0
Laid {M} a row span xs n table w = (k p : ℕ) (d : M) → p + k < n → offset n k + p < w → Stood a row span xs (range_with_len (p + 1) (k + 1)) (slice_index_or table (offset n k + p) d)

-- where the ends of the sought band stand: right behind the columns
abbrev pub ends_at : {M : Type 0} → ℕ → Question M → ℕ
ends_at n q = offset n (sought q.side n q.size)

-- what an accepted question makes of its table, where the entries xs stand and come to `all`: the columns of their totals,
-- then the two ends of the sought band; what lies behind these stays
pub record Written {M : Type 0} (a : Algebra) (row : M → Row) (span : M → ℕ) (xs : List (Entry M)) (all : M) (q : Question M) (was is : List M) : Type 0 where
  pub first : entries row (length xs) is ≡ rows_of row xs
  pub held : Few span xs → Holds a row span (length xs) (sought q.side (length xs) q.size) is
  pub low : Few span xs → Totals a row span xs all → (d : M) → row (slice_index_or is (ends_at (length xs) q) d) ≡ searched_low a row (rows_of row xs) q
  pub high : Few span xs → Totals a row span xs all → (d : M) → row (slice_index_or is (ends_at (length xs) q + 1) d) ≡ searched_high a row (rows_of row xs) q
  pub kept : drop (ends_at (length xs) q + 2) is ≡ drop (ends_at (length xs) q + 2) was

-- the two ends stand in the table as they were asked, where n entries stand
pub record EndsAsAsked {M : Type 0} (row : M → Row) (n : ℕ) (q : Question M) (is : List M) : Type 0 where
  pub low : (d : M) → row (slice_index_or is (ends_at n q) d) ≡ row q.band.low
  pub high : (d : M) → row (slice_index_or is (ends_at n q + 1) d) ≡ row q.band.high
