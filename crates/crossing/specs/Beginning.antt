-- What the second call of a question to a crossed roll gives.
use Rattle.std.specs.Prelude.{◌≡◌, ℕ, ◌+◌, ◌≤◌, List, [], ◌∷◌, length, drop, pos, ◌≤ℤ◌, Ok, Err, Result, slice_index_or}
use Rattle.std.specs.List.{AllByRecursion}
use Rattle.measure.specs.Algebra.{Row}
use Rattle.measure.specs.declared.Band.{Band}
use Rattle.sets.specs.Crossed.{falls, shadows, crossed, least_total, greatest_total}
use Rattle.squeezing.specs.Table.{offset, entries}
use Rattle.exploring.specs.declared.state.Search.{Search as Straight}
use Rattle.exploring.specs.Meaning.{table_of, count_of, size_of, Sound}
use Rattle.roll.specs.declared.refusal.Refusal.{Refusal}
use Rattle.roll.specs.declared.entry.Entry.{Entry as Shadow}
use Rattle.roll.specs.Totals.{rows_of as rows_by}
use Rattle.question.specs.Asking.{table_size}
use Rattle.crossed.specs.declared.asked.Question.{Question}
use Rattle.crossed.specs.declared.entries.Amounts.{Amounts}
use Rattle.crossed.specs.declared.entries.Columns.{Columns}
use Rattle.crossed.specs.Entries.{Entry, row_of}
use Rattle.crossing.specs.Asking.{asking}
use Rattle.crossing.specs.Ranks.{Rank, ranks, rank_row, rank_span, rows_of, Bounded, Each, EachTwo}
use Rattle.crossing.specs.Meaning.{to_come}
use Rattle.crossing.specs.declared.course.Course.{Course}
use Rattle.crossing.specs.declared.state.Search.{Search}

-- the course through the rank totals of the sets that are asked for, of n entries, from the least to the greatest
pub record Leads (α : Amounts) (q : Question) (n : ℕ) (c : Course) : Type 0 where
  pub falls : c.falls ≡ α
  pub band : c.band ≡ q.band
  pub rank : c.rank ≡ least_total q.size
  pub last : c.last ≡ greatest_total n q.size

-- each end is in range, and none is above the other in its column
pub record Banded (b : Band Amounts) : Type 0 where
  pub lows : Each Bounded b.low
  pub highs : Each Bounded b.high
  pub order : EachTwo ◌≤ℤ◌ b.low b.high

-- a question that n entries and a table of so many values suit
pub record Fits (n : ℕ) (q : Question) (room : ℕ) : Type 0 where
  pub some : 1 ≤ q.size
  pub most : q.size ≤ n
  pub few : n ≤ 120
  pub band : Banded q.band
  pub table : table_size n q.size ≤ room

-- the shadows ys of entries, with the falls α: a rank beside the shadowed columns
pub record Casts (α : Row) (xs : List Entry) (ys : List (Shadow Rank)) : Type 0 where
  pub rows : rows_by rank_row ys ≡ shadows α 1 (rows_of xs)
  pub small : AllByRecursion (λ e. rank_span e.value ≤ 1) ys

-- the straight search over the shadows of xs: its table holds their totals, then the two ends as asked with rank 0, and what
-- lies behind stays
pub record Shadowed (α : Row) (xs : List Entry) (q : Question) (was : List Rank) (s : Straight Rank) : Type 0 where
  pub count : count_of s ≡ length xs
  pub size : size_of s ≡ q.size
  pub first : entries rank_row (length xs) (table_of s) ≡ shadows α 1 (rows_of xs)
  pub holds : Sound ranks rank_row rank_span s
  pub low : (d : Rank) → rank_row (slice_index_or (table_of s) (offset (length xs) q.size) d) ≡ pos 0 ∷ row_of q.band.low
  pub high : (d : Rank) → rank_row (slice_index_or (table_of s) (offset (length xs) q.size + 1) d) ≡ pos 0 ∷ row_of q.band.high
  pub kept : drop (offset (length xs) q.size + 2) (table_of s) ≡ drop (offset (length xs) q.size + 2) was

-- the search of an accepted question where the entries xs stand: its table holds the totals of rank beside shadowed columns,
-- then the two ends as asked with rank 0, and what lies behind stays; what it has to come is the crossed trace of the question
pub record Starts (xs : List Entry) (q : Question) (was : List Rank) (s : Search) : Type 0 where
  pub over : Shadowed (falls 3 (rows_of xs)) xs q was s.straight
  pub comes : to_come s ≡ crossed 3 (rows_of xs) (row_of q.band.low) (row_of q.band.high) q.size

-- the search after a refusal
pub record Stays (was : List Rank) (s : Search) : Type 0 where
  pub table : table_of s.straight ≡ was
  pub size : size_of s.straight ≡ 0
  pub comes : to_come s ≡ []

-- the search for what the question is answered, where xs stand
abbrev pub BeginsBy : List Entry → Question → List Rank → Search → Result (Unit {0}) Refusal → Type 0
BeginsBy xs q was s (Ok u) = Starts xs q was s
BeginsBy xs q was s (Err r) = Stays was s

abbrev pub Begins : Columns → List Entry → Question → List Rank → Search → Type 0
Begins d xs q was s = BeginsBy xs q was s (asking d (length xs) q (length was))
