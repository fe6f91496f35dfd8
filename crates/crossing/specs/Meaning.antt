-- What a crossed search means: the search of the rank total that is explored now, then one straight search for each later rank
-- total, all over one table.
use Rattle.std.specs.Prelude.{◌≡◌, ℕ, ◌+◌, ◌-◌, List, ◌++◌}
use Rattle.std.specs.List.{range_with_len, flat_map}
use Rattle.sets.specs.Crossed.{shadow}
use Rattle.sets.specs.Trace.{Trace}
use Rattle.exploring.specs.Meaning.{table_of, count_of, size_of, coming, planned}
use Rattle.crossed.specs.Entries.{row_of}
use Rattle.crossing.specs.Ranks.{Rank, ranks, rank_row}
use Rattle.crossing.specs.declared.course.Course.{Course}
use Rattle.crossing.specs.declared.state.Search.{Search}

-- the items of the rank total β, for sets of m of the n entries of a table
abbrev pub rank_items : ℕ → ℕ → List Rank → Course → ℕ → Trace
rank_items n m table c β = planned ranks rank_row n m table (shadow (row_of c.falls) β (row_of c.band.low)) (shadow (row_of c.falls) β (row_of c.band.high))

-- the items of the rank totals after the one that is explored now
abbrev pub later : ℕ → ℕ → List Rank → Course → Trace
later n m table c = flat_map (rank_items n m table c) (range_with_len (c.rank + 1) (c.last - c.rank))

-- the same course at the next rank total
pub record Next (was is : Course) : Type 0 where
  pub falls : is.falls ≡ was.falls
  pub band : is.band ≡ was.band
  pub rank : is.rank ≡ was.rank + 1
  pub last : is.last ≡ was.last

-- what comes after the rank total that is explored now
abbrev pub later_than : Search → Trace
later_than s = later (count_of s.straight) (size_of s.straight) (table_of s.straight) s.course

-- what a crossed search has still to come
abbrev pub to_come : Search → Trace
to_come s = coming ranks rank_row s.straight ++ later_than s
