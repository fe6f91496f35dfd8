-- What the entries on a roll come to.
use Rattle.std.specs.Prelude.{◌≡◌, ℕ, ◌≤◌, List, map, length}
use Rattle.std.specs.List.{range_with_len, AllByRecursion}
use Rattle.measure.specs.Algebra.{Algebra, Row}
use Rattle.sets.specs.Sets.{total, Rows}
use Rattle.roll.specs.Books.{Kept, kind}
use Rattle.roll.specs.declared.entry.Entry.{Entry}

-- the rows of entries
abbrev pub rows_of : {M : Type 0} → (M → Row) → List (Entry M) → List Row
rows_of row xs = map (λ e. row e.value) xs

-- at most 120 entries, each of span 1 at most
pub record Few {M : Type 0} (span : M → ℕ) (xs : List (Entry M)) : Type 0 where
  pub count : length xs ≤ 120
  pub each : AllByRecursion (λ e. span e.value ≤ 1) xs

-- v is what the entries xs come to: its row is the total of all their places, its span at most their number
pub record Totals {M : Type 0} (a : Algebra) (row : M → Row) (span : M → ℕ) (xs : List (Entry M)) (v : M) : Type 0 where
  pub exact : row v ≡ total a (rows_of row xs) (range_with_len 1 (length xs))
  pub small : span v ≤ length xs

-- what calls keep is what totals and searches ask: few entries of small spans, whose rows climb from place to place
abbrev pub Ready : {M : Type 0} → Algebra → (M → Row) → (M → ℕ) → Type 0
Ready {M} a row span = (xs : List (Entry M)) → Kept (kind a row span) xs → Few span xs × Rows a (rows_of row xs)
