-- What the parts of squeezing keep and tell. Lists of places are indexed from 0 here, as the arrays of the code are: the
-- place of position j + 1 stands at index j.
use Rattle.std.specs.Prelude.{◌≡◌, ℕ, ◌+◌, ◌-◌, ◌<◌, ◌≤◌, List, length, take, drop, Some, None, Option, slice_index, slice_index_or}
use Rattle.measure.specs.Algebra.{Algebra, Row}
use Rattle.sets.specs.Spaces.{Space, space}
use Rattle.squeezing.specs.Table.{Holds, Stands, entries}
use Rattle.squeezing.specs.declared.table.Totals.{Totals}

-- the rows of the entries that the totals are made of
abbrev pub entries_in : {M : Type 0} → (M → Row) → Totals M → List Row
entries_in row t = entries row t.n t.values.now

-- the table holds the totals of neighbours
abbrev pub HoldsIn : {M : Type 0} → Algebra → (M → Row) → (M → ℕ) → Totals M → Type 0
HoldsIn a row span t = Holds a row span t.n t.m t.values.now

-- where the table holds, x is the total of its entries at the places ps
abbrev pub StandsIn : {M : Type 0} → Algebra → (M → Row) → (M → ℕ) → Totals M → List ℕ → M → Type 0
StandsIn a row span t ps x = Stands a row span t.n t.m t.values.now ps x

-- the lower or the upper places of a space: rising, each of 1 to n
pub record Places (n : ℕ) (hi : List ℕ) : Type 0 where
  pub least : (j : ℕ) → j < length hi → j + 1 ≤ slice_index hi j
  pub most : (j : ℕ) → j < length hi → slice_index hi j ≤ n
  pub rising : (j : ℕ) → j + 1 < length hi → slice_index hi j < slice_index hi (j + 1)

-- lower places of a space, each of 1 to n, with room for those before it
pub record Lower (n : ℕ) (lo : List ℕ) : Type 0 where
  pub least : (j : ℕ) → j < length lo → j + 1 ≤ slice_index lo j
  pub most : (j : ℕ) → j < length lo → slice_index lo j ≤ n

-- the upper places before index s, which hold the position at index i from v on, and x, their total
pub record Front {M : Type 0} (a : Algebra) (row : M → Row) (span : M → ℕ) (t : Totals M) (hi : List ℕ) (i v s : ℕ) (x : M) : Type 0 where
  pub start : s ≤ i
  pub stands : StandsIn a row span t (take s hi) x
  pub held : (j : ℕ) → j < s → slice_index hi j + (i - j) ≤ v

-- the totals of the upper places from each index on
pub record Suffixes {M : Type 0} (a : Algebra) (row : M → Row) (span : M → ℕ) (t : Totals M) (hi : List ℕ) (totals : List M) : Type 0 where
  pub many : length hi < length totals
  pub each : (j : ℕ) (d : M) → j ≤ length hi → StandsIn a row span t (drop j hi) (slice_index_or totals j d)

-- no place of `is` is below that of `was`
abbrev pub Above : List ℕ → List ℕ → Type 0
Above was is = (j : ℕ) → slice_index was j ≤ slice_index is j

-- upper places of a space, each of 1 to n, with room for those after it
pub record Higher (n : ℕ) (hi : List ℕ) : Type 0 where
  pub least : (j : ℕ) → j < length hi → 1 ≤ slice_index hi j
  pub most : (j : ℕ) → j < length hi → slice_index hi j + length hi ≤ n + j + 1

-- the lower places from index e on, which hold the position at index i from v down, and x, their total
pub record Back {M : Type 0} (a : Algebra) (row : M → Row) (span : M → ℕ) (t : Totals M) (lo : List ℕ) (i v e : ℕ) (x : M) : Type 0 where
  pub past : i < e
  pub upto : e ≤ length lo
  pub stands : StandsIn a row span t (drop e lo) x
  pub held : (j : ℕ) → e ≤ j → j < length lo → v + (j - i) ≤ slice_index lo j

-- the totals of the lower places before each index
pub record Prefixes {M : Type 0} (a : Algebra) (row : M → Row) (span : M → ℕ) (t : Totals M) (lo : List ℕ) (totals : List M) : Type 0 where
  pub many : length lo < length totals
  pub each : (j : ℕ) (d : M) → j ≤ length lo → StandsIn a row span t (take j lo) (slice_index_or totals j d)

-- a space: lower and upper places, each lower place at most the upper one
pub record Fair (n : ℕ) (lo hi : List ℕ) : Type 0 where
  pub same : length lo ≡ length hi
  pub lows : Places n lo
  pub highs : Places n hi
  pub ordered : (j : ℕ) → j < length hi → slice_index lo j ≤ slice_index hi j

-- what squeezing tells: the space that is left, or that none is
abbrev pub Squeezes : Type 0 → ℕ → List ℕ → List ℕ → List ℕ → List ℕ → Option Space → Option (Unit {0}) → Type 0
Squeezes H n lo hi lo' hi' answer (Some _) = (H → answer ≡ Some (space lo' hi')) × Fair n lo' hi' × Above lo lo' × Above hi' hi
Squeezes H n lo hi lo' hi' answer None = H → answer ≡ None

-- The same of the first m places of an array, one fact at a time, since a ghost field takes no record.

-- each has room for those before it
abbrev pub Roomy : ℕ → List ℕ → Type 0
Roomy m ps = (j : ℕ) → j < m → j + 1 ≤ slice_index ps j

-- each is below the next
abbrev pub Rising : ℕ → List ℕ → Type 0
Rising m ps = (j : ℕ) → j + 1 < m → slice_index ps j < slice_index ps (j + 1)

-- each lower place is at most the upper one
abbrev pub Under : ℕ → List ℕ → List ℕ → Type 0
Under m lo hi = (j : ℕ) → j < m → slice_index lo j ≤ slice_index hi j

-- each is at most n
abbrev pub Upto : ℕ → ℕ → List ℕ → Type 0
Upto m n ps = (j : ℕ) → j < m → slice_index ps j ≤ n
