-- The table of a search: the totals of neighbouring entries, one column after another. The column of k + 1 neighbours
-- holds a total for each place that a stretch of k + 1 neighbours can begin with.
use Rattle.std.specs.Prelude.{◌≡◌, ℕ, zero, suc, ◌+◌, ◌-◌, ◌<◌, ◌≤◌, Bool, ◌&&◌, List, map, length, take, nat_le, nat_lt, slice_index_or}
use Rattle.std.specs.List.{range_with_len}
use Rattle.measure.specs.Algebra.{Algebra, Row}
use Rattle.sets.specs.Sets.{total}

-- how many totals stand before those of k + 1 neighbours: n of one, n - 1 of two, and so on
unfoldable pub offset : ℕ → ℕ → ℕ
offset n zero = 0
offset n (suc k) = offset n k + (n - k)

-- the rows of the entries that a table is made of: its first column
abbrev pub entries : {M : Type 0} → (M → Row) → ℕ → List M → List Row
entries row n table = map row (take n table)

-- x is the total of the entries xs at the places ps, and its span is at most their number
pub record Stood {M : Type 0} (a : Algebra) (row : M → Row) (span : M → ℕ) (xs : List Row) (ps : List ℕ) (x : M) : Type 0 where
  pub row_is : row x ≡ total a xs ps
  pub span_le : span x ≤ length ps

-- the table holds, one column after another, the totals of 1, 2, .., m neighbours of its n entries, each from place 1 on
pub record Holds {M : Type 0} (a : Algebra) (row : M → Row) (span : M → ℕ) (n m : ℕ) (table : List M) : Type 0 where
  pub enough : n ≤ length table
  pub holds : (k p : ℕ) (d : M) → p + k < n → k < m → Stood a row span (entries row n table) (range_with_len (p + 1) (k + 1)) (slice_index_or table (offset n k + p) d)

-- where the table holds, x is the total of its entries at the places ps
pub record Stands {M : Type 0} (a : Algebra) (row : M → Row) (span : M → ℕ) (n m : ℕ) (table : List M) (ps : List ℕ) (x : M) : Type 0 where
  pub stood : Holds a row span n m table → Stood a row span (entries row n table) ps x

-- whether sets of m of n entries can be looked for over a table of so many values
abbrev pub fits : ℕ → ℕ → ℕ → Bool
fits n m cells = nat_lt 0 m && (nat_le m n && (nat_le n 120 && nat_le (offset n m) cells))
