-- What holds of crossed searches, for entries with k + 1 columns. Here each column stands by itself.
use Rattle.std.specs.Prelude.{◌≡◌, ℕ, suc, ◌+◌, ◌-◌, ◌*◌, ◌<◌, ◌≤◌, ◌⊎◌, List, [], ◌∷◌, length, ℤ, pos, ◌+ℤ◌, ◌≤ℤ◌, slice_index_or}
use Rattle.std.specs.List.{AllByRecursion}
use Rattle.measure.specs.Algebra.{Row}
use Rattle.sets.specs.Sets.{sets, at_place}
use Rattle.sets.specs.Trace.{somes}
use Rattle.sets.specs.Orders.{Among, In, Lex, Sorted, Distinct}
use Rattle.sets.specs.Crossed.{place_sum, crossed, crossed_solutions}

-- the number in column c, which counts from 0
abbrev pub cell : ℕ → Row → ℤ
cell c x = slice_index_or x c (pos 0)

-- what the entries xs at the places of a set come to in column c
abbrev pub column_total : ℕ → List Row → List ℕ → ℤ
column_total c xs [] = pos 0
column_total c xs (p ∷ s) = cell c (at_place xs p) +ℤ column_total c xs s

-- the total of a set lies in the band in each column
abbrev pub Lies : ℕ → List Row → Row → Row → List ℕ → Type 0
Lies k xs low high s = (c : ℕ) → c ≤ k → (cell c low ≤ℤ column_total c xs s) × (column_total c xs s ≤ℤ cell c high)

-- the smaller sum of places first, and then at the first difference the smaller place
abbrev pub Before : List ℕ → List ℕ → Type 0
Before s t = (place_sum s < place_sum t) ⊎ ((place_sum s ≡ place_sum t) × Lex s t)

-- entries and a band with k + 1 columns, and a size that the entries admit
pub record Crosses (k : ℕ) (xs : List Row) (low high : Row) (m : ℕ) : Type 0 where
  pub entries : AllByRecursion (λ x. length x ≡ suc k) xs
  pub low_columns : length low ≡ suc k
  pub high_columns : length high ≡ suc k
  pub some : 0 < m
  pub room : m ≤ length xs

-- a set of m places whose total lies in the band in each column
pub record Solves (k : ℕ) (xs : List Row) (low high : Row) (m : ℕ) (s : List ℕ) : Type 0 where
  pub places : Among 0 (length xs) m s
  pub lies : Lies k xs low high s

-- the sets of a crossed trace are the crossed solutions, in their order
abbrev pub CrossedFinds : Type 0
CrossedFinds = (k : ℕ) (xs : List Row) (low high : Row) (m : ℕ) → Crosses k xs low high m → somes (crossed k xs low high m) ≡ crossed_solutions k xs low high m

-- each of them is a set of m places whose total lies in the band in each column
abbrev pub CrossedSound : Type 0
CrossedSound = (k : ℕ) (xs : List Row) (low high : Row) (m : ℕ) → Crosses k xs low high m → (s : List ℕ) → In s (somes (crossed k xs low high m)) → Solves k xs low high m s

-- each set of m places whose total lies in the band in each column is among them
abbrev pub CrossedComplete : Type 0
CrossedComplete = (k : ℕ) (xs : List Row) (low high : Row) (m : ℕ) → Crosses k xs low high m → (s : List ℕ) → Solves k xs low high m s → In s (somes (crossed k xs low high m))

-- they stand by the sum of their places, then in place order
abbrev pub CrossedOrder : Type 0
CrossedOrder = (k : ℕ) (xs : List Row) (low high : Row) (m : ℕ) → Crosses k xs low high m → Sorted Before (somes (crossed k xs low high m))

-- and so each stands once
abbrev pub CrossedOnce : Type 0
CrossedOnce = (k : ℕ) (xs : List Row) (low high : Row) (m : ℕ) → Crosses k xs low high m → Distinct (somes (crossed k xs low high m))

-- a crossed trace has at most as many items as the traces of all its rank totals may have
abbrev pub CrossedCounts : Type 0
CrossedCounts = (k : ℕ) (xs : List Row) (low high : Row) (m : ℕ) → Crosses k xs low high m → length (crossed k xs low high m) ≤ (m * (length xs - m) + 1) * (2 * length (sets 1 (length xs) m) - 1)
