-- Ranks beside shadowed columns: five numbers side by side, and the ranges within which they are worked out exactly.
use Rattle.std.specs.Prelude.{◌≡◌, ℕ, max, List, [], ◌∷◌, map, ℤ, pos, negsuc, ◌≤ℤ◌}
use Rattle.measure.specs.Algebra.{Algebra, Row}
use Rattle.measure.specs.Cents.{span_of}
use Rattle.measure.specs.declared.Cents.{Cents}
use Rattle.measure.specs.declared.Pair.{Pair}
use Rattle.sets.specs.Crossed.{amounts, falls}
use Rattle.std.specs.List.{AllByRecursion}
use Rattle.crossed.specs.declared.entries.Amounts.{Amounts}
use Rattle.crossed.specs.Entries.{Entry, row_of}

-- a rank, then the four columns
abbrev pub Rank : Type 0
Rank = Pair Cents (Pair Cents (Pair Cents (Pair Cents Cents)))

-- how they add and compare
abbrev pub ranks : Algebra
ranks = amounts 4

abbrev pub rank_row : Rank → Row
rank_row p = p.first.value ∷ p.second.first.value ∷ p.second.second.first.value ∷ p.second.second.second.first.value ∷ p.second.second.second.second.value ∷ []

abbrev pub rank_span : Rank → ℕ
rank_span p =
    max (span_of p.first.value) (max (span_of p.second.first.value) (max (span_of p.second.second.first.value) (max (span_of p.second.second.second.first.value) (span_of p.second.second.second.second.value))))

-- a fall from one entry to the next, or 0
pub record Fallen (z : ℤ) : Type 0 where
  pub least : pos 0 ≤ℤ z
  pub most : z ≤ℤ pos 200000000000

-- an amount of an entry
pub record Small (z : ℤ) : Type 0 where
  pub least : negsuc 99999999999 ≤ℤ z
  pub most : z ≤ℤ pos 100000000000

-- an amount, or an end of a band
pub record Bounded (z : ℤ) : Type 0 where
  pub least : negsuc 19999999999999 ≤ℤ z
  pub most : z ≤ℤ pos 20000000000000

-- it holds of each column
pub record Each (P : ℤ → Type 0) (a : Amounts) : Type 0 where
  pub first : P a.first
  pub second : P a.second
  pub third : P a.third
  pub fourth : P a.fourth

-- the same of two numbers and of three
pub record EachTwo (P : ℤ → ℤ → Type 0) (a b : Amounts) : Type 0 where
  pub first : P a.first b.first
  pub second : P a.second b.second
  pub third : P a.third b.third
  pub fourth : P a.fourth b.fourth

pub record EachThree (P : ℤ → ℤ → ℤ → Type 0) (a b c : Amounts) : Type 0 where
  pub first : P a.first b.first c.first
  pub second : P a.second b.second c.second
  pub third : P a.third b.third c.third
  pub fourth : P a.fourth b.fourth c.fourth

-- the rows of entries
abbrev pub rows_of : List Entry → List Row
rows_of xs = map (λ e. row_of e.value) xs

-- entries whose amounts are those that a roll admits
abbrev pub Ranged : List Entry → Type 0
Ranged xs = AllByRecursion (λ e. Each Small e.value) xs

-- α has in each column the largest fall of the rows, or 0
pub record Falls (xs : List Row) (α : Amounts) : Type 0 where
  pub are : row_of α ≡ falls 3 xs
  pub fallen : Each Fallen α
