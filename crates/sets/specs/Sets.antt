-- Sets of places, their totals, and the list of solutions. Entries stand at places that count from 1; a set of places is
-- written as the list of its places, rising.
use Rattle.std.specs.Prelude.{ℕ, zero, suc, ◌-◌, Bool, cond, ◌&&◌, List, [], ◌∷◌, ◌++◌, map, length, filter, ◌==◌, slice_index_or}
use Rattle.std.specs.List.{AllByRecursion}
use Rattle.measure.specs.Algebra.{Algebra, Row, Own, NotAbove}

-- every set of m of the n places from p on, in place order: at the first difference the smaller place comes first
abbrev pub sets : ℕ → ℕ → ℕ → List (List ℕ)
sets p n zero = [] ∷ []
sets p zero (suc m) = []
sets p (suc n) (suc m) = map (λ s. p ∷ s) (sets (suc p) n m) ++ sets (suc p) n (suc m)

-- those of the n places from p on that are not in the set
abbrev pub complement : ℕ → ℕ → List ℕ → List ℕ
complement p zero s = []
complement p (suc n) [] = p ∷ complement (suc p) n []
complement p (suc n) (q ∷ s) = cond (p == q) (complement (suc p) n s) (p ∷ complement (suc p) n (q ∷ s))

-- the row of the entry at a place
abbrev pub at_place : List Row → ℕ → Row
at_place xs p = slice_index_or xs (p - 1) []

-- what the entries xs at the places of a set come to
abbrev pub total : Algebra → List Row → List ℕ → Row
total a xs [] = a.nothing
total a xs (p ∷ ps) = a.plus (at_place xs p) (total a xs ps)

-- a total lies in the band from low to high
abbrev pub in_band : Algebra → Row → Row → Row → Bool
in_band a low high t = a.not_above low t && a.not_above t high

-- the sets of m of the entries xs whose totals lie in the band, once each, in place order
abbrev pub solutions : Algebra → List Row → ℕ → Row → Row → List (List ℕ)
solutions a xs m low high = filter (λ s. in_band a low high (total a xs s)) (sets 1 (length xs) m)

-- no row is above the next
abbrev pub Climbs : Algebra → List Row → Type 0
Climbs a [] = Unit {0}
Climbs a (x ∷ []) = Unit {0}
Climbs a (x ∷ y ∷ xs) = NotAbove a x y × Climbs a (y ∷ xs)

-- the rows of what stands on a straight roll: own rows, none above the next
pub record Rows (a : Algebra) (xs : List Row) : Type 0 where
  pub own : AllByRecursion (Own a) xs
  pub climbs : Climbs a xs
