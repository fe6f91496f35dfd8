-- Spaces of sets, and squeezing. A space gives each position i, from 1 to m, a lowest and a highest place; it stands for
-- the sets whose i-th place lies between the two. Squeezing raises the lowest places and lowers the highest ones as far as
-- a band from low to high allows, without losing a set whose total lies in the band.
use Rattle.std.specs.Prelude.{ℕ, zero, suc, ◌+◌, ◌-◌, min, max, Bool, cond, ◌&&◌, List, [], ◌∷◌, map, length, Some, None, sum, Option, ◌==◌, nat_le, nat_lt, slice_index, slice_set}
use Rattle.std.specs.Cmp.Lexicographic.{pointwise}
use Rattle.std.specs.List.{range_with_len}
use Rattle.measure.specs.Algebra.{Algebra, Row}
use Rattle.sets.specs.Sets.{total}

pub record Space : Type 0 where
  pub lo : List ℕ
  pub hi : List ℕ

abbrev pub space : List ℕ → List ℕ → Space
space l h = record { lo = l; hi = h }

-- the place of position i, which counts from 1
abbrev pub at : List ℕ → ℕ → ℕ
at xs i = slice_index xs (i - 1)

-- the least of the n numbers from v on that passes the test
abbrev pub least : (ℕ → Bool) → ℕ → ℕ → Option ℕ
least f v zero = None
least f v (suc n) = cond (f v) (Some v) (least f (v + 1) n)

-- the greatest of the n numbers from v down that passes the test
abbrev pub greatest : (ℕ → Bool) → ℕ → ℕ → Option ℕ
greatest f v zero = None
greatest f v (suc n) = cond (f v) (Some v) (greatest f (v - 1) n)

-- where position j stands, as high as it can while position i stands at v
abbrev pub as_high : List ℕ → ℕ → ℕ → ℕ → ℕ
as_high hi i v j = cond (nat_lt j i) (min (v - (i - j)) (at hi j)) (cond (j == i) v (at hi j))

-- the highest set with position i at v
abbrev pub raised : List ℕ → ℕ → ℕ → List ℕ
raised hi i v = map (as_high hi i v) (range_with_len 1 (length hi))

-- where position j stands, as low as it can while position i stands at v
abbrev pub as_low : List ℕ → ℕ → ℕ → ℕ → ℕ
as_low lo i v j = cond (nat_lt j i) (at lo j) (cond (j == i) v (max (v + (j - i)) (at lo j)))

-- the lowest set with position i at v
abbrev pub lowered : List ℕ → ℕ → ℕ → List ℕ
lowered lo i v = map (as_low lo i v) (range_with_len 1 (length lo))

-- low is not above the total of the highest set with position i at v
abbrev pub reaches : Algebra → List Row → Row → List ℕ → ℕ → ℕ → Bool
reaches a xs low hi i v = a.not_above low (total a xs (raised hi i v))

-- the first place that raising tries: the lowest place of position i, and above that of the position before it
abbrev pub from : List ℕ → ℕ → ℕ
from lo i = max (at lo i) (cond (nat_le i 1) 0 (at lo (i - 1) + 1))

-- raising position i: the least place, up to its highest one, with which low can still be reached
abbrev pub raise : Algebra → List Row → Row → List ℕ → List ℕ → ℕ → Option ℕ
raise a xs low lo hi i = least (reaches a xs low hi i) (from lo i) (at hi i + 1 - from lo i)

-- the total of the lowest set with position i at v is not above high
abbrev pub stays : Algebra → List Row → Row → List ℕ → ℕ → ℕ → Bool
stays a xs high lo i v = a.not_above (total a xs (lowered lo i v)) high

-- the first place that lowering tries: the highest place of position i, and below that of the position after it
abbrev pub upto : List ℕ → ℕ → ℕ
upto hi i = cond (nat_lt i (length hi)) (min (at hi i) (at hi (i + 1) - 1)) (at hi i)

-- lowering position i: the greatest place, down to its lowest one, with which high need not be passed
abbrev pub lower : Algebra → List Row → Row → List ℕ → List ℕ → ℕ → Option ℕ
lower a xs high lo hi i = greatest (stays a xs high lo i) (upto hi i) (upto hi i + 1 - at lo i)

-- raises n positions in turn, from i on; none: some position has no place, and the space is empty
abbrev pub raise_from : Algebra → List Row → Row → List ℕ → ℕ → ℕ → List ℕ → Option (List ℕ)
raise_from a xs low hi i zero lo = Some lo
raise_from a xs low hi i (suc n) lo = elim (raise a xs low lo hi i) [ None ↦ None | Some v ↦ raise_from a xs low hi (i + 1) n (slice_set lo (i - 1) v) ]

-- lowers the positions n, n - 1, down to 1, in turn
abbrev pub lower_from : Algebra → List Row → Row → List ℕ → ℕ → List ℕ → Option (List ℕ)
lower_from a xs high lo zero hi = Some hi
lower_from a xs high lo (suc n) hi = elim (lower a xs high lo hi (suc n)) [ None ↦ None | Some v ↦ lower_from a xs high lo n (slice_set hi n v) ]

abbrev pub same : List ℕ → List ℕ → Bool
same xs ys = pointwise ◌==◌ xs ys

-- by how much the highest places exceed the lowest, over all positions
abbrev pub widths : List ℕ → List ℕ → ℕ
widths lo hi = sum hi - sum lo

module _ (a : Algebra) (xs : List Row) (low high : Row) where
  -- a pass raises all positions, from the first, and then lowers all, from the last
  abbrev pub pass : Space → Option Space
  pass s = elim (raise_from a xs low s.hi 1 (length s.hi) s.lo) [
    | None ↦ None
    | Some l ↦ elim (lower_from a xs high l (length l) s.hi) [ None ↦ None | Some h ↦ Some (space l h) ]
  ]

  -- passes until one moves nothing; each that moves something narrows the space, so the widths and one more are enough
  abbrev pub squeeze : ℕ → Space → Option Space
  squeeze zero s = pass s
  squeeze (suc n) s = elim (pass s) [ None ↦ None | Some t ↦ cond (same s.lo t.lo && same s.hi t.hi) (Some t) (squeeze n t) ]

-- the first position, counted from i, whose lowest place is below its highest
abbrev pub open_at : ℕ → List ℕ → List ℕ → Option ℕ
open_at i [] hi = None
open_at i (l ∷ lo) [] = None
open_at i (l ∷ lo) (h ∷ hi) = cond (nat_lt l h) (Some i) (open_at (i + 1) lo hi)

-- the lowest place of position j once position i stands at v
abbrev pub pushed : List ℕ → ℕ → ℕ → ℕ → ℕ
pushed lo i v j = cond (nat_lt j i) (at lo j) (max (at lo j) (v + (j - i)))

-- the child of a space with position i at v
abbrev pub child : Space → ℕ → ℕ → Space
child s i v = space (map (pushed s.lo i v) (range_with_len 1 (length s.lo))) (slice_set s.hi (i - 1) v)
