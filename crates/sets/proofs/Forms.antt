-- A second form of the search: positions count from 0, and a step at one position pushes its neighbours along, so that
-- a space stays a space of rising sets at every step. The theorems are proved of this form, and Agreement.antt shows
-- that it gives the same trace.
use Rattle.std.proofs.Common.{ℕ, zero, suc, ◌+◌, ◌-◌, min, max, Bool, cond, ◌&&◌, ltb, List, [], ◌∷◌, length, get_or, Some, None, Option, option_and_then}
use Rattle.std.specs.List.{flat_map}
use Rattle.measure.specs.Algebra.{Algebra, Row}
use Rattle.sets.specs.Sets.{total}
use Rattle.sets.specs.Spaces.{Space, space, same}
use Rattle.sets.specs.Trace.{Trace}

-- i, i + 1, ..., n of them. Kept: `range_with_len` steps by i + 1, which a recursion does not compute to suc i.
abbrev pub count_from : ℕ → ℕ → List ℕ
count_from i zero = []
count_from i (suc n) = i ∷ count_from (suc i) n

-- n - 1, ..., 1, 0
abbrev pub count_down : ℕ → List ℕ
count_down zero = []
count_down (suc n) = n ∷ count_down n

-- the least of the n numbers from v on that passes
abbrev pub least : (ℕ → Bool) → ℕ → ℕ → Option ℕ
least f v zero = None
least f v (suc n) = cond (f v) (Some v) (least f (suc v) n)

-- the greatest of the n numbers from v on that passes
abbrev pub greatest : (ℕ → Bool) → ℕ → ℕ → Option ℕ
greatest f v zero = None
greatest f v (suc n) = cond (f (v + n)) (Some (v + n)) (greatest f v n)

-- the place of position i
abbrev pub at : List ℕ → ℕ → ℕ
at s i = get_or s i 0

-- the least set above v that is nowhere below lo
abbrev pub above : ℕ → List ℕ → List ℕ
above v [] = []
above v (l ∷ lo) = let w : ℕ = max (suc v) l in w ∷ above w lo

-- lo with v at position i, and what follows as low as it then can be
abbrev pub lifted : List ℕ → ℕ → ℕ → List ℕ
lifted [] i v = []
lifted (l ∷ lo) zero v = v ∷ above v lo
lifted (l ∷ lo) (suc i) v = l ∷ lifted lo i v

-- hi with v at position i, and what precedes as high as it then can be
abbrev pub topped : List ℕ → ℕ → ℕ → List ℕ
topped [] i v = []
topped (h ∷ hi) zero v = v ∷ hi
topped (h ∷ hi) (suc i) v = min (v - suc i) h ∷ topped hi i v

-- the widths of the positions, added up
abbrev pub widths : List ℕ → List ℕ → ℕ
widths [] hi = 0
widths (l ∷ lo) [] = 0
widths (l ∷ lo) (h ∷ hi) = (h - l) + widths lo hi

-- the first position that is not settled
abbrev pub open_at : List ℕ → List ℕ → Option ℕ
open_at [] hi = None
open_at (l ∷ lo) [] = None
open_at (l ∷ lo) (h ∷ hi) = cond (ltb l h) (Some 0) (option_and_then (λ i. Some (suc i)) (open_at lo hi))

-- the part of a space with v at position i
abbrev pub child : Space → ℕ → ℕ → Space
child s i v = space (lifted s.lo i v) (topped s.hi i v)

-- steps at the positions of a list in turn; none: the space is empty
abbrev pub sweep : (Space → ℕ → Option Space) → List ℕ → Space → Option Space
sweep step [] s = Some s
sweep step (i ∷ is) s = option_and_then (sweep step is) (step s i)

-- how many places position i has
abbrev pub choices : Space → ℕ → ℕ
choices s i = suc (at s.hi i) - at s.lo i

-- the items of a squeezed space, given its first open position
abbrev pub split : (Space → Trace) → Space → Option ℕ → Trace
split deeper t None = Some t.lo ∷ []
split deeper t (Some i) = None ∷ flat_map (λ v. deeper (child t i v)) (count_from (at t.lo i) (choices t i))

-- the items of a space, given what squeezing leaves of it
abbrev pub examined : (Space → Trace) → Option Space → Trace
examined deeper None = None ∷ []
examined deeper (Some t) = split deeper t (open_at t.lo t.hi)

module _ (a : Algebra) (xs : List Row) (low high : Row) where
  -- position i goes up to the least place with which low can be reached
  abbrev pub raise : Space → ℕ → Option Space
  raise s i = option_and_then (λ v. Some (space (lifted s.lo i v) s.hi)) (least (λ v. a.not_above low (total a xs (topped s.hi i v))) (at s.lo i) (choices s i))

  -- position i goes down to the greatest place with which high need not be passed
  abbrev pub lower : Space → ℕ → Option Space
  lower s i = option_and_then (λ v. Some (space s.lo (topped s.hi i v))) (greatest (λ v. a.not_above (total a xs (lifted s.lo i v)) high) (at s.lo i) (choices s i))

  abbrev pub pass : Space → Option Space
  pass s = option_and_then (sweep lower (count_down (length s.lo))) (sweep raise (count_from 0 (length s.lo)) s)

  -- passes until one moves nothing, at most n + 1 of them
  abbrev pub squeeze : ℕ → Space → Option Space
  squeeze zero s = pass s
  squeeze (suc n) s = option_and_then (λ t. cond (same s.lo t.lo && same s.hi t.hi) (Some t) (squeeze n t)) (pass s)

  abbrev pub squeezed : Space → Option Space
  squeezed s = squeeze (widths s.lo s.hi) s

  -- the items of a space and of the tree below it
  abbrev pub explore : ℕ → Space → Trace
  explore zero s = []
  explore (suc d) s = examined (explore d) (squeezed s)

  abbrev pub trace : ℕ → Trace
  trace m = explore (suc m) (space (count_from 1 m) (count_from (suc (length xs - m)) m))
