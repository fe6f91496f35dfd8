-- Several columns at once, and the search for sets whose totals lie in the band in each. Entries stand by rising number, so a
-- column may fall from one place to the next. Each column is shadowed: to the amount at place p the column's largest fall is
-- added p times, and so a shadowed column never falls. The rank of an entry is its place. Sets with one rank total have their
-- shadowed totals raised by one and the same row, so there is one straight search for each rank total.
use Rattle.std.specs.Prelude.{ℕ, zero, suc, ◌+◌, ◌-◌, ◌*◌, ◌/◌, ◌&&◌, List, [], ◌∷◌, length, ℤ, pos, ◌+ℤ◌, ◌-ℤ◌, ◌*ℤ◌, filter, ◌==◌}
use Rattle.std.specs.Int.{int_max}
use Rattle.std.specs.List.{range_with_len, flat_map}
use Rattle.measure.specs.Algebra as Kinds
use Rattle.measure.specs.Algebra.{Algebra, Row}
use Rattle.measure.specs.Cents.{cents}
use Rattle.sets.specs.Sets.{sets, total, in_band}
use Rattle.sets.specs.Trace.{Trace, trace}

-- k + 1 amounts side by side
abbrev pub amounts : ℕ → Algebra
amounts zero = cents
amounts (suc k) = Kinds.joined cents (amounts k)

abbrev pub part_by_part : (ℤ → ℤ → ℤ) → Row → Row → Row
part_by_part f [] y = []
part_by_part f (v ∷ x) [] = []
part_by_part f (v ∷ x) (w ∷ y) = f v w ∷ part_by_part f x y

-- in each column the largest fall from one row to the next, or 0
abbrev pub falls : ℕ → List Row → Row
falls k [] = (amounts k).nothing
falls k (x ∷ []) = (amounts k).nothing
falls k (x ∷ y ∷ xs) = part_by_part int_max (part_by_part ◌-ℤ◌ x y) (falls k (y ∷ xs))

-- a rank beside the columns of a row, to each of which its fall is added as many times
abbrev pub shadow : Row → ℕ → Row → Row
shadow α r x = pos r ∷ part_by_part (λ fall v. v +ℤ fall *ℤ pos r) α x

-- the rows of entries as they are explored, the first at place p
abbrev pub shadows : Row → ℕ → List Row → List Row
shadows α p [] = []
shadows α p (x ∷ xs) = shadow α p x ∷ shadows α (suc p) xs

-- the rank total of a set
abbrev pub place_sum : List ℕ → ℕ
place_sum [] = 0
place_sum (p ∷ s) = p + place_sum s

-- the rank total of the first m places, and that of the last m of n
abbrev pub least_total : ℕ → ℕ
least_total m = m * (m + 1) / 2

abbrev pub greatest_total : ℕ → ℕ → ℕ
greatest_total n m = m * (2 * n - m + 1) / 2

abbrev pub rank_totals : ℕ → ℕ → List ℕ
rank_totals n m = range_with_len (least_total m) (greatest_total n m + 1 - least_total m)

-- what a search over k + 1 columns has to come: one straight search for each rank total, rising
abbrev pub crossed : ℕ → List Row → Row → Row → ℕ → Trace
crossed k xs low high m =
    let α : Row = falls k xs in
    flat_map (λ β. trace (amounts (suc k)) (shadows α 1 xs) (shadow α β low) (shadow α β high) m) (rank_totals (length xs) m)

-- the sets of m places whose totals lie in the band in each column, by the sum of their places, then in place order
abbrev pub crossed_solutions : ℕ → List Row → Row → Row → ℕ → List (List ℕ)
crossed_solutions k xs low high m =
    flat_map (λ β. filter (λ s. in_band (amounts k) low high (total (amounts k) xs s) && place_sum s == β) (sets 1 (length xs) m)) (rank_totals (length xs) m)
