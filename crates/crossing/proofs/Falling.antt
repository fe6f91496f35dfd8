-- The largest falls, found from the first place on.
use Rattle.std.proofs.Common.{◌≡◌, ◌≤◌, List, [], ◌∷◌, length, get_or, take, drop, ℤ, pos, ◌-ℤ◌, ◌≤ℤ◌, sym, refl, ap, ◌∙◌, subst, ap₂, arith}
use Rattle.std.specs.Int.{int_max}
use Rattle.std.proofs.lemmas.Int.{ints, clamps}
use Rattle.measure.specs.Algebra.{Row}
use Rattle.sets.specs.Crossings.{cell}
use Rattle.sets.specs.Crossed.{part_by_part, falls}
use Rattle.crossed.specs.declared.entries.Amounts.{Amounts}
use Rattle.crossed.specs.Entries.{Entry, row_of, zero_entry}
use Rattle.crossing.specs.Ranks.{rows_of, Fallen, Small, Each, Ranged, Falls}
use Rattle.crossing.proofs.Shadows.{four_same}

max_assoc : (a b c : ℤ) → int_max (int_max a b) c ≡ int_max a (int_max b c)
max_assoc a b c = omega (arith, ints, clamps)

max_comm : (a b : ℤ) → int_max a b ≡ int_max b a
max_comm a b = omega (arith, ints, clamps)

part_assoc : (x y z : Row) → part_by_part int_max (part_by_part int_max x y) z ≡ part_by_part int_max x (part_by_part int_max y z)
part_assoc [] y z = refl
part_assoc (a ∷ x) [] z = refl
part_assoc (a ∷ x) (b ∷ y) [] = refl
part_assoc (a ∷ x) (b ∷ y) (c ∷ z) = ap₂ (λ v r. v ∷ r) (max_assoc a b c) (part_assoc x y z)

part_comm : (x y : Row) → part_by_part int_max x y ≡ part_by_part int_max y x
part_comm [] [] = refl
part_comm [] (b ∷ y) = refl
part_comm (a ∷ x) [] = refl
part_comm (a ∷ x) (b ∷ y) = ap₂ (λ v r. v ∷ r) (max_comm a b) (part_comm x y)

abbrev none : Row
none = pos 0 ∷ pos 0 ∷ pos 0 ∷ pos 0 ∷ []

-- no fall is below 0
none_left : (xs : List Entry) → part_by_part int_max none (falls 3 (rows_of xs)) ≡ falls 3 (rows_of xs)
none_left [] = refl
none_left (x ∷ []) = refl
none_left (x ∷ y ∷ xs) =
    let d : Row = part_by_part ◌-ℤ◌ (row_of x.value) (row_of y.value) in
    let f : Row = falls 3 (rows_of (y ∷ xs)) in
    sym (part_assoc none d f) ∙ ap (λ r. part_by_part int_max r f) (part_comm none d) ∙ part_assoc d none f ∙ ap (part_by_part int_max d) (none_left (y ∷ xs))

-- one entry has no fall
short_none : (xs : List Entry) → length xs ≤ 1 → falls 3 (rows_of xs) ≡ none
short_none [] h = refl
short_none (x ∷ []) h = refl
short_none (x ∷ y ∷ xs) h = absurd (omega arith)

max-nothing : (z : ℤ) → pos 0 ≤ℤ z → int_max z (pos 0) ≡ z
max-nothing z h = omega (arith, ints, clamps, h)

fallen-max : (m a b r : ℤ) → Fallen m → Small a → Small b → r ≡ int_max m (a -ℤ b) → Fallen r
fallen-max m a b r f p q e = record { least = omega (arith, ints, clamps, e, f.least); most = omega (arith, ints, clamps, e, f.most, p.most, q.least) }

-- the largest falls so far, and those among the entries that are left
pub record Fell (xs left : List Entry) (most : Amounts) : Type 0 where
  pub whole : part_by_part int_max (row_of most) (falls 3 (rows_of left)) ≡ falls 3 (rows_of xs)
  pub each : Each Fallen most
  pub ranged : Ranged left

pub fell_none : (xs : List Entry) → Ranged xs → Fell xs xs (record { first = pos 0; second = pos 0; third = pos 0; fourth = pos 0 })
fell_none xs r =
    let zero : Fallen (pos 0) = record { least = omega (arith, ints); most = omega (arith, ints) } in
    record { whole = none_left xs; each = record { first = zero; second = zero; third = zero; fourth = zero }; ranged = r }

-- one place more
step : (xs left : List Entry) (x y : Entry) (most d more : Amounts) → row_of d ≡ part_by_part ◌-ℤ◌ (row_of x.value) (row_of y.value) → row_of more ≡ part_by_part int_max (row_of most) (row_of d) → Fell xs (x ∷ y ∷ left) most → Fell xs (y ∷ left) more
step xs left x y most d more fall made was =
    let rows : row_of more ≡ part_by_part int_max (row_of most) (part_by_part ◌-ℤ◌ (row_of x.value) (row_of y.value)) = made ∙ ap (part_by_part int_max (row_of most)) fall in
    let later : Row = falls 3 (rows_of (y ∷ left)) in
    let a = was.ranged.0 in
    let b = was.ranged.1.0 in
    record {
      whole = ap (λ r. part_by_part int_max r later) rows ∙ part_assoc (row_of most) (part_by_part ◌-ℤ◌ (row_of x.value) (row_of y.value)) later ∙ was.whole;
      each = record {
        first = fallen-max most.first x.value.first y.value.first more.first was.each.first a.first b.first (ap (cell 0) rows);
        second = fallen-max most.second x.value.second y.value.second more.second was.each.second a.second b.second (ap (cell 1) rows);
        third = fallen-max most.third x.value.third y.value.third more.third was.each.third a.third b.third (ap (cell 2) rows);
        fourth = fallen-max most.fourth x.value.fourth y.value.fourth more.fourth was.each.fourth a.fourth b.fourth (ap (cell 3) rows);
      };
      ranged = was.ranged.1;
    }

pub fell_more : (xs left next pair : List Entry) (most d more : Amounts) → 2 ≤ length left → pair ≡ take 2 left → next ≡ drop 1 left → row_of d ≡ part_by_part ◌-ℤ◌ (row_of (get_or pair 0 zero_entry).value) (row_of (get_or pair 1 zero_entry).value) → row_of more ≡ part_by_part int_max (row_of most) (row_of d) → Fell xs left most → Fell xs next more
fell_more xs [] next pair most d more two front back fall made was = absurd (omega arith)
fell_more xs (x ∷ []) next pair most d more two front back fall made was = absurd (omega arith)
fell_more xs (x ∷ y ∷ left) next pair most d more two front back fall made was =
    let fell : row_of d ≡ part_by_part ◌-ℤ◌ (row_of x.value) (row_of y.value) =
    fall ∙ ap (λ l. part_by_part ◌-ℤ◌ (row_of (get_or l 0 zero_entry).value) (row_of (get_or l 1 zero_entry).value)) front in
    subst (λ l. Fell xs l more) (sym back) (step xs left x y most d more fell made was)

-- all places
pub fell_all : (xs left : List Entry) (most : Amounts) → length left ≤ 1 → Fell xs left most → Falls (rows_of xs) most
fell_all xs left most h was =
    let e = was.each in
    record {
      are = sym (sym was.whole ∙ ap (part_by_part int_max (row_of most)) (short_none left h) ∙ four_same (max-nothing most.first e.first.least) (max-nothing most.second e.second.least) (max-nothing most.third e.third.least) (max-nothing most.fourth e.fourth.least));
      fallen = e;
    }
