-- What a loop that adds up entries comes to: the total of all their places.
use Rattle.std.proofs.Common.{◌≡◌, ℕ, zero, suc, ◌+◌, ◌-◌, ◌<◌, ◌≤◌, List, [], ◌∷◌, ◌++◌, length, get_or, take, sym, refl, ap, ◌∙◌, subst, ap₂, arith}
use Rattle.std.specs.List.{range_with_len}
use Rattle.std.proofs.lemmas.List.{take_more}
use Rattle.std.proofs.ByRecursion.{All-get_or}
use Rattle.measure.specs.Algebra.{Algebra, Laws, Row, Own}
use Rattle.sets.specs.Sets.{total}
use Rattle.roll.specs.Totals.{rows_of, Few}
use Rattle.roll.specs.declared.entry.Entry.{Entry}

-- the rows of entries, added from the last to the first
abbrev pub sums : {M : Type 0} → Algebra → (M → Row) → List (Entry M) → Row
sums a row [] = a.nothing
sums a row (x ∷ xs) = a.plus (row x.value) (sums a row xs)

-- a place more for each, behind one more row
behind : (a : Algebra) (x : Row) (xs : List Row) (p n : ℕ) → 0 < p → total a (x ∷ xs) (range_with_len (p + 1) n) ≡ total a xs (range_with_len p n)
behind a x xs p zero h = refl
behind a x xs p (suc n) h =
    let z : p + 1 - 1 ≡ suc (p - 1) = omega arith in
    ap₂ a.plus (ap (λ i. get_or (x ∷ xs) i []) z) (behind a x xs (p + 1) n (omega arith))

pub all_places : {M : Type 0} (a : Algebra) (row : M → Row) (xs : List (Entry M)) → sums a row xs ≡ total a (rows_of row xs) (range_with_len 1 (length xs))
all_places a row [] = refl
all_places a row (x ∷ xs) =
    ap (a.plus (row x.value)) (all_places a row xs ∙ sym (behind a (row x.value) (rows_of row xs) 1 (length xs) (omega arith)))

module _ {M : Type 0} {a : Algebra} (laws : Laws a) (row : M → Row) (owned : (v : M) → Own a (row v)) where
  sums-own : (xs : List (Entry M)) → Own a (sums a row xs)
  sums-own [] = laws.nothing_own
  sums-own (x ∷ xs) = laws.plus_own (row x.value) (sums a row xs) (owned x.value) (sums-own xs)

  sums-append : (xs ys : List (Entry M)) → sums a row (xs ++ ys) ≡ a.plus (sums a row xs) (sums a row ys)
  sums-append [] ys =
      sym (laws.plus_nothing (sums a row ys) (sums-own ys)) ∙ laws.plus_comm (sums a row ys) a.nothing (sums-own ys) laws.nothing_own
  sums-append (x ∷ xs) ys =
      ap (a.plus (row x.value)) (sums-append xs ys)
      ∙ sym (laws.plus_assoc (row x.value) (sums a row xs) (sums a row ys) (owned x.value) (sums-own xs) (sums-own ys))

  -- one entry more
  pub sums_next : (xs : List (Entry M)) (i : ℕ) (x : Entry M) → i < length xs → x ≡ get_or xs i x → a.plus (sums a row (take i xs)) (row x.value) ≡ sums a row (take (i + 1) xs)
  sums_next xs i x within read =
      let pushed : take (i + 1) xs ≡ take i xs ++ (x ∷ []) = take_more xs i x within ∙ ap (λ y. take i xs ++ (y ∷ [])) (sym read) in
      sym (ap (sums a row) pushed ∙ sums-append (take i xs) (x ∷ []) ∙ ap (a.plus (sums a row (take i xs))) (laws.plus_nothing (row x.value) (owned x.value)))

pub few_at : {M : Type 0} (span : M → ℕ) (xs : List (Entry M)) (i : ℕ) (x : Entry M) → i < length xs → x ≡ get_or xs i x → Few span xs → span x.value ≤ 1
few_at span xs i x within read few = subst (λ y. span y.value ≤ 1) (sym read) (All-get_or (λ y. span y.value ≤ 1) xs i x within few.each)
