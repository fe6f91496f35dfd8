-- What is added up stands for what was put together.
use Rattle.std.proofs.Common.{◌≡◌, ℕ, zero, suc, ◌+◌, ◌-◌, ◌<◌, ◌≤◌, true, List, [], ◌∷◌, ◌++◌, map, length, get_or, take, sym, ap, ◌∙◌, arith, length-append, length-take}
use Rattle.std.specs.List.{All, range_with_len}
use Rattle.std.proofs.lemmas.List.Elements.{All-from_get_or, All-head, All-tail}
use Rattle.std.proofs.lemmas.List.FromFn.{length-range_with_len, get_or-range_with_len}
use Rattle.std.proofs.lemmas.List.{length-map}
use Rattle.measure.specs.Algebra.{Algebra, Laws, Row}
use Rattle.sets.specs.Sets.{total, at_place}
use Rattle.squeezing.specs.Table.{Stood, Stands, entries}
use Rattle.squeezing.specs.Standing.{Places}
use Rattle.squeezing.specs.declared.fixed.Fixed.{Fixed}

-- a place is one of 1 to n
abbrev pub IsPlace : ℕ → ℕ → Type 0
IsPlace n p = (1 ≤ p) × (p ≤ n)

-- each of the places is one of 1 to n
abbrev pub Inside : ℕ → List ℕ → Type 0
Inside n ps = All (IsPlace n) ps

-- `plus` gave r
abbrev pub Adds : {M : Type 0} → Algebra → (M → Row) → (M → ℕ) → M → M → M → Type 0
Adds a row span x y r = (span x + span y ≤ 240 → row r ≡ a.plus (row x) (row y)) × (span x + span y ≤ 240 → span r ≤ span x + span y)

pub stands_none : {M : Type 0} (a : Algebra) (row : M → Row) (span : M → ℕ) (n m : ℕ) (table : List M) (r : M) → (row r ≡ a.nothing) × (span r ≡ 0) → Stands a row span n m table [] r
stands_none a row span n m table r e = record { stood = λ held. record { row_is = e.0; span_le = omega (arith, e.1) } }

module _ (a : Algebra) (laws : Laws a) (xs : List Row) (own : (p : ℕ) → 1 ≤ p → p ≤ length xs → a.own (at_place xs p) ≡ true) where
  pub total-own : (ps : List ℕ) → Inside (length xs) ps → a.own (total a xs ps) ≡ true
  total-own [] i = laws.nothing_own
  total-own (p ∷ ps) i = let here = All-head (IsPlace (length xs)) p ps i in laws.plus_own _ _ (own p here.0 here.1) (total-own ps (All-tail (IsPlace (length xs)) p ps i))

  pub total-append : (ps qs : List ℕ) → Inside (length xs) ps → Inside (length xs) qs → total a xs (ps ++ qs) ≡ a.plus (total a xs ps) (total a xs qs)
  total-append [] qs i j = sym (laws.plus_comm _ _ laws.nothing_own (total-own qs j) ∙ laws.plus_nothing _ (total-own qs j))
  total-append (p ∷ ps) qs i j =
      let here = All-head (IsPlace (length xs)) p ps i in
      let rest = All-tail (IsPlace (length xs)) p ps i in
      ap (a.plus (at_place xs p)) (total-append ps qs rest j)
      ∙ sym (laws.plus_assoc _ _ _ (own p here.0 here.1) (total-own ps rest) (total-own qs j))

  -- a sum that `plus` gives stands for both sets of places together
  pub stands_plus : {M : Type 0} (row : M → Row) (span : M → ℕ) (ps qs : List ℕ) (x y r : M) → Inside (length xs) ps → Inside (length xs) qs → length ps + length qs ≤ 240 → Stood a row span xs ps x → Stood a row span xs qs y → Adds a row span x y r → Stood a row span xs (ps ++ qs) r
  stands_plus row span ps qs x y r i j few s t sum =
      let small : span x + span y ≤ 240 = omega (arith, s.span_le, t.span_le) in
      record {
        row_is = sum.0 small ∙ ap (λ z. a.plus z (row y)) s.row_is ∙ ap (a.plus (total a xs ps)) t.row_is ∙ sym (total-append ps qs i j);
        span_le = omega (arith, sum.1 small, s.span_le, t.span_le, length-append ps qs);
      }

-- the rows of a table are the algebra's own
pub entries-length : {M : Type 0} (row : M → Row) (n : ℕ) (table : List M) → n ≤ length table → length (entries row n table) ≡ n
entries-length row n table h = length-map (take n table) row ∙ length-take n table ∙ (omega arith)

module _ {M : Type 0} (a : Algebra) (row : M → Row) (own : (x : M) → a.own (row x) ≡ true) where
  pub each_own : (ys : List M) (k : ℕ) → k < length (map row ys) → a.own (get_or (map row ys) k []) ≡ true
  each_own [] k l = absurd (omega arith)
  each_own (y ∷ ys) zero l = own y
  each_own (y ∷ ys) (suc k) l = each_own ys k (omega arith)

  pub entries-own : (n : ℕ) (table : List M) (p : ℕ) → 1 ≤ p → p ≤ length (entries row n table) → a.own (at_place (entries row n table) p) ≡ true
  entries-own n table p h l = each_own (take n table) (p - 1) (omega arith)

pub inside_counting : (n p k : ℕ) → 1 ≤ p → p + k ≤ n + 1 → Inside n (range_with_len p k)
inside_counting n p k h l = All-from_get_or (IsPlace n) (range_with_len p k) 0 (λ i j.
    let below : i < k = omega (arith, length-range_with_len p k) in
    let here = get_or-range_with_len p k i 0 below in
    (omega (arith, here), omega (arith, here)))

pub inside-places : (n : ℕ) (hi : List ℕ) → Places n hi → Inside n hi
inside-places n hi u = All-from_get_or (IsPlace n) hi 0 (λ j l. (omega (arith, u.least j l), u.most j l))

-- what a value of fixed places keeps
pub places_of : {M : Type 0} (f : Fixed M) → Places f.totals.now.n f.places.now
places_of f = record {
  least = λ j h. f.roomy j (omega (arith, f.many));
  most = λ j h. f.upto j (omega (arith, f.many));
  rising = λ j h. f.rising j (omega (arith, f.many));
}

pub places_few : (n : ℕ) (hi : List ℕ) → Places n hi → length hi ≤ n
places_few n [] u = omega arith
places_few n (h ∷ hi) u = omega (arith, u.least (length hi) (omega arith), u.most (length hi) (omega arith))

-- what the code adds up: where the table holds, the total of what was put together
module _ {M : Type 0} (a : Algebra) (laws : Laws a) (row : M → Row) (span : M → ℕ) (own : (x : M) → a.own (row x) ≡ true) (n m : ℕ) (table : List M) where
  pub join : (ps qs : List ℕ) (x y r : M) → Inside n ps → Inside n qs → length ps + length qs ≤ 240 → Stands a row span n m table ps x → Stands a row span n m table qs y → Adds a row span x y r → Stands a row span n m table (ps ++ qs) r
  join ps qs x y r i j few s t sum = record {
    stood = λ held.
        let count_is : length (entries row n table) ≡ n = entries-length row n table held.enough in
        stands_plus a laws (entries row n table) (entries-own a row own n table) row span ps qs x y r (rw count_is i) (rw count_is j) few (s.stood held) (t.stood held) sum;
  }
