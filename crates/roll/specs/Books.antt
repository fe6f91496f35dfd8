-- The book of a roll is the list of what stands on it. What each call makes of a book, what calls in any order keep, and that
-- what stands settles its order.
use Rattle.std.specs.Prelude.{◌≡◌, ℕ, ◌≤◌, min, true, cond, ◌⊎◌, List, [], map, length, is_ok, Ok, ◌≢◌, nat_le, nat_lt}
use Rattle.std.specs.List.{AllByRecursion}
use Rattle.measure.specs.Algebra.{Algebra, Row}
use Rattle.sets.specs.Orders.{In, Sorted}
use Rattle.roll.specs.Order.{Kind, before, numbered, comparable, put, without}
use Rattle.roll.specs.Cells.{Answer, tested, striking}
use Rattle.roll.specs.declared.entry.Entry.{Entry}
use Rattle.roll.specs.declared.refusal.Refusal.TheVariants.{Incomparable}

-- entries by their number, and by what a measure makes of their value
abbrev pub kind : {M : Type 0} → Algebra → (M → Row) → (M → ℕ) → Kind (Entry M)
kind a row span = record {
  number = λ e. e.number;
  admitted = λ e. nat_le (span e.value) 1;
  not_above = λ x y. a.not_above (row x.value) (row y.value);
}

-- what entering e answers where xs stand and there are so many cells: the first refusal that is met
abbrev pub entering : {X : Type 0} → Kind X → ℕ → List X → X → Answer
entering k room xs e = tested (k.admitted e) (numbered k.number (k.number e) xs) (nat_lt (length xs) (min 120 room)) (comparable k e xs) Incomparable

-- what stands after it
abbrev pub entered : {X : Type 0} → Kind X → ℕ → List X → X → List X
entered k room xs e = cond (is_ok (entering k room xs e)) (put (before k) e xs) xs

-- each stands before all that come after it
abbrev pub Ordered : {X : Type 0} → Kind X → List X → Type 0
Ordered k xs = Sorted (λ x y. before k x y ≡ true) xs

-- no number stands twice
abbrev pub Once : {X : Type 0} → Kind X → List X → Type 0
Once k xs = Sorted (λ x y. k.number x ≢ k.number y) xs

-- what opening gives, and every call keeps
pub record Kept {X : Type 0} (k : Kind X) (xs : List X) : Type 0 where
  pub ordered : Ordered k xs
  pub once : Once k xs
  pub admitted : AllByRecursion (λ x. k.admitted x ≡ true) xs
  pub few : length xs ≤ 120

-- what entering e makes of a book, on a roll of so many cells
pub record Enters {X : Type 0} (k : Kind X) (room : ℕ) (was : List X) (e : X) (r : Answer) (is : List X) : Type 0 where
  pub answer : r ≡ entering k room was e
  pub after : is ≡ entered k room was e

-- what striking the number n makes of a book
pub record Strikes {X : Type 0} (k : Kind X) (was : List X) (n : ℕ) (r : Answer) (is : List X) : Type 0 where
  pub answer : r ≡ striking k.number was n
  pub after : is ≡ without k.number n was

-- the books that calls in any order can make, on a roll of so many cells
pub data Ran {X : Type 0} (k : Kind X) (room : ℕ) : List X → Type 0 where
  opened : Ran k room []
  did_enter : {xs ys : List X} (e : X) (r : Answer) → Ran k room xs → Enters k room xs e r ys → Ran k room ys
  did_strike : {xs ys : List X} (n : ℕ) (r : Answer) → Ran k room xs → Strikes k xs n r ys → Ran k room ys

-- after any calls what stands is in order, each number once, all of it admitted, and at most 120
abbrev pub AlwaysKept : {X : Type 0} → Kind X → Type 0
AlwaysKept {X} k = (room : ℕ) (xs : List X) → Ran k room xs → Kept k xs

-- an entering that is not refused adds its entry, and nothing else changes
abbrev pub Adds : {X : Type 0} → Kind X → Type 0
Adds {X} k = (room : ℕ) (xs ys : List X) (e z : X) → Enters k room xs e (Ok tt) ys → (In z ys → (z ≡ e) ⊎ In z xs) × ((z ≡ e) ⊎ In z xs → In z ys)

-- a striking takes out what has its number, and nothing else changes
abbrev pub Takes : {X : Type 0} → Kind X → Type 0
Takes {X} k = (n : ℕ) (r : Answer) (xs ys : List X) (z : X) → Once k xs → Strikes k xs n r ys → (In z ys → In z xs × (k.number z ≢ n)) × (In z xs × (k.number z ≢ n) → In z ys)

-- number and row of an entry
abbrev pub line : {M : Type 0} → (M → Row) → Entry M → ℕ × Row
line row e = (e.number, row e.value)

-- the same things stand, in whatever order
abbrev pub Same : {X : Type 0} → List X → List X → Type 0
Same {X} xs ys = (x : X) → (In x xs → In x ys) × (In x ys → In x xs)

-- two books with the same numbers and rows have them in the same order, however they came there
abbrev pub SameOrder : {M : Type 0} → Kind (Entry M) → (M → Row) → Type 0
SameOrder {M} k row = (room room' : ℕ) (xs ys : List (Entry M)) → Ran k room xs → Ran k room' ys → Same (map (line row) xs) (map (line row) ys) → map (line row) xs ≡ map (line row) ys
