-- What calls can lead to, and what holds of it.
use Rattle.std.specs.Prelude.{◌≡◌, ℕ, ◌^◌, ◌<◌, ◌≤◌, true, List, [], ◌∷◌, length}
use Rattle.std.specs.List.{AllByRecursion}
use Rattle.crossed.specs.declared.entries.Columns.{Columns}
use Rattle.crossed.specs.Entries.{Entry, in_range, past_zero}
use Rattle.crossed.specs.Books.{entered, struck}

-- what opening, entering and striking can lead to, whatever room there is
pub data Reachable (d : Columns) : List Entry → Type 0 where
  by_open : Reachable d []
  by_enter : {xs : List Entry} (room : ℕ) (e : Entry) → e.number < 2 ^ 32 → Reachable d xs → Reachable d (entered d room xs e)
  by_strike : {xs : List Entry} (n : ℕ) → Reachable d xs → Reachable d (struck xs n)

-- each number is below those after it
abbrev pub Rising : List Entry → Type 0
Rising [] = Unit {0}
Rising (x ∷ xs) = AllByRecursion (λ y. x.number < y.number) xs × Rising xs

-- a roll of so many columns may hold the entry
abbrev pub Admitted : Columns → Entry → Type 0
Admitted d e = (e.number < 2 ^ 32) × (in_range d e.value ≡ true) × (past_zero d e.value ≡ true)

-- rising, admitted and at most 120
abbrev pub WellFormed : Columns → List Entry → Type 0
WellFormed d xs = Rising xs × AllByRecursion (Admitted d) xs × (length xs ≤ 120)

abbrev pub AlwaysWellFormed : Type 0
AlwaysWellFormed = (d : Columns) (xs : List Entry) → Reachable d xs → WellFormed d xs
