-- What stands on a roll, and what its calls make of the roll.
use Rattle.std.specs.Prelude.{◌≡◌, ℕ, false, List, [], is_ok}
use Rattle.roll.specs.Order.{Kind}
use Rattle.roll.specs.Cells.{Answer, held, room_of}
use Rattle.roll.specs.Books.{Enters, Strikes}
use Rattle.roll.specs.declared.entry.Entry.{Entry}
use Rattle.roll.specs.declared.straight.Roll.{Roll}

-- what stands on a roll
abbrev pub standing : {M : Type 0} {m : _} → Roll M m → List (Entry M)
standing r = held r.ledger

-- how many cells it has
abbrev pub cells_of : {M : Type 0} {m : _} → Roll M m → ℕ
cells_of r = room_of r.ledger

-- the roll that opening gives, over so many cells
pub record Opened {M : Type 0} {m : _} (room : ℕ) (r : Roll M m) : Type 0 where
  pub none : standing r ≡ []
  pub cells : cells_of r ≡ room

-- what `enter` makes of a roll
pub record Entered {M : Type 0} {m : _} (k : Kind (Entry M)) (was : Roll M m) (e : Entry M) (r : Answer) (is : Roll M m) : Type 0 where
  pub book : Enters k (cells_of was) (standing was) e r (standing is)
  pub cells : cells_of is ≡ cells_of was
  pub untouched : is_ok r ≡ false → is ≡ was

-- what `strike` makes of a roll
pub record Struck {M : Type 0} {m : _} (k : Kind (Entry M)) (was : Roll M m) (n : ℕ) (r : Answer) (is : Roll M m) : Type 0 where
  pub book : Strikes k (standing was) n r (standing is)
  pub cells : cells_of is ≡ cells_of was
  pub untouched : is_ok r ≡ false → is ≡ was
