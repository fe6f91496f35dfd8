-- What stands on a roll, and what each call makes of the roll.
use Rattle.std.specs.Prelude.{◌≡◌, ℕ, false, List, [], replicate, is_ok}
use Rattle.roll.specs.Cells.{Answer, held, room_of as cells_of}
use Rattle.crossed.specs.declared.entries.Columns.{Columns}
use Rattle.crossed.specs.declared.rolls.Roll.{Roll}
use Rattle.crossed.specs.Entries.{Entry, zero_entry}
use Rattle.crossed.specs.Reachable.{Reachable}
use Rattle.crossed.specs.Books.{enters, entered, strikes, struck}

-- what stands
abbrev pub standing : Roll → List Entry
standing r = held r.ledger

-- how many cells the roll has
abbrev pub room_of : Roll → ℕ
room_of r = cells_of r.ledger

-- what its cells hold, those behind what stands too
abbrev pub memory_of : Roll → List Entry
memory_of r = r.ledger.cells.now

-- a roll of d columns opened over so many cells
pub record Opened (cells : ℕ) (d : Columns) (is : Roll) : Type 0 where
  pub stands : standing is ≡ []
  pub columns : is.columns ≡ d
  pub room : room_of is ≡ cells

-- entering e on a roll that was so: the answer r, and how the roll is then
pub record Entered (was : Roll) (e : Entry) (r : Answer) (is : Roll) : Type 0 where
  pub answer : r ≡ enters was.columns (room_of was) (standing was) e
  pub stands : standing is ≡ entered was.columns (room_of was) (standing was) e
  pub columns : is.columns ≡ was.columns
  pub room : room_of is ≡ room_of was
  pub untouched : is_ok r ≡ false → is ≡ was

-- striking the number n
pub record Struck (was : Roll) (n : ℕ) (r : Answer) (is : Roll) : Type 0 where
  pub answer : r ≡ strikes (standing was) n
  pub stands : standing is ≡ struck (standing was) n
  pub columns : is.columns ≡ was.columns
  pub room : room_of is ≡ room_of was
  pub untouched : is_ok r ≡ false → is ≡ was

-- every roll there is stands as opening, entering and striking can lead to
abbrev pub AlwaysReached : Type 0
AlwaysReached = (r : Roll) → Reachable r.columns (standing r)

-- beginning anew with d columns
pub record Reopened (was : Roll) (d : Columns) (is : Roll) : Type 0 where
  pub stands : standing is ≡ []
  pub columns : is.columns ≡ d
  pub zero : memory_of is ≡ replicate (room_of was) zero_entry
