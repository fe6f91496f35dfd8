-- What stands in a ledger, and what its calls answer and leave.
use Rattle.std.specs.Prelude.{◌≡◌, ℕ, zero, suc, min, Bool, true, false, cond, List, [], ◌∷◌, length, take, is_ok, Some, None, Ok, Err, Option, Result, nat_lt}
use Rattle.std.specs.List.{insert}
use Rattle.roll.specs.Order.{numbered}
use Rattle.roll.specs.declared.ledger.Ledger.{Ledger}
use Rattle.roll.specs.declared.entry.Entry.{Entry}
use Rattle.roll.specs.declared.refusal.Refusal.{Refusal}
use Rattle.roll.specs.declared.refusal.Refusal.TheVariants.{Inadmissible, NumberTaken, RollFull, NumberUnknown}

-- what stands in a ledger
abbrev pub held : {V : Type 0} → Ledger V → List (Entry V)
held b = take b.count b.cells.now

-- how many cells it has
abbrev pub room_of : {V : Type 0} → Ledger V → ℕ
room_of b = length b.cells.now

-- what stands at a place; places count from 1
abbrev pub at : {X : Type 0} → List X → ℕ → Option X
at [] p = None
at (x ∷ xs) zero = None
at (x ∷ xs) (suc zero) = Some x
at (x ∷ xs) (suc (suc p)) = at xs (suc p)

-- nothing, or the refusal that the call meets
abbrev pub Answer : Type 0
Answer = Result (Unit {0}) Refusal

-- what entering answers, by four tests in turn: the value is admitted, its number stands already, there is room, and the last,
-- which has a refusal of its own
abbrev pub tested : Bool → Bool → Bool → Bool → Refusal → Answer
tested admitted numbered room last misfit =
    cond admitted (cond numbered (Err NumberTaken) (cond room (cond last (Ok tt) (Err misfit)) (Err RollFull))) (Err Inadmissible)

-- what striking the number n answers where xs stand
abbrev pub striking : {X : Type 0} → (X → ℕ) → List X → ℕ → Answer
striking number xs n = cond (numbered number n xs) (Ok tt) (Err NumberUnknown)

-- what putting e behind the first i makes of a ledger, or behind all if there are fewer
pub record Inserted {V : Type 0} (was : Ledger V) (i : ℕ) (e : Entry V) (r : Answer) (is : Ledger V) : Type 0 where
  pub answer : r ≡ cond (nat_lt (length (held was)) (min 120 (room_of was))) (Ok tt) (Err RollFull)
  pub after : is_ok r ≡ true → held is ≡ insert (held was) (min i (length (held was))) e
  pub room : room_of is ≡ room_of was
  pub untouched : is_ok r ≡ false → is ≡ was
