-- What stands, rising by number, and what entering and striking make of it.
use Rattle.std.specs.Prelude.{ℕ, min, Bool, cond, List, length, is_ok, Ok, Err, Result, nat_lt}
use Rattle.roll.specs.Order.{numbered as numbered_by, put as put_by, without as without_by}
use Rattle.roll.specs.Cells.{Answer, tested, striking}
use Rattle.roll.specs.declared.refusal.Refusal.TheVariants.{PastColumns}
use Rattle.crossed.specs.declared.entries.Columns.{Columns}
use Rattle.crossed.specs.Entries.{Entry, in_range, past_zero}

-- of two entries the one with the smaller number comes first
abbrev pub before : Entry → Entry → Bool
before x y = nat_lt x.number y.number

-- the number n stands
abbrev pub numbered : ℕ → List Entry → Bool
numbered n xs = numbered_by (λ x. x.number) n xs

-- with e behind all that have a smaller number
abbrev pub put : Entry → List Entry → List Entry
put e xs = put_by before e xs

-- without the first that has the number n
abbrev pub without : ℕ → List Entry → List Entry
without n xs = without_by (λ x. x.number) n xs

-- what entering is answered: the first refusal that holds
abbrev pub enters : Columns → ℕ → List Entry → Entry → Answer
enters d room xs e = tested (in_range d e.value) (numbered e.number xs) (nat_lt (length xs) (min 120 room)) (past_zero d e.value) PastColumns

-- what stands after it
abbrev pub entered : Columns → ℕ → List Entry → Entry → List Entry
entered d room xs e = cond (is_ok (enters d room xs e)) (put e xs) xs

-- what striking is answered
abbrev pub strikes : List Entry → ℕ → Answer
strikes xs n = striking (λ x. x.number) xs n

-- what stands after it
abbrev pub struck : List Entry → ℕ → List Entry
struck xs n = without n xs

-- the value, unless there is a refusal
abbrev pub if_ok : {X E : Type 0} → Result (Unit {0}) E → X → Result X E
if_ok (Ok u) x = Ok x
if_ok (Err r) x = Err r
