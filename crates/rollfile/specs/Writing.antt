-- What is written over an output.
use Rattle.std.specs.Prelude.{◌≡◌, ℕ, ◌+◌, ◌≤◌, cond, List, ◌++◌, length, take, drop, replicate, Ok, Err, Result, nat_lt}
use Rattle.roll.specs.declared.refusal.Refusal.{Refusal}
use Rattle.roll.specs.declared.refusal.Refusal.TheVariants.{TooLong}
use Rattle.crossed.specs.declared.rolls.Roll.{Roll}
use Rattle.crossed.specs.Rolls.{standing}
use Rattle.rollfile.specs.declared.encoding.Writer.{Writer}
use Rattle.rollfile.specs.Files.{reads, writes}

-- bs over what stands from a place on; what is before and behind stays
abbrev pub over : List ℕ → ℕ → List ℕ → List ℕ
over out at bs = take at out ++ (bs ++ drop (at + length bs) out)

-- bytes that there is room for are written behind what is written
pub record Puts (was : Writer) (bs : List ℕ) (is : Writer) : Type 0 where
  pub output : is.out.now ≡ over was.out.now was.at bs
  pub place : is.at ≡ was.at + length bs
  pub room : was.at + length bs ≤ length was.out.now
  pub same_reference : is.out.ghost_name ≡ was.out.ghost_name

-- how many bytes are written, if there is room for them
abbrev pub written : List ℕ → List ℕ → Result ℕ Refusal
written out bs = cond (nat_lt (length out) (length bs)) (Err TooLong) (Ok (length bs))

-- what stands then: the bytes and what was behind them, or zeros
abbrev pub output_after : List ℕ → List ℕ → List ℕ
output_after out bs = cond (nat_lt (length out) (length bs)) (replicate (length out) 0) (over out 0 bs)

-- a roll is written: the answer r, and what stands in the output before and after
pub record Written (roll : Roll) (was : List ℕ) (r : Result ℕ Refusal) (is : List ℕ) : Type 0 where
  pub answer : r ≡ written was (writes roll.columns (standing roll))
  pub output : is ≡ output_after was (writes roll.columns (standing roll))
  pub reads_back : (n room : ℕ) → r ≡ Ok n → length (standing roll) ≤ room → reads (take n is) room ≡ Ok (roll.columns, standing roll)
