-- Examples worked by hand: one table, and what the definitions must give of each row of it.
use Rattle.std.specs.Prelude.{◌≡◌, ℕ, Bool, true, false, ◌&&◌, List, [], ◌∷◌, length, pos, negsuc, Some, None, Ok, Err, Option, ◌==◌}
use Rattle.measure.specs.Algebra.{Algebra, Row, joined}
use Rattle.measure.specs.Cents.{cents}
use Rattle.sets.specs.Crossed.{crossed, crossed_solutions}
use Rattle.sets.specs.Sets.{solutions}
use Rattle.sets.specs.Spaces.{same}
use Rattle.sets.specs.Trace.{Trace, trace, somes}
use Rattle.roll.specs.Books.{entering}
use Rattle.roll.specs.Order.{Kind}
use Rattle.roll.specs.declared.refusal.Refusal.TheVariants.{Incomparable, ShortTable}
use Rattle.question.specs.Asking.{sought, asking, searched_low, searched_high}
use Rattle.question.specs.declared.asking.Side.{Side}
use Rattle.question.specs.declared.asking.Side.TheVariants.{Paid, Left}
use Rattle.question.specs.declared.asking.Question.{Question}

-- what a search has to come, the solutions by definition, the sets that both must give, and the steps where they are known
pub record Example : Type 0 where
  pub comes : Trace
  pub solved : List (List ℕ)
  pub sets : List (List ℕ)
  pub steps : Option ℕ

abbrev asks : Side → ℕ → Row → Row → Question Row
asks side l low high = record { side = side; size = l; band = record { low = low; high = high } }

-- a question to a straight roll whose rows stand in this order
abbrev straight : Algebra → List Row → Question Row → List (List ℕ) → Option ℕ → Example
straight a rs q found steps =
    let low : Row = searched_low a (λ x. x) rs q in
    let high : Row = searched_high a (λ x. x) rs q in
    let m : ℕ = sought q.side (length rs) q.size in
    record { comes = trace a rs low high m; solved = solutions a rs m low high; sets = found; steps = steps }

-- a question to a crossed roll of four columns
abbrev over_columns : List Row → ℕ → Row → Row → List (List ℕ) → Example
over_columns rs l low high found = record { comes = crossed 3 rs low high l; solved = crossed_solutions 3 rs low high l; sets = found; steps = None }

abbrev one : ℕ → Row
one n = pos n ∷ []

abbrev two : ℕ → ℕ → Row
two m n = pos m ∷ pos n ∷ []

abbrev four : ℕ → ℕ → Row
four m n = pos m ∷ pos n ∷ pos 0 ∷ pos 0 ∷ []

abbrev upto_four : List Row
upto_four = one 1 ∷ one 2 ∷ one 3 ∷ one 4 ∷ []

-- the table
abbrev pub examples : List Example
examples =
    straight cents upto_four (asks Paid 2 (one 5) (one 5)) ((1 ∷ 4 ∷ []) ∷ (2 ∷ 3 ∷ []) ∷ []) (Some 3)
    ∷ straight cents upto_four (asks Paid 4 (one 10) (one 10)) ((1 ∷ 2 ∷ 3 ∷ 4 ∷ []) ∷ []) (Some 1)
    ∷ straight cents upto_four (asks Paid 4 (one 9) (one 9)) [] (Some 1)
    ∷ straight cents upto_four (asks Left 1 (one 4) (one 4)) ((1 ∷ 2 ∷ 3 ∷ []) ∷ []) None
    ∷ straight cents (one 5 ∷ one 5 ∷ one 5 ∷ []) (asks Paid 2 (one 10) (one 10)) ((1 ∷ 2 ∷ []) ∷ (1 ∷ 3 ∷ []) ∷ (2 ∷ 3 ∷ []) ∷ []) (Some 5)
    ∷ straight cents ((negsuc 2 ∷ []) ∷ one 0 ∷ one 3 ∷ []) (asks Paid 2 (one 0) (one 0)) ((1 ∷ 3 ∷ []) ∷ []) (Some 1)
    ∷ straight (joined cents cents) (two 1 1 ∷ two 2 1 ∷ two 2 5 ∷ []) (asks Paid 2 (two 3 2) (two 3 6)) ((1 ∷ 2 ∷ []) ∷ (1 ∷ 3 ∷ []) ∷ []) (Some 3)
    ∷ over_columns (four 4 10 ∷ four 7 3 ∷ four 5 8 ∷ four 9 1 ∷ []) 2 (four 12 9) (four 14 11) ((1 ∷ 4 ∷ []) ∷ (2 ∷ 3 ∷ []) ∷ (3 ∷ 4 ∷ []) ∷ [])
    ∷ []

abbrev same_sets : List (List ℕ) → List (List ℕ) → Bool
same_sets [] [] = true
same_sets [] (t ∷ ts) = false
same_sets (s ∷ ss) [] = false
same_sets (s ∷ ss) (t ∷ ts) = same s t && same_sets ss ts

abbrev in_steps : ℕ → Option ℕ → Bool
in_steps n None = true
in_steps n (Some k) = n == k

-- the search hands out these sets in these steps, and they are the solutions
abbrev agrees : Example → Bool
agrees e = same_sets (somes e.comes) e.sets && same_sets e.solved e.sets && in_steps (length e.comes) e.steps

abbrev all_agree : List Example → Bool
all_agree [] = true
all_agree (e ∷ es) = agrees e && all_agree es

-- entries of two amounts, told apart by number and compared part by part
abbrev pairs : Kind (ℕ × Row)
pairs = record { number = λ e. e.0; admitted = λ e. true; not_above = λ x y. (joined cents cents).not_above x.1 y.1 }

pub record WorkedExamples : Type 0 where
  pub table : all_agree examples ≡ true
  -- for two of four entries nine values are enough, and eight are not
  pub nine : asking cents (λ x. x) (λ x. 1) 4 (asks Paid 2 (one 5) (one 5)) 9 ≡ Ok tt
  pub eight : asking cents (λ x. x) (λ x. 1) 4 (asks Paid 2 (one 5) (one 5)) 8 ≡ Err ShortTable
  -- (0, 9) cannot be compared with (1, 1)
  pub apart : entering pairs 120 ((1, two 1 1) ∷ []) (2, two 0 9) ≡ Err Incomparable
