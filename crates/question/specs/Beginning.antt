-- What the second call of a question gives: the search of an accepted question over its table, or, after a refusal, a
-- finished search of size 0 over a table that stays.
use Rattle.std.specs.Prelude.{◌≡◌, ℕ, List, [], length, Ok, Err, Result}
use Rattle.measure.specs.Algebra.{Algebra, Row}
use Rattle.sets.specs.Trace.{trace}
use Rattle.roll.specs.Totals.{rows_of, Few, Totals}
use Rattle.roll.specs.declared.refusal.Refusal.{Refusal}
use Rattle.roll.specs.declared.entry.Entry.{Entry}
use Rattle.question.specs.Asking.{sought, asking, searched_low, searched_high}
use Rattle.question.specs.Filling.{Written}
use Rattle.exploring.specs.Meaning.{table_of, count_of, size_of, coming, Sound}
use Rattle.question.specs.declared.asking.Question.{Question}
use Rattle.exploring.specs.declared.state.Search.{Search}

-- the search of an accepted question, where the entries xs stand and come to `all`: its table is written, and what it has to
-- come is the trace of their rows between the ends of the sought band
pub record Starts {M : Type 0} (a : Algebra) (row : M → Row) (span : M → ℕ) (xs : List (Entry M)) (all : M) (q : Question M) (was : List M) (s : Search M) : Type 0 where
  pub written : Written a row span xs all q was (table_of s)
  pub count : Few span xs → count_of s ≡ length xs
  pub size : Few span xs → size_of s ≡ sought q.side (length xs) q.size
  pub sound : Few span xs → Sound a row span s
  pub comes : Few span xs → Totals a row span xs all → coming a row s ≡ trace a (rows_of row xs) (searched_low a row (rows_of row xs) q) (searched_high a row (rows_of row xs) q) (sought q.side (length xs) q.size)

-- the search after a refusal
pub record Stays {M : Type 0} (a : Algebra) (row : M → Row) (was : List M) (s : Search M) : Type 0 where
  pub table : table_of s ≡ was
  pub size : size_of s ≡ 0
  pub comes : coming a row s ≡ []

-- the search for what the question is answered
abbrev pub BeginsBy : {M : Type 0} → Algebra → (M → Row) → (M → ℕ) → List (Entry M) → M → Question M → List M → Search M → Result (Unit {0}) Refusal → Type 0
BeginsBy a row span xs all q was s (Ok u) = Starts a row span xs all q was s
BeginsBy a row span xs all q was s (Err r) = Stays a row was s

abbrev pub Begins : {M : Type 0} → Algebra → (M → Row) → (M → ℕ) → List (Entry M) → M → Question M → List M → Search M → Type 0
Begins a row span xs all q was s = BeginsBy a row span xs all q was s (asking a row span (length xs) q (length was))

-- the search of a question to a roll on which xs stand; what the entries come to is worked out from them
pub record Answers {M : Type 0} (a : Algebra) (row : M → Row) (span : M → ℕ) (xs : List (Entry M)) (q : Question M) (was : List M) (s : Search M) : Type 0 where
  pub all : M
  pub totals : Totals a row span xs all
  pub begins : Begins a row span xs all q was s
