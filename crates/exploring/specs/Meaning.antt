-- What a search means, and what each of its calls tells.
use Rattle.std.specs.Prelude.{◌≡◌, ℕ, cond, List, [], length}
use Rattle.measure.specs.Algebra.{Algebra, Row}
use Rattle.sets.specs.Trace.{Trace, trace}
use Rattle.sets.specs.Advance.{End, set, spent, finished, Run, page_of}
use Rattle.exploring.specs.declared.state.Search.{Search}
use Rattle.exploring.specs.declared.state.Told.{Told}
use Rattle.exploring.specs.declared.state.Told.TheVariants.{Set, Spent, Finished}
use Rattle.exploring.specs.declared.state.Answer.{Answer}
use Rattle.squeezing.specs.Table.{entries, Holds, fits}
use Rattle.exploring.specs.Waiting.{left_of}

-- the table that a search reads
abbrev pub table_of : {M : Type 0} → Search M → List M
table_of s = s.table.now

-- how many entries a search chooses from
abbrev pub count_of : {M : Type 0} → Search M → ℕ
count_of s = s.work.frontier.root.n

-- how many places each of its sets has
abbrev pub size_of : {M : Type 0} → Search M → ℕ
size_of s = s.work.frontier.root.m

-- what a search has still to come
abbrev pub coming : {M : Type 0} → Algebra → (M → Row) → Search M → Trace
coming a row s = left_of a row (table_of s) s.work

-- the table of a search holds the totals of neighbours of its entries
abbrev pub Sound : {M : Type 0} → Algebra → (M → Row) → (M → ℕ) → Search M → Type 0
Sound a row span s = Holds a row span (count_of s) (size_of s) (table_of s)

-- what a search that begins has to come: the trace of the entries in the table's first column, or nothing if its sizes do not fit
abbrev pub planned : {M : Type 0} → Algebra → (M → Row) → ℕ → ℕ → List M → Row → Row → Trace
planned a row n m table low high = cond (fits n m (length table)) (trace a (entries row n table) low high m) []

-- a search was begun over a table, for sets of m of n entries; where the sizes do not fit it is for sets of 0 of 0
pub record Begun {M : Type 0} (a : Algebra) (row : M → Row) (span : M → ℕ) (n m : ℕ) (table : List M) (low high : M) (s : Search M) : Type 0 where
  pub table_is : table_of s ≡ table
  pub count_is : count_of s ≡ cond (fits n m (length table)) n 0
  pub size_is : size_of s ≡ cond (fits n m (length table)) m 0
  pub comes : coming a row s ≡ planned a row n m table (row low) (row high)
  pub sound : Holds a row span n m table → Sound a row span s

-- a search goes on over the same table, for sets of as many of as many entries
pub record Same {M : Type 0} (s s' : Search M) : Type 0 where
  pub table_same : table_of s' ≡ table_of s
  pub count_same : count_of s' ≡ count_of s
  pub size_same : size_of s' ≡ size_of s

-- what an advance tells of the way in which it ended
abbrev pub told_of : End → Told
told_of (set ps) = Set
told_of spent = Spent
told_of finished = Finished

-- the answer, the page and the items that are left are those of the run
pub record Ran (w : Run) (answer : Answer) (page page' : List ℕ) (left : Trace) : Type 0 where
  pub told : answer.told ≡ told_of w.end
  pub steps : answer.steps ≡ w.steps
  pub page_is : page' ≡ page_of w.end page
  pub rest : left ≡ w.rest
