-- What holds of traces, for every lawful kind of amount and all rows of which none is above the next.
use Rattle.std.specs.Prelude.{◌≡◌, ℕ, ◌-◌, ◌*◌, ◌<◌, ◌≤◌, List, map, reverse, length}
use Rattle.measure.specs.Algebra.{Algebra, Row, Laws, Own}
use Rattle.sets.specs.Sets.{Rows, sets, complement, solutions}
use Rattle.sets.specs.Trace.{trace, somes}

-- the complements of the sets of m of n places are the sets of n - m places, back to front
abbrev pub Complements : Type 0
Complements = (n m : ℕ) → m ≤ n → map (complement 1 n) (sets 1 n m) ≡ reverse (sets 1 n (n - m))

-- the sets of a trace are the solutions, once each, in place order
abbrev pub TraceFinds : Type 0
TraceFinds = (a : Algebra) → Laws a → (xs : List Row) → Rows a xs → (low high : Row) → Own a low → Own a high → (m : ℕ) → 0 < m → m ≤ length xs → somes (trace a xs low high m) ≡ solutions a xs m low high

-- a trace has at most twice as many items, less one, as there are sets of m places
abbrev pub TraceCounts : Type 0
TraceCounts = (a : Algebra) → Laws a → (xs : List Row) → Rows a xs → (low high : Row) → Own a low → Own a high → (m : ℕ) → 0 < m → m ≤ length xs → length (trace a xs low high m) ≤ 2 * length (sets 1 (length xs) m) - 1
