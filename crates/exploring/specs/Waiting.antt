-- The items that the waiting spaces still have to come, deepest first.
use Rattle.std.specs.Prelude.{◌≡◌, ℕ, ◌+◌, ◌-◌, ◌<◌, ◌≤◌, Bool, true, false, cond, List, [], ◌∷◌, ◌++◌, length, drop, Some, None, nat_lt, slice_index, slice_index_or}
use Rattle.std.specs.List.{range_with_len}
use Rattle.measure.specs.Algebra.{Algebra, Row}
use Rattle.sets.specs.Spaces.{Space, space}
use Rattle.sets.specs.Trace.{Trace, children, explore}
use Rattle.exploring.specs.declared.level.Level.{Level}
use Rattle.exploring.specs.declared.frontier.Frontier.{Frontier}
use Rattle.exploring.specs.declared.work.Work.{Work}
use Rattle.squeezing.specs.Table.{entries}
use Rattle.squeezing.specs.Frames.{space_of}

-- the items of spaces on the way down, the deepest first; each has one depth less left than the one above it
abbrev pub stacked : {A : Type 0} → (ℕ → A → Trace) → ℕ → List A → Trace
stacked f d [] = []
stacked f d (l ∷ ls) = stacked f (d - 1) ls ++ f d l

-- the items of the children that a level has still to try; e gives those of a space with a depth that is left
abbrev pub level_items : (ℕ → Space → Trace) → ℕ → Level → Trace
level_items e d l = children (e d) (space_of l.frame) (l.at + 1) l.next

-- how many levels the way down has
abbrev pub depth_of : Frontier → ℕ
depth_of f = length f.levels.items

-- the items of all spaces that wait
abbrev pub to_come : (ℕ → Space → Trace) → Frontier → Trace
to_come e f = cond f.fresh (e (f.root.m + 1) (space_of f.root)) [] ++ stacked (level_items e) f.root.m f.levels.items

-- the items of a search for sets of m of n places that begins; none of size 0
abbrev pub first_of : (ℕ → Space → Trace) → ℕ → ℕ → Trace
first_of e n m = cond (nat_lt 0 m) (e (m + 1) (space (range_with_len 1 m) (range_with_len (n - m + 1) m))) []

-- the first space waits, or a child of the space on top does
abbrev pub Ready : Frontier → Type 0
Ready f = f.fresh ≡ false → (0 < depth_of f) × ((x : Level) → let top = slice_index_or f.levels.items (depth_of f - 1) x in top.next ≤ slice_index top.frame.hi top.at)

-- the items of a space and of the tree below it, over the n entries of a table
abbrev pub explore_of : {M : Type 0} → Algebra → (M → Row) → ℕ → List M → Row → Row → ℕ → Space → Trace
explore_of a row n table low high = explore a (entries row n table) low high

-- the items of all spaces that wait, over a table and between two ends
abbrev pub items_of : {M : Type 0} → Algebra → (M → Row) → List M → Row → Row → Frontier → Trace
items_of a row table low high f = to_come (explore_of a row f.root.n table low high) f

-- the items that are left to a search at work, over a table
abbrev pub left_of : {M : Type 0} → Algebra → (M → Row) → List M → Work M → Trace
left_of a row table w = items_of a row table (row w.band.low) (row w.band.high) w.frontier

-- the next space was examined: its item was the first to come
abbrev pub Examined : Bool → List ℕ → List ℕ → Trace → Trace → Type 0
Examined true page page' before after = (ps : List ℕ) × (before ≡ Some ps ∷ after) × (page' ≡ ps ++ drop (length ps) page)
Examined false page page' before after = (before ≡ None ∷ after) × (page' ≡ page)
