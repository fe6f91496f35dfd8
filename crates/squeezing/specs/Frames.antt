-- Spaces as arrays hold them, and what squeezing leaves of one.
use Rattle.std.specs.Prelude.{◌≡◌, ℕ, ◌<◌, ◌≤◌, List, length, take, Some, None, Option, slice_index}
use Rattle.measure.specs.Algebra.{Algebra, Row}
use Rattle.sets.specs.Spaces.{Space, space, squeeze, widths}
use Rattle.squeezing.specs.Table.{offset, entries, Holds}
use Rattle.squeezing.specs.declared.frame.Frame.{Frame}

-- the space of a frame: its first m lower and upper places
abbrev pub space_of : Frame → Space
space_of f = space (take f.m f.lo) (take f.m f.hi)

-- what squeezing a space leaves, between the ends low and high
abbrev pub squeeze_of : {M : Type 0} → Algebra → (M → Row) → List M → Row → Row → Frame → Option Space
squeeze_of a row table low high f = squeeze a (entries row f.n table) low high (widths (take f.m f.lo) (take f.m f.hi)) (space_of f)

-- a space that is left: as many places, and what was settled still is
pub record Left (f t : Frame) : Type 0 where
  pub n : t.n ≡ f.n
  pub m : t.m ≡ f.m
  pub settled : (j : ℕ) → j < f.m → slice_index f.lo j ≡ slice_index f.hi j → slice_index t.lo j ≡ slice_index t.hi j

-- the table and the room for totals are long enough for a space, and the table holds the totals of neighbours
pub record Suits {M : Type 0} (a : Algebra) (row : M → Row) (span : M → ℕ) (table : List M) (room : ℕ) (f : Frame) : Type 0 where
  pub long : offset f.n f.m ≤ length table
  pub roomy : f.m < room
  pub holds : Holds a row span f.n f.m table

-- what is left of the space f: nothing, or the space t
abbrev pub Leaves : {M : Type 0} → Algebra → (M → Row) → (M → ℕ) → List M → ℕ → Row → Row → Frame → Option Frame → Type 0
Leaves a row span table room low high f None = Suits a row span table room f → squeeze_of a row table low high f ≡ None
Leaves a row span table room low high f (Some t) = Left f t × (Suits a row span table room f → squeeze_of a row table low high f ≡ Some (space_of t))
