-- Spaces whose first positions are settled.
use Rattle.std.specs.Prelude.{◌≡◌, ℕ, ◌<◌, slice_index}
use Rattle.squeezing.specs.declared.frame.Frame.{Frame}

-- the positions before the index i are settled
abbrev pub SettledBelow : Frame → ℕ → Type 0
SettledBelow f i = (j : ℕ) → j < i → slice_index f.lo j ≡ slice_index f.hi j

-- the position at the index i is the first open one
abbrev pub OpensAt : Frame → ℕ → Type 0
OpensAt f i = (i < f.m) × (slice_index f.lo i < slice_index f.hi i) × SettledBelow f i
