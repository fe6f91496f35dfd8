-- What a search still has to come, its trace: one item for each space to be examined, the set that the space holds or
-- nothing. A space is examined before its children, and a child's whole tree before the next child.
use Rattle.std.specs.Prelude.{ℕ, zero, suc, ◌+◌, ◌-◌, List, [], ◌∷◌, ◌++◌, length, Some, None, Option}
use Rattle.std.specs.List.{range_with_len}
use Rattle.measure.specs.Algebra.{Algebra, Row}
use Rattle.sets.specs.Spaces.{Space, space, at, widths, squeeze, open_at, child}

-- the places of a set, or nothing
abbrev pub Item : Type 0
Item = Option (List ℕ)

abbrev pub Trace : Type 0
Trace = List Item

abbrev pub concat_map : {A B : Type 0} → (A → List B) → List A → List B
concat_map f [] = []
concat_map f (x ∷ xs) = f x ++ concat_map f xs

-- the items of the children of a space at its position i, from the place v on; e gives those of one child
abbrev pub children : (Space → Trace) → Space → ℕ → ℕ → Trace
children e t i v = concat_map (λ w. e (child t i w)) (range_with_len v (at t.hi i + 1 - v))

module _ (a : Algebra) (xs : List Row) (low high : Row) where
  -- the items of a space and of the tree below it; each level settles a position, so a depth of m + 1 is enough
  abbrev pub explore : ℕ → Space → Trace
  explore zero s = []
  explore (suc d) s = elim (squeeze a xs low high (widths s.lo s.hi) s) [
    | None ↦ None ∷ []
    | Some t ↦ elim (open_at 1 t.lo t.hi) [
      | None ↦ Some t.lo ∷ []
      | Some i ↦ None ∷ children (explore d) t i (at t.lo i)
    ]
  ]

  -- the items of a search for sets of m of the entries xs
  abbrev pub trace : ℕ → Trace
  trace m = explore (m + 1) (space (range_with_len 1 m) (range_with_len (length xs - m + 1) m))

-- the sets of a trace, in its order
abbrev pub somes : Trace → List (List ℕ)
somes [] = []
somes (None ∷ rs) = somes rs
somes (Some s ∷ rs) = s ∷ somes rs
