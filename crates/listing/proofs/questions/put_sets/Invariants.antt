use Rattle.std.proofs.Common.{◌≡◌, ℕ, ◌≤◌, List, ◌++◌, length, Some}
use Rattle.std.specs.List.{AllByRecursion}
use Rattle.sets.specs.Trace.{somes}
use Rattle.exploring.specs.Meaning.{size_of}
use Rattle.crossing.specs.Meaning.{to_come}
use Rattle.listing.specs.Text.{Puts, Writes}
use Rattle.listing.specs.Listing.{lines_within, most_steps}
use Rattle.listing.proofs.questions.put_sets.Given as goal

-- the lines of the sets so far are written, and with those that are left they are all lines
abbrev pub invariant-sets : goal.invariant-sets
invariant-sets l =
    let s = l.initial.state in
    let sized = λ (ps : List ℕ). length ps ≡ size_of s.straight in
    (length l.page ≡ 120) × (size_of l.state.straight ≡ size_of s.straight) × (l.left ≤ most_steps)
    × (AllByRecursion sized (somes (to_come s)) → AllByRecursion sized (somes (to_come l.state))
    × ((pre : List ℕ) × Puts l.initial.text pre (Some tt) l.text × (pre ++ lines_within l.left l.entries (to_come l.state) ≡ lines_within most_steps l.entries (to_come s))))
    × Writes l.initial.text (Some tt) l.text

abbrev pub decreases-sets : goal.decreases-sets
decreases-sets l = l.left
