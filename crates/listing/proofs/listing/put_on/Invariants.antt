use Rattle.std.proofs.Common.{◌≡◌, ℕ, ◌-◌, ◌≤◌, List, length, Some, Ok}
use Rattle.listing.specs.Text.{Writes}
use Rattle.listing.specs.Walk.{lines_left}
use Rattle.listing.proofs.Putting.{Left}
use Rattle.listing.proofs.listing.put_on.Given as goal

-- the lines so far are written, and with those that are left they are all lines
abbrev pub invariant-records : goal.invariant-records
invariant-records l =
    let was = l.initial.walk in
    let t = length l.initial.table in
    (l.ordinal ≤ l.walk.reader.place) × (length l.table ≡ t)
    × ((bs : List ℕ) → lines_left t was 0 ≡ Ok bs → Left t l.walk l.ordinal l.initial.text l.text bs)
    × Writes l.initial.text (Some tt) l.text

abbrev pub decreases-records : goal.decreases-records
decreases-records l = length l.walk.reader.bytes.now - l.walk.reader.place
