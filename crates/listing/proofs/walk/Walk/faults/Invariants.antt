use Rattle.std.proofs.Common.{◌≡◌, ◌-◌, length}
use Rattle.listing.specs.Listing.{fault_in}
use Rattle.listing.specs.Walk.{lines_left}
use Rattle.listing.proofs.walk.Walk.faults.Given as goal

-- the first fault from here on is the first of all
abbrev pub invariant-records : goal.invariant-records
invariant-records l = fault_in (lines_left (length l.table) l.self 0) ≡ fault_in (lines_left (length l.table) l.initial.self 0)

abbrev pub decreases-records : goal.decreases-records
decreases-records l = length l.self.reader.bytes.now - l.self.reader.place
