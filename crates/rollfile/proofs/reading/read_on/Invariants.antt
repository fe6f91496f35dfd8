use Rattle.std.proofs.Common.{◌-◌, Result, length}
use Rattle.crossed.specs.declared.rolls.Roll.{Roll}
use Rattle.records.specs.declared.reader.Fault.{Fault}
use Rattle.records.specs.Records.{Behind}
use Rattle.rollfile.specs.Files.{Ran}
use Rattle.rollfile.proofs.reading.read_on.Given as goal

-- the reader stands behind the first record, and running on from here ends as running from the start does
abbrev pub invariant-records : goal.invariant-records
invariant-records l =
    Behind l.reader × ((r : Result (Unit {0}) Fault) (is : Roll) → Ran l.reader l.roll r is → Ran l.initial.reader l.initial.roll r is)

abbrev pub decreases-records : goal.decreases-records
decreases-records l = length l.reader.bytes.now - l.reader.place
