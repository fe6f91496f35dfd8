use Rattle.rollfile.proofs.Digits.{entries_back, bodies_back, columns_back}
use Rattle.rollfile.proofs.Trips.{round_trip, same_bytes}
use Rattle.rollfile.proofs.writing.written_rolls_read_back.Goals as goal

pub returns : goal.returns
returns c = record {
  entries = entries_back;
  bodies = bodies_back;
  columns = columns_back;
  rolls = round_trip;
  bytes = same_bytes;
}
