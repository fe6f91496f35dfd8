-- The theorems on searches, put together.
use Rattle.sets.proofs.Agreement.{finds, counts}
use Rattle.sets.proofs.Complements.{complements_of_sets}
use Rattle.sets.proofs.Crossed as proved
use Rattle.listing.specs.Exact.{SearchesAreExact}

pub searches_are_exact : SearchesAreExact
searches_are_exact = record {
  finds = λ a laws xs rows low high lo ho m pos l. finds a laws xs rows low high lo ho m pos l;
  counts = λ a laws xs rows low high lo ho m pos l. counts a laws xs rows low high lo ho m pos l;
  complements = complements_of_sets;
  crossed_finds = proved.crossed_finds;
  crossed_sound = proved.crossed_sound;
  crossed_complete = proved.crossed_complete;
  crossed_order = proved.crossed_order;
  crossed_once = proved.crossed_once;
  crossed_counts = proved.crossed_counts;
}
