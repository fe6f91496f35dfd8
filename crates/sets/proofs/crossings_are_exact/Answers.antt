use Rattle.sets.proofs.Crossed as proved
use Rattle.sets.proofs.crossings_are_exact.Goals as goal

pub returns : goal.returns
returns c = record {
  finds = proved.crossed_finds;
  sound = proved.crossed_sound;
  complete = proved.crossed_complete;
  order = proved.crossed_order;
  once = proved.crossed_once;
  counts = proved.crossed_counts;
}
