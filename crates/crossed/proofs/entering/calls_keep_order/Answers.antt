use Rattle.crossed.proofs.Kept.{always_well_formed}
use Rattle.crossed.proofs.Reached.{always_reached}
use Rattle.crossed.proofs.entering.calls_keep_order.Goals as goal

pub returns : goal.returns
returns c = record { order = always_well_formed; reached = always_reached }
