use Rattle.std.proofs.Common.{length, sym}
use Rattle.crossed.specs.Rolls.{standing}
use Rattle.crossed.proofs.Kept.{well_formed}
use Rattle.crossing.proofs.Accepting.{accepted_fits}
use Rattle.crossing.proofs.beginning.begin.Goals as goal

pub begin_accepted-requires : goal.begin_accepted-requires
begin_accepted-requires c =
    let roll = c.args.roll.now in
    accepted_fits roll.columns (length (standing roll)) c.args.asked (length c.args.table.now) (well_formed roll).2 (sym c.in-Ok.ensures)
