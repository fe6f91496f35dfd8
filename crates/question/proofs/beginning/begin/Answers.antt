use Rattle.roll.specs.Rolls.{standing}
use Rattle.roll.proofs.Premises.{kept_few}
use Rattle.question.proofs.beginning.begin.Goals as goal

pub returns : goal.returns
returns g c =
    let m = g.M.Measure in
    let few = kept_few m.algebra m.row m.span (standing c.args.roll.now) c.args.roll.now.kept in
    record {
      answers = record { all = c.total.result; totals = c.total.ensures; begins = rw c.entries.ensures at c.begin_over.ensures.begins };
      sound = rw c.entries.ensures at c.begin_over.ensures.sound few;
    }
