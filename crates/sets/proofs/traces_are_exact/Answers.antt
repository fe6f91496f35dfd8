use Rattle.sets.proofs.Complements.{complements_of_sets}
use Rattle.sets.proofs.Agreement.{finds, counts}
use Rattle.sets.proofs.traces_are_exact.Goals as goal

pub returns : goal.returns
returns c = record {
  finds = λ a laws xs rows low high lo ho m pos l. finds a laws xs rows low high lo ho m pos l;
  counts = λ a laws xs rows low high lo ho m pos l. counts a laws xs rows low high lo ho m pos l;
  complements = complements_of_sets;
}
