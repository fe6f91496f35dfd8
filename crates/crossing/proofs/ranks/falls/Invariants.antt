use Rattle.std.proofs.Common.{◌≡◌}
use Rattle.crossing.proofs.Falling.{Fell}
use Rattle.crossing.proofs.ranks.falls.Given as goal

abbrev pub invariant-loop-pair : goal.invariant-loop-pair
invariant-loop-pair l = (l.pair-iterator.size ≡ 2) × Fell l.entries l.pair-iterator.rest.now l.most
