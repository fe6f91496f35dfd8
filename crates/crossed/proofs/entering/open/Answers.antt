use Rattle.std.proofs.Common.{sym, subst}
use Rattle.crossed.specs.Reachable.{Reachable, by_open}
use Rattle.crossed.proofs.entering.open.Goals as goal

pub invariant_of-result : goal.invariant_of-result
invariant_of-result c = record { reached = ∣ subst (Reachable c.args.columns) (sym c.open.ensures.none) by_open ∣₁ }
