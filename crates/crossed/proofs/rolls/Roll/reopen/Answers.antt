use Rattle.std.proofs.Common.{sym, subst}
use Rattle.crossed.specs.Reachable.{Reachable, by_open}
use Rattle.crossed.proofs.rolls.Roll.reopen.Goals as goal

pub invariant_of-self : goal.invariant_of-self
invariant_of-self c = record { reached = ∣ subst (Reachable c.args.columns) (sym c.clear.ensures.none) by_open ∣₁ }
