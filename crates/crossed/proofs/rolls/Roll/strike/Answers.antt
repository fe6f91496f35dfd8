use Rattle.std.proofs.Common.{sym, refl, subst}
use Rattle.std.proofs.Math.Logic.{∥∥₁_map}
use Rattle.crossed.specs.Reachable.{Reachable, by_strike}
use Rattle.crossed.proofs.Same.{same_roll}
use Rattle.crossed.proofs.rolls.Roll.strike.Goals as goal

pub invariant_of-self : goal.invariant_of-self
invariant_of-self c =
    let r = c.args.self.now in
    record { reached = ∥∥₁_map r.reached (λ was. subst (Reachable r.columns) (sym c.strike.ensures.after) (by_strike c.args.number was)) }

pub returns : goal.returns
returns c =
    let did = c.strike.ensures in
    record {
      answer = did.answer;
      stands = did.after;
      columns = refl;
      room = did.room;
      untouched = λ q. same_roll c.args.self.now c.strike.new.self _ (did.untouched q);
    }
