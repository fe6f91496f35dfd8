use Rattle.std.proofs.Common.{sym, subst}
use Rattle.roll.specs.Books.{kind, Kept}
use Rattle.roll.specs.Rolls.{standing}
use Rattle.roll.proofs.Orders.{without_kept}
use Rattle.roll.proofs.Same.{same_roll}
use Rattle.roll.proofs.straight.Roll.strike.Goals as goal

pub invariant_of-self : goal.invariant_of-self
invariant_of-self g c =
    let m = g.M.Measure in
    let k = kind m.algebra m.row m.span in
    let r = c.args.self.now in
    record { kept = subst (Kept k) (sym c.strike.ensures.after) (without_kept k c.args.number (standing r) r.kept) }

pub returns : goal.returns
returns g c =
    let did = c.strike.ensures in
    record {
      book = record { answer = did.answer; after = did.after };
      cells = did.room;
      untouched = λ q. same_roll c.args.self.now c.strike.new.self _ (did.untouched q);
    }
