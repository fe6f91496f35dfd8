use Rattle.std.proofs.Common.{drop, sym, refl, ◌∙◌}
use Rattle.std.proofs.lemmas.Bool.{true≢false}
use Rattle.roll.specs.Cells.{held}
use Rattle.roll.proofs.Calls.{strikes_none, strikes_one, closed, room_kept}
use Rattle.roll.proofs.ledger.Ledger.strike.Goals as goal

pub returns-in_default : goal.returns-in_default
returns-in_default g c =
    let none = strikes_none (λ e. e.number) c.args.number (held c.args.self.now) (sym c.in_default.is ∙ c.find.ensures) in
    record { answer = none.0; after = none.1; room = refl; untouched = λ q. refl }

pub returns : goal.returns
returns g c =
    let b = c.args.self.now in
    let part = c.close_gap.new.cells in
    let one = strikes_one (λ e. e.number) c.args.number (held b) c.in-Some.index (sym c.in-Some.is ∙ c.find.ensures) in
    record {
      answer = one.0;
      after = closed b.cells.now part (drop b.count b.cells.now) b.count c.in-Some.index b.within c.close_gap.auto.cells c.close_gap.ensures ∙ one.1;
      room = room_kept b.cells.now part b.count b.within c.close_gap.auto.cells;
      untouched = λ q. absurd (true≢false q);
    }
