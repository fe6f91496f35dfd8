use Rattle.std.proofs.Common.{min, ltb, length, is_ok, sym, ap, ◌∙◌, subst}
use Rattle.roll.specs.Order.{before, numbered, comparable, place}
use Rattle.roll.specs.Books.{kind, Kept, entering}
use Rattle.roll.specs.declared.refusal.Refusal.TheVariants.{Incomparable}
use Rattle.roll.specs.Rolls.{standing, cells_of}
use Rattle.roll.proofs.Orders.{entered_kept, kind-transitive}
use Rattle.roll.proofs.Calls.{put_ok, put_at}
use Rattle.roll.proofs.Same.{same_roll}
use Rattle.roll.proofs.straight.Roll.enter.Goals as goal

pub invariant_of-self : goal.invariant_of-self
invariant_of-self g c =
    let m = g.M.Measure in
    let met = g.met.M.Measure in
    let k = kind m.algebra m.row m.span in
    let r = c.args.self.now in
    let e = c.args.one in
    let ok = c.in_ok-refusal.ensures in
    let did = c.insert.ensures in
    let said = put_ok (k.admitted e) (numbered k.number (k.number e) (standing r)) (ltb (length (standing r)) (min 120 (cells_of r))) (comparable k e (standing r)) Incomparable c.insert.result ok did.answer in
    let placed = c.place_of-place.ensures ∙ ap (place (before k) e) c.entries.ensures in
    let left = did.after (ap is_ok said) ∙ put_at (before k) e (standing r) c.place_of-place.result (entering k (cells_of r) (standing r) e) placed ok in
    record { kept = subst (Kept k) (sym left) (entered_kept k (kind-transitive m.algebra m.row m.span met.lawful met.owned) (cells_of r) (standing r) e r.kept) }

pub returns : goal.returns
returns g c =
    let m = g.M.Measure in
    let k = kind m.algebra m.row m.span in
    let r = c.args.self.now in
    let e = c.args.one in
    let ok = c.in_ok-refusal.ensures in
    let did = c.insert.ensures in
    let said = put_ok (k.admitted e) (numbered k.number (k.number e) (standing r)) (ltb (length (standing r)) (min 120 (cells_of r))) (comparable k e (standing r)) Incomparable c.insert.result ok did.answer in
    let placed = c.place_of-place.ensures ∙ ap (place (before k) e) c.entries.ensures in
    record {
      book = record {
        answer = said ∙ ok;
        after = did.after (ap is_ok said) ∙ put_at (before k) e (standing r) c.place_of-place.result (entering k (cells_of r) (standing r) e) placed ok;
      };
      cells = did.room;
      untouched = λ q. same_roll r c.insert.new.self _ (did.untouched q);
    }
