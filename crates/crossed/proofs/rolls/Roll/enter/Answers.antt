use Rattle.std.proofs.Common.{◌^◌, ◌<◌, min, ltb, length, is_ok, sym, refl, ap, ◌∙◌, subst, rules}
use Rattle.std.proofs.Math.Logic.{∥∥₁_map}
use Rattle.roll.specs.Order.{place}
use Rattle.crossed.specs.Books.{before, numbered, enters}
use Rattle.crossed.specs.Entries.{in_range, past_zero}
use Rattle.roll.specs.declared.refusal.Refusal.TheVariants.{PastColumns}
use Rattle.crossed.specs.Reachable.{Reachable, by_enter}
use Rattle.crossed.specs.Rolls.{standing, room_of}
use Rattle.roll.proofs.Calls.{put_ok, put_at}
use Rattle.crossed.proofs.Same.{same_roll}
use Rattle.crossed.proofs.rolls.Roll.enter.Goals as goal

pub invariant_of-self : goal.invariant_of-self
invariant_of-self c =
    let r = c.args.self.now in
    let e = c.args.one in
    let ok = c.in_ok-refusal.ensures in
    let did = c.insert.ensures in
    let said = put_ok (in_range r.columns e.value) (numbered e.number (standing r)) (ltb (length (standing r)) (min 120 (room_of r))) (past_zero r.columns e.value) PastColumns c.insert.result ok did.answer in
    let placed = c.place_of-place.ensures ∙ ap (place before e) c.entries.ensures in
    let left = did.after (ap is_ok said) ∙ put_at before e (standing r) c.place_of-place.result (enters r.columns (room_of r) (standing r) e) placed ok in
    let fit : e.number < 2 ^ 32 = search rules in
    record { reached = ∥∥₁_map r.reached (λ was. subst (Reachable r.columns) (sym left) (by_enter (room_of r) e fit was)) }

pub returns : goal.returns
returns c =
    let r = c.args.self.now in
    let e = c.args.one in
    let ok = c.in_ok-refusal.ensures in
    let did = c.insert.ensures in
    let said = put_ok (in_range r.columns e.value) (numbered e.number (standing r)) (ltb (length (standing r)) (min 120 (room_of r))) (past_zero r.columns e.value) PastColumns c.insert.result ok did.answer in
    let placed = c.place_of-place.ensures ∙ ap (place before e) c.entries.ensures in
    record {
      answer = said ∙ ok;
      stands = did.after (ap is_ok said) ∙ put_at before e (standing r) c.place_of-place.result (enters r.columns (room_of r) (standing r) e) placed ok;
      columns = refl;
      room = did.room;
      untouched = λ q. same_roll r c.insert.new.self _ (did.untouched q);
    }
