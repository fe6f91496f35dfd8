use Rattle.std.proofs.Common.{◌≡◌, ℕ, Bool, length, Ok, Err, Result, sym, refl, ap, ◌∙◌, subst, rules}
use Rattle.std.proofs.lemmas.Result.{err_from_is_err_and}
use Rattle.roll.specs.declared.refusal.Refusal.{Refusal}
use Rattle.records.specs.declared.reader.Fault.{Fault}
use Rattle.crossed.specs.Rolls.{standing, room_of}
use Rattle.records.specs.Records.{fault_of, moved, plain, told}
use Rattle.listing.specs.Listing.{is_question, faulted, Tried}
use Rattle.listing.proofs.Going.{step_end, step_refused, takes}
use Rattle.listing.proofs.walk.Walk.step.Goals as goal

pub returns-in_default : goal.returns-in_default
returns-in_default c = λ k.
    let w = c.args.self.now in
    step_end w.roll.columns (room_of w.roll) (length c.args.table.now) w.reader.bytes.now (standing w.roll) k w.reader.place w.positive w.short (sym (ap (λ o. told (Ok o)) c.in_default.is) ∙ c.in_ok-item.ensures.answer)

-- what trying a record answers, where its fault is made of the refusal
passed : (b : Bool) (at : ℕ) (r : Result (Unit {0}) Refusal) → faulted b at r ≡ Ok tt → r ≡ Ok tt
passed b at (Ok u) h = refl
passed b at (Err e) h = cc

refused : (b : Bool) (at : ℕ) (r : Result (Unit {0}) Refusal) (f : Fault) → faulted b at r ≡ Err f → (e : Refusal) × (r ≡ Err e) × (f ≡ fault_of b at e)
refused b at (Ok u) f h = cc
refused b at (Err e) f h = (e, refl, cc)

pub returns : goal.returns
returns c =
    let w = c.args.self.now in
    let next = c.in_ok-item.ensures in
    let m : faulted c.is_question-asks.result c.place-place.result c.attempt.result ≡ c.map_err.result = search rules in
    let done = subst (λ r. Tried w.roll (length c.args.table.now) (plain c.in-Some.item) r c.attempt.new.roll) (passed _ _ c.attempt.result (m ∙ c.in_ok-map_err.was)) c.attempt.ensures in
    takes (length c.args.table.now) w _ (plain c.in-Some.item) (sym (ap (λ o. told (Ok o)) c.in-Some.is) ∙ next.answer) (next.place ∙ ap (λ o. moved w.reader.bytes.now w.reader.place (told (Ok o))) c.in-Some.is) next.file done

pub returns-in_err-map_err : goal.returns-in_err-map_err
returns-in_err-map_err c =
    let w = c.args.self.now in
    let r = plain c.in-Some.item in
    let m : faulted c.is_question-asks.result c.place-place.result c.attempt.result ≡ c.map_err.result = search rules in
    let no = refused _ _ c.attempt.result _ (m ∙ c.in_err-map_err.was) in
    let done = subst (λ a. Tried w.roll (length c.args.table.now) r a c.attempt.new.roll) no.1 c.attempt.ensures in
    let p = err_from_is_err_and c.from_residual-in_err-map_err.result c.from_residual-in_err-map_err.ensures.1 in
    rw (p.1, p.2)
    (λ k. step_refused w.roll.columns (room_of w.roll) (length c.args.table.now) w.reader.bytes.now (standing w.roll) k w.reader.place w.positive w.short r no.0 (sym (ap (λ o. told (Ok o)) c.in-Some.is) ∙ c.in_ok-item.ensures.answer) done.answer
    ∙ sym (ap Err (no.2 ∙ ap (λ b. fault_of b c.place-place.result no.0) c.is_question-asks.ensures ∙ ap (λ n. fault_of (is_question r) n no.0) c.place-place.ensures)))
