use Rattle.std.proofs.Common.{rules, ◌≡◌, ◌∙◌, Ok, Some, subst}
use Rattle.std.proofs.lemmas.Result.{err_from_is_err_and}
use Rattle.records.specs.Records.{ReadNext, located}
use Rattle.rollfile.proofs.Runs.{ran_fault, ran_end, ran_on, ran_refused, behind_next}
use Rattle.rollfile.proofs.reading.read_on.Goals as goal

pub returns-in_err-item : goal.returns-in_err-item
returns-in_err-item c =
    let l = c.records in
    let p = err_from_is_err_and c.from_residual.result c.from_residual.ensures.1 in
    rw (p.1, p.2) (l.invariant.1 _ _ (ran_fault l.reader l.roll l.invariant.0 _ _ c.in_err-item.ensures))

pub returns-in_default : goal.returns-in_default
returns-in_default c =
    let l = c.records in
    l.invariant.1 _ _ (ran_end l.reader l.roll l.invariant.0 _ (subst (λ o. ReadNext l.reader (Ok o) c.next.new.self) c.in_default.is c.in_ok-item.ensures))

pub records-preserved : goal.records-preserved
records-preserved c =
    let l = c.records in
    let q : ReadNext l.reader (Ok (Some c.in-Some.item)) c.next.new.self = subst (λ o. ReadNext l.reader (Ok o) c.next.new.self) c.in-Some.is c.in_ok-item.ensures in
    let m : located l.reader.place c.apply.result ≡ c.map_err.result = search rules in (
      behind_next l.reader l.invariant.0 c.in-Some.item c.next.new.self q,
      (λ s is h. l.invariant.1 s is (ran_on l.reader l.roll l.invariant.0 c.in-Some.item c.next.new.self q c.apply.result c.apply.new.roll (m ∙ c.in_ok-map_err.was) c.apply.ensures s is h)),
    )

pub returns-in_err-map_err : goal.returns-in_err-map_err
returns-in_err-map_err c =
    let l = c.records in
    let q : ReadNext l.reader (Ok (Some c.in-Some.item)) c.next.new.self = subst (λ o. ReadNext l.reader (Ok o) c.next.new.self) c.in-Some.is c.in_ok-item.ensures in
    let m : located l.reader.place c.apply.result ≡ c.map_err.result = search rules in
    let p = err_from_is_err_and c.from_residual-in_err-map_err.result c.from_residual-in_err-map_err.ensures.1 in
    rw (p.1, p.2) (l.invariant.1 _ _ (ran_refused l.reader l.roll l.invariant.0 c.in-Some.item c.next.new.self q c.apply.result _ c.apply.new.roll (m ∙ c.in_err-map_err.was) c.apply.ensures))
