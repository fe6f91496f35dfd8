use Rattle.std.proofs.Common.{◌≡◌, suc, length, Some, None, sym, subst, ◌∙◌, arith, rules}
use Rattle.crossed.specs.Rolls.{standing}
use Rattle.records.specs.Records.{plain}
use Rattle.listing.specs.Text.{Puts}
use Rattle.listing.specs.Listing.{question_lines}
use Rattle.listing.specs.Walk.{Takes}
use Rattle.listing.proofs.Putting.{Left, left_stop, left_on}
use Rattle.listing.proofs.Written.{writes_then}
use Rattle.listing.proofs.listing.put_on.Goals as goal

pub returns-in_err-put_question-clause-lines : goal.returns-in_err-put_question-clause-lines
returns-in_err-put_question-clause-lines c = λ bs whole.
    let l = c.records in
    let r = plain c.in-Ok-Some.item in
    let is = c.step.new.self in
    let q = c.in-Some.asked in
    let t = length c.args.table.now in
    let e = c.put_question.new.text in
    let takes = rw c.in-Ok-Some.field-0-is at c.in-Ok-Some.ensures in
    let one : c.saturating_add-ordinal.result ≡ suc l.ordinal = omega (arith, c.saturating_add-ordinal.ensures, l.invariant.0, l.walk.inside, l.walk.short) in
    let puts : Puts l.text (question_lines (suc l.ordinal) (standing is.roll) q) None e = subst (λ k. Puts l.text (question_lines k (standing is.roll) q) None e) one (c.in_err-put_question.ensures.lines (takes.accepted q c.in-Some.ensures)) in
    let none : c.from_residual.result ≡ None = search rules in
    subst (λ a. Puts c.args.text.now bs a e) (sym none)
    (left_stop t l.walk l.ordinal c.args.text.now l.text bs (l.invariant.2 bs whole) r is (subst (λ n. Takes n l.walk r is) l.invariant.1 takes) q c.in-Some.ensures e puts)

pub records-preserved-in_ok-put_question : goal.records-preserved-in_ok-put_question
records-preserved-in_ok-put_question c =
    let l = c.records in
    let r = plain c.in-Ok-Some.item in
    let is = c.step.new.self in
    let q = c.in-Some.asked in
    let t = length c.args.table.now in
    let e = c.put_question.new.text in
    let takes = rw c.in-Ok-Some.field-0-is at c.in-Ok-Some.ensures in
    let further = takes.place in
    let one : c.saturating_add-ordinal.result ≡ suc l.ordinal = omega (arith, c.saturating_add-ordinal.ensures, l.invariant.0, l.walk.inside, l.walk.short) in (
      omega (arith, one, further, l.invariant.0),
      c.put_question.auto.table ∙ l.invariant.1,
      λ bs whole.
          let puts : Puts l.text (question_lines (suc l.ordinal) (standing is.roll) q) (Some tt) e = subst (λ k. Puts l.text (question_lines k (standing is.roll) q) (Some tt) e) one (c.in_ok-put_question.ensures.lines (takes.accepted q c.in-Some.ensures)) in
          subst (λ k. Left t is k c.args.text.now e bs) (sym one)
          (left_on t l.walk l.ordinal c.args.text.now l.text bs (l.invariant.2 bs whole) r is (subst (λ n. Takes n l.walk r is) l.invariant.1 takes) q c.in-Some.ensures e puts),
      writes_then c.args.text.now l.text e (Some tt) l.invariant.3 c.in_ok-put_question.ensures.writes,
    )
