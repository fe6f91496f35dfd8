use Rattle.std.proofs.Common.{◌≡◌, [], take, Some, None, sym, refl, subst, ◌∙◌, arith, rules}
use Rattle.exploring.specs.Meaning.{size_of}
use Rattle.crossing.specs.Meaning.{to_come}
use Rattle.listing.specs.Text.{Puts, line}
use Rattle.listing.specs.Listing.{set_line, lines_within, sets_lines}
use Rattle.listing.proofs.Written.{puts_none, puts_writes, writes_then, puts_last, puts_stop, puts_on}
use Rattle.listing.proofs.Lines.{lines_spent, lines_finished, lines-set}
use Rattle.listing.proofs.questions.put_sets.Goals as goal

pub returns-in-Spent-clause-lines : goal.returns-in-Spent-clause-lines
returns-in-Spent-clause-lines c = λ sized.
    let l = c.sets in
    let inv = l.invariant.3 sized in
    let xs = c.args.entries.now in
    let t = to_come l.state in
    let spent = lines_spent xs t l.left c.in-Ok.answer l.page c.advance.new.page (to_come c.advance.new.self) c.in-Ok.ensures.is c.in-Spent.is in
    puts_last c.args.text.now l.text c.put.new.self inv.1.0 (lines_within l.left xs t) _ inv.1.1 inv.1.2 c.put.result (subst (λ bs. Puts l.text bs c.put.result c.put.new.self) (sym spent) c.put.ensures)

pub returns-in-Finished-clause-lines : goal.returns-in-Finished-clause-lines
returns-in-Finished-clause-lines c = λ sized.
    let l = c.sets in
    let inv = l.invariant.3 sized in
    let xs = c.args.entries.now in
    let t = to_come l.state in
    let r = c.put-in-Finished in
    let over = lines_finished xs t l.left c.in-Ok.answer l.page c.advance.new.page (to_come c.advance.new.self) c.in-Ok.ensures.is c.in-Finished.is in
    puts_last c.args.text.now l.text r.new.self inv.1.0 (lines_within l.left xs t) _ inv.1.1 inv.1.2 r.result (subst (λ bs. Puts l.text bs r.result r.new.self) (sym over) r.ensures)

pub returns-in_err-put_set-in-Set-clause-lines : goal.returns-in_err-put_set-in-Set-clause-lines
returns-in_err-put_set-in-Set-clause-lines c = λ sized.
    let l = c.sets in
    let inv = l.invariant.3 sized in
    let xs = c.args.entries.now in
    let t = to_come l.state in
    let page = c.advance.new.page in
    let size = c.places-size.result in
    let found = lines-set xs t l.left c.in-Ok.answer l.page page (to_come c.advance.new.self) c.in-Ok.ensures.is size (size_of c.args.state.now.straight) c.places-size.ensures c.in-Set.is inv.0 in
    let none : c.from_residual.result ≡ None = search rules in
    subst (λ r. Puts c.args.text.now (sets_lines xs (to_come c.args.state.now)) r c.put_set.new.text) (sym none)
    (puts_stop c.args.text.now l.text c.put_set.new.text inv.1.0 (lines_within l.left xs t) _ inv.1.1 inv.1.2 (set_line xs (take size page)) _ found.0 c.in_err-put_set-in-Set.ensures)

pub returns-in-Spent-clause-writes : goal.returns-in-Spent-clause-writes
returns-in-Spent-clause-writes c = writes_then c.args.text.now c.sets.text c.put.new.self c.put.result c.sets.invariant.4 (puts_writes c.sets.text c.put.new.self (line 80 []) c.put.result c.put.ensures)

pub returns-in-Finished-clause-writes : goal.returns-in-Finished-clause-writes
returns-in-Finished-clause-writes c =
    let r = c.put-in-Finished in
    writes_then c.args.text.now c.sets.text r.new.self r.result c.sets.invariant.4 (puts_writes c.sets.text r.new.self (line 70 []) r.result r.ensures)

pub sets-init : goal.sets-init
sets-init c = (refl, refl, omega arith, λ sized. (sized, ([], puts_none c.args.text.now, refl)), ([], puts_none c.args.text.now))

pub sets-preserved : goal.sets-preserved
sets-preserved c =
    let l = c.sets in
    let told = c.in-Ok.ensures in
    let s = c.args.state.now in
    let xs = c.args.entries.now in
    let t = to_come l.state in
    let page = c.advance.new.page in
    let size = c.places-size.result in (
      c.advance.auto.page ∙ l.invariant.0,
      told.same.size_same ∙ l.invariant.1,
      omega (arith, l.invariant.2),
      λ sized.
          let inv = l.invariant.3 sized in
          let found = lines-set xs t l.left c.in-Ok.answer l.page page (to_come c.advance.new.self) told.is size (size_of s.straight) c.places-size.ensures c.in-Set.is inv.0 in (
            found.1,
            puts_on c.args.text.now l.text c.put_set.new.text inv.1.0 (lines_within l.left xs t) _ inv.1.1 inv.1.2 (set_line xs (take size page)) _ found.0 c.in_ok-put_set-in-Set.ensures,
          ),
      writes_then c.args.text.now l.text c.put_set.new.text (Some tt) l.invariant.4 (set_line xs (take size page), c.in_ok-put_set-in-Set.ensures),
    )
