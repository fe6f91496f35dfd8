use Rattle.std.proofs.Common.{◌≡◌, ◌+◌, ◌*◌, Ok, subst, rules, length, get_or, ap, ◌∙◌, arith}
use Rattle.std.proofs.lemmas.List.{get_or_default, take_all}
use Rattle.crossed.specs.Entries.{zero_entry}
use Rattle.crossed.specs.Rolls.{standing}
use Rattle.rollfile.specs.Files.{writes}
use Rattle.rollfile.specs.Writing.{over, Written}
use Rattle.rollfile.proofs.Overs.{length-writes, entries_more}
use Rattle.rollfile.proofs.Trips.{written_short, written_whole}
use Rattle.rollfile.proofs.writing.write.Goals as goal

pub returns-then-out-size : goal.returns-then-out-size
returns-then-out-size c =
    let r = c.args.roll.now in
    written_short r c.args.out.now c.blank.new.out (omega (arith, length-writes r.columns (standing r), ap length c.entries-entries.ensures)) c.blank.ensures

pub loop-one-preserved : goal.loop-one-preserved
loop-one-preserved c =
    let es = c.entries-entries.result.now in
    let i = c.loop-one.one-index in
    let e = get_or es i zero_entry in
    let m = entries_more c.args.out.now c.args.roll.now.columns es i e c.loop-one-test.true (get_or_default es i zero_entry e c.loop-one-test.true) (omega arith) (c.loop-one.invariant.0, c.loop-one.invariant.1) c.put_entry.ensures in
    (m.0, m.1, c.put_entry.ensures.same_reference ∙ c.loop-one.invariant.2)

pub returns : goal.returns
returns c =
    let out = c.args.out.now in
    let r = c.args.roll.now in
    let es = c.entries-entries.result.now in
    let all : es ≡ standing r = c.entries-entries.ensures in
    let e : c.loop-one.writer.out.now ≡ over out 0 (writes r.columns (standing r)) = c.loop-one.invariant.1 ∙ ap (λ xs. over out 0 (writes r.columns xs)) (take_all c.loop-one.one-index es c.loop-one-test.false ∙ all) in
    let w = written_whole r out c.loop-one.writer.out.now (2 + 37 * length es) (omega (arith, length-writes r.columns (standing r), ap length all)) (omega arith) e in
    subst (λ is. Written r out (Ok (2 + 37 * length es)) is) (search rules) w
