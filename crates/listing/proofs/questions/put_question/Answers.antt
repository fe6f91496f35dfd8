use Rattle.std.proofs.Common.{[], ◌∷◌, length, subst}
use Rattle.crossed.specs.Rolls.{standing}
use Rattle.crossed.proofs.Kept.{well_formed}
use Rattle.crossing.specs.Beginning.{BeginsBy}
use Rattle.crossing.specs.Meaning.{to_come}
use Rattle.crossing.proofs.Accepting.{accepted_fits}
use Rattle.listing.specs.Text.{Puts, line}
use Rattle.listing.specs.Listing.{coming, sets_lines}
use Rattle.listing.proofs.Written.{puts_then, writes_then}
use Rattle.listing.proofs.Sized.{starts_sized}
use Rattle.listing.proofs.questions.put_question.Goals as goal

pub returns-clause-lines : goal.returns-clause-lines
returns-clause-lines c = λ accepted.
    let roll = c.args.roll.now in
    let xs = standing roll in
    let q = c.args.asked in
    let was = c.args.table.now in
    let s = c.begin-state.result in
    let fits = accepted_fits roll.columns (length xs) q (length was) (well_formed roll).2 accepted in
    let starts = subst (BeginsBy xs q was s) accepted c.begin-state.ensures in
    let sized = starts_sized xs q was s fits.some fits.most starts in
    let puts : Puts c.line.new.self (sets_lines xs (coming xs q)) c.put_sets.result c.put_sets.new.text =
    subst (λ t. Puts c.line.new.self (sets_lines xs t) c.put_sets.result c.put_sets.new.text) starts.comes
    (subst (λ l. Puts c.line.new.self (sets_lines l (to_come s)) c.put_sets.result c.put_sets.new.text) c.entries.ensures (c.put_sets.ensures.lines sized)) in
    puts_then c.args.text.now c.line.new.self c.put_sets.new.text (line 81 (c.args.ordinal ∷ q.size ∷ [])) (sets_lines xs (coming xs q)) c.put_sets.result c.in_ok-line.ensures puts

pub returns-clause-writes : goal.returns-clause-writes
returns-clause-writes c = writes_then c.args.text.now c.line.new.self c.put_sets.new.text c.put_sets.result (line 81 (c.args.ordinal ∷ c.args.asked.size ∷ []), c.in_ok-line.ensures) c.put_sets.ensures.writes
