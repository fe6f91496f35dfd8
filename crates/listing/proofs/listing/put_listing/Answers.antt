use Rattle.std.proofs.Common.{◌≡◌, length, sym, ap, ◌∙◌, subst}
use Rattle.listing.specs.Text.{Puts}
use Rattle.listing.specs.Listing.{listed, lines_of}
use Rattle.listing.proofs.Going.{has_lines}
use Rattle.listing.proofs.listing.put_listing.Goals as goal

pub returns-in-Ok : goal.returns-in-Ok
returns-in-Ok c =
    let t = length c.args.table.now in
    let has = has_lines (lines_of (length c.args.cells.now) t c.args.file.now) c.in-Ok.ensures in
    let again : lines_of (length c.faults_in.new.cells) t c.args.file.now ≡ _ = ap (λ n. lines_of n t c.args.file.now) c.faults_in.auto.cells ∙ has.1 in
    subst (λ l. Puts c.args.text.now l c.put_questions.result c.put_questions.new.text) (ap listed (sym has.1)) (c.put_questions.ensures.lines has.0 again)
