use Rattle.std.proofs.Common.{length, ◌∙◌}
use Rattle.listing.proofs.listing.put_questions.Goals as goal

pub returns-clause-lines : goal.returns-clause-lines
returns-clause-lines c = λ bs whole. let opened = c.in-Ok.ensures in c.put_on.ensures.lines bs (opened (length c.args.table.now) ∙ whole)
