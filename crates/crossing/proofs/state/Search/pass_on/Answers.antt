use Rattle.crossing.proofs.Passing.{passes_on}
use Rattle.crossing.proofs.state.Search.pass_on.Goals as goal

pub returns-clause-comes : goal.returns-clause-comes
returns-clause-comes c =
    let s = c.args.self.now in
    passes_on s.course s.straight c.restart.new.self _ _ _ c.restart.ensures.same c.requires c.restart.ensures.comes c.ends.ensures.low c.ends.ensures.high
