use Rattle.exploring.proofs.Rooting.{begins}
use Rattle.exploring.proofs.starting.plan.Goals as goal

pub returns-clause-items : goal.returns-clause-items
returns-clause-items c = let is = c.whole.ensures in λ e. begins e c.whole.result _ c.args.n c.args.m c.new.ensures is.same.1 is.lowest is.highest
