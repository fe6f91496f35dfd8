use Rattle.std.proofs.Common.{refl}
use Rattle.exploring.proofs.Rooting.{begins}
use Rattle.exploring.proofs.frontier.Frontier.restart.Goals as goal

pub returns-clause-items : goal.returns-clause-items
returns-clause-items c = let f = c.args.self.now in λ e. begins e f.root _ f.root.n f.root.m c.clear.ensures refl f.lowest f.highest
