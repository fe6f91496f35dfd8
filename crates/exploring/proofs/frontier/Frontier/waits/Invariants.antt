use Rattle.std.proofs.Common.{◌≡◌, ℕ, false}
use Rattle.sets.specs.Spaces.{Space}
use Rattle.sets.specs.Trace.{Trace}
use Rattle.exploring.specs.Waiting.{depth_of, to_come}
use Rattle.exploring.proofs.frontier.Frontier.waits.Given as goal

abbrev pub invariant-popping : goal.invariant-popping
invariant-popping l = (l.self.fresh ≡ false) × (l.self.root ≡ l.initial.self.root) × ((e : ℕ → Space → Trace) → to_come e l.self ≡ to_come e l.initial.self)

abbrev pub decreases-popping : goal.decreases-popping
decreases-popping l = depth_of l.self
