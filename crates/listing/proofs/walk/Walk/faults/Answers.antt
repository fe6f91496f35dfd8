use Rattle.std.proofs.Common.{length, ◌∙◌}
use Rattle.records.specs.Records.{plain}
use Rattle.listing.proofs.Going.{fault_behind}
use Rattle.listing.proofs.walk.Walk.faults.Goals as goal

pub records-preserved : goal.records-preserved
records-preserved c =
    let takes = rw c.in-Some.is at c.in_ok-step.ensures in
    fault_behind (length c.args.table.now) c.records.self c.step.new.self (plain c.in-Some.field-0) takes ∙ c.records.invariant
