-- What holds of all searches, of their definitions. This is the part of the law over runs that stands so far: it speaks of
-- what searches have to come, not yet of the calls that two offices made.
use Rattle.sets.specs.Statements.{TraceFinds, TraceCounts, Complements}
use Rattle.sets.specs.Crossings.{CrossedFinds, CrossedSound, CrossedComplete, CrossedOrder, CrossedOnce, CrossedCounts}

pub record SearchesAreExact : Type 0 where
  pub finds : TraceFinds
  pub counts : TraceCounts
  pub complements : Complements
  pub crossed_finds : CrossedFinds
  pub crossed_sound : CrossedSound
  pub crossed_complete : CrossedComplete
  pub crossed_order : CrossedOrder
  pub crossed_once : CrossedOnce
  pub crossed_counts : CrossedCounts
