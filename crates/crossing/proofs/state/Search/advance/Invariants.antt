use Rattle.std.proofs.Common.{◌≡◌, ◌-◌, ◌≤◌}
use Rattle.sets.specs.Advance.{run}
use Rattle.exploring.specs.Meaning.{Same}
use Rattle.crossing.specs.Meaning.{to_come}
use Rattle.crossing.proofs.state.Search.advance.Given as goal

-- running on from here ends as running from the start does
abbrev pub invariant-ranks : goal.invariant-ranks
invariant-ranks l =
    let s = l.initial.self in
    record {
      within : l.steps ≤ l.allowance;
      same : Same s.straight l.self.straight;
      page : l.page ≡ l.initial.page;
      runs : run (to_come s) l.allowance 0 ≡ run (to_come l.self) (l.allowance - l.steps) l.steps;
    }

abbrev pub decreases-ranks : goal.decreases-ranks
decreases-ranks l = l.self.course.last - l.self.course.rank
