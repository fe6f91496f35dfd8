use Rattle.std.proofs.Common.{◌≡◌, ◌-◌}
use Rattle.sets.specs.Advance.{run}
use Rattle.exploring.specs.Meaning.{coming, Sound, table_of}
use Rattle.exploring.proofs.state.Search.advance.Given as goal

-- running on from here ends as running from the start does
abbrev pub invariant-steps : goal.invariant-steps
invariant-steps g l =
    let m = g.M.Measure in
    let s = l.initial.self in
    record {
      root : l.self.work.frontier.root ≡ s.work.frontier.root;
      table : table_of l.self ≡ table_of s;
      page : l.page ≡ l.initial.page;
      is : Sound m.algebra m.row m.span s → run (coming m.algebra m.row s) l.allowance 0 ≡ run (coming m.algebra m.row l.self) (l.allowance - l.steps) l.steps;
    }
