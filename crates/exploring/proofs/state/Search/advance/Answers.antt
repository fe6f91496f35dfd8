use Rattle.std.proofs.Common.{◌≡◌, ◌+◌, ◌-◌, ◌≤◌, ◌++◌, length, drop, sym, refl, ap, ◌∙◌, subst, arith, rules}
use Rattle.sets.specs.Advance.{run}
use Rattle.squeezing.specs.Table.{entries, offset}
use Rattle.exploring.specs.Meaning.{coming, Sound}
use Rattle.exploring.specs.Waiting.{items_of, explore_of}
use Rattle.exploring.proofs.Running.{run_none, ran_finished, ran_spent, ran-set, ready_more}
use Rattle.exploring.proofs.Stepping.{waited, held_of}
use Rattle.exploring.proofs.state.Search.advance.Given.{Over}
use Rattle.exploring.proofs.state.Search.advance.Goals as goal
use Rattle.exploring.proofs.state.Search.advance.Goals.{After-waits, After-waits-2}

-- running on from the spaces that wait ends as running from the start does
going_on : (g : Over) (c : After-waits g) → Sound g.M.Measure.algebra g.M.Measure.row g.M.Measure.span c.args.self.now → run (coming g.M.Measure.algebra g.M.Measure.row c.args.self.now) c.args.allowance 0 ≡ run (items_of g.M.Measure.algebra g.M.Measure.row c.steps.self.table.now (g.M.Measure.row c.steps.self.work.band.low) (g.M.Measure.row c.steps.self.work.band.high) c.waits.new.self) (c.args.allowance - c.steps.steps) c.steps.steps
going_on g c held =
    let m = g.M.Measure in
    let s = c.steps.self in
    c.steps.invariant.is held ∙ ap (λ l. run l (c.args.allowance - c.steps.steps) c.steps.steps) (waited m.algebra m.row s.table.now (m.row s.work.band.low) (m.row s.work.band.high) s.work.frontier c.waits.new.self c.waits.ensures.root c.waits.ensures.items)

-- and where the allowance is spent
stopping : (g : Over) (c : After-waits-2 g) → Sound g.M.Measure.algebra g.M.Measure.row g.M.Measure.span c.args.self.now → run (coming g.M.Measure.algebra g.M.Measure.row c.args.self.now) c.args.allowance 0 ≡ run (items_of g.M.Measure.algebra g.M.Measure.row c.steps.self.table.now (g.M.Measure.row c.steps.self.work.band.low) (g.M.Measure.row c.steps.self.work.band.high) c.waits-2.new.self) 0 c.args.allowance
stopping g c held =
    let m = g.M.Measure in
    let s = c.steps.self in
    let all : c.steps.steps ≡ c.args.allowance = omega (arith, c.steps.auto.steps-end, c.steps-test.false) in
    let none : c.args.allowance - c.args.allowance ≡ 0 = omega arith in
    c.steps.invariant.is held
    ∙ ap (λ l. run l (c.args.allowance - c.steps.steps) c.steps.steps) (waited m.algebra m.row s.table.now (m.row s.work.band.low) (m.row s.work.band.high) s.work.frontier c.waits-2.new.self c.waits-2.ensures.root c.waits-2.ensures.items)
    ∙ ap (λ k. run (items_of m.algebra m.row s.table.now (m.row s.work.band.low) (m.row s.work.band.high) c.waits-2.new.self) (c.args.allowance - k) k) all
    ∙ ap (λ k. run (items_of m.algebra m.row s.table.now (m.row s.work.band.low) (m.row s.work.band.high) c.waits-2.new.self) k c.args.allowance) none

pub returns-then-waits-clause-is : goal.returns-then-waits-clause-is
returns-then-waits-clause-is g c = λ held.
    let m = g.M.Measure in
    let s = c.steps.self in
    let f = c.waits-2.new.self in
    ran_spent _ _ c.args.allowance 0 c.args.allowance _ _ (stopping g (goal.at.returns-then-waits-clause-is g c).After-waits-2 held) (ready_more m.algebra (entries m.row f.root.n s.table.now) (m.row s.work.band.low) (m.row s.work.band.high) f (c.waits-2.ensures.some c.if-waits.true)) refl c.steps.invariant.page

pub returns-else-waits-clause-is : goal.returns-else-waits-clause-is
returns-else-waits-clause-is g c = λ held.
    let m = g.M.Measure in
    let s = c.steps.self in
    ran_finished _ _ c.args.allowance 0 c.args.allowance _ _ (stopping g (goal.at.returns-else-waits-clause-is g c).After-waits-2 held) (c.waits-2.ensures.none c.if-waits.false (explore_of m.algebra m.row c.waits-2.new.self.root.n s.table.now (m.row s.work.band.low) (m.row s.work.band.high))) c.steps.invariant.page

pub returns-then-examine-clause-is : goal.returns-then-examine-clause-is
returns-then-examine-clause-is g c = λ held.
    let m = g.M.Measure in
    let s = c.steps.self in
    let inv = c.steps.invariant in
    let told = c.if-examine.ensures.is (held_of m.algebra m.row m.span c.args.self.now.table.now s.table.now c.args.self.now.work.frontier.root c.waits.new.self.root inv.table (c.waits.ensures.root ∙ inv.root) held) in
    ran-set _ _ _ _ told.0 c.args.allowance (c.args.allowance - c.steps.steps) c.steps.steps _ _ (going_on g (goal.at.returns-then-examine-clause-is g c).After-waits held) told.1 (omega (arith, c.steps-test.true)) (told.2 ∙ ap (λ p. told.0 ++ drop (length told.0) p) inv.page) refl

pub steps-preserved : goal.steps-preserved
steps-preserved g c =
    let m = g.M.Measure in
    let s = c.steps.self in
    let inv = c.steps.invariant in
    record {
      root = c.examine.ensures.root ∙ c.waits.ensures.root ∙ inv.root;
      table = inv.table;
      page = c.examine.ensures.still c.if-examine.false ∙ inv.page;
      is = λ held.
          let told = c.if-examine.ensures.is (held_of m.algebra m.row m.span c.args.self.now.table.now s.table.now c.args.self.now.work.frontier.root c.waits.new.self.root inv.table (c.waits.ensures.root ∙ inv.root) held) in
          going_on g (goal.at.steps-preserved g c).After-waits held
          ∙ run_none _ _ (c.args.allowance - c.steps.steps) (c.args.allowance - (c.steps.steps + 1)) c.steps.steps told.0 (omega (arith, c.steps-test.true));
    }

pub examine-requires : goal.examine-requires
examine-requires g c =
    let root = c.waits.ensures.root in
    let many : c.waits.new.self.root.m ≡ c.args.self.now.work.frontier.root.m = ap (λ q. q.m) (root ∙ c.steps.invariant.root) in (
      search rules,
      (
        subst (λ q. offset q.n q.m ≤ length c.steps.self.table.now) (sym root) c.steps.self.long,
        (
          c.waits.ensures.some c.if-not-waits.false,
          omega (arith, many, c.if-page-self.false, c.steps.auto.page),
        ),
      ),
    )
