use Rattle.std.proofs.Common.{◌≡◌, ◌<◌, length, take, refl, arith, rules}
use Rattle.squeezing.specs.Table.{Holds}
use Rattle.squeezing.specs.Frames.{Suits}
use Rattle.exploring.proofs.Stepping.{suited, left_none, left-set, left_open}
use Rattle.exploring.proofs.examining.examine.Given.{Over}
use Rattle.exploring.proofs.examining.examine.Goals as goal
use Rattle.exploring.proofs.examining.examine.Goals.{After-take-space}

-- the table and the room suit the space that was taken
suits_next : (g : Over) (c : After-take-space g) → Holds g.M.Measure.algebra g.M.Measure.row g.M.Measure.span c.args.work.now.frontier.root.n c.args.work.now.frontier.root.m c.args.table.now → Suits g.M.Measure.algebra g.M.Measure.row g.M.Measure.span c.args.table.now (length c.args.work.now.room) c.take-space.result
suits_next g c held =
    let m = g.M.Measure in
    let told = c.take-space.ensures in
    let long : 120 < length c.args.work.now.room = omega arith in
    suited m.algebra m.row m.span c.args.table.now (length c.args.work.now.room) c.args.work.now.frontier.root c.take-space.result told.same.1 told.same.0 c.requires.sized long held

pub returns-in_default-clause-is : goal.returns-in_default-clause-is
returns-in_default-clause-is g c = λ held.
    let m = g.M.Measure in
    let band = c.args.work.now.band in
    let told = c.take-space.ensures in
    let suits = suits_next g (goal.at.returns-in_default-clause-is g c).After-take-space held in
    (left_none m.algebra m.row c.args.table.now (m.row band.low) (m.row band.high) c.args.work.now.frontier c.take-space.new.self c.take-space.result told.root.0 told.same.1 told.items (c.in_default.ensures suits), refl)

pub returns-in_default-first_open-clause-is : goal.returns-in_default-first_open-clause-is
returns-in_default-first_open-clause-is g c = λ held.
    let m = g.M.Measure in
    let band = c.args.work.now.band in
    let told = c.take-space.ensures in
    let t = c.in-Some.left in
    let suits = suits_next g (goal.at.returns-in_default-first_open-clause-is g c).After-take-space held in (
      take t.m t.lo,
      left-set m.algebra m.row c.args.table.now (m.row band.low) (m.row band.high) c.args.work.now.frontier c.take-space.new.self c.take-space.result told.root.0 told.same.1 told.items t (c.in-Some.ensures.1 suits) c.in_default-first_open.ensures,
      c.write.ensures,
    )

pub returns-clause-is : goal.returns-clause-is
returns-clause-is g c = λ held.
    let m = g.M.Measure in
    let band = c.args.work.now.band in
    let told = c.take-space.ensures in
    let t = c.in-Some.left in
    let lows : length t.lo ≡ 120 = search rules in
    let highs : length t.hi ≡ 120 = search rules in
    let suits = suits_next g (goal.at.returns-clause-is g c).After-take-space held in
    (left_open m.algebra m.row c.args.table.now (m.row band.low) (m.row band.high) c.args.work.now.frontier c.take-space.new.self c.take-space.result told.root.0 told.same.1 told.items t c.in-Some-first_open.i lows highs (c.in-Some.ensures.1 suits) c.in-Some-first_open.ensures c.push.new.self c.push.ensures.root c.push.ensures.items, refl)
