use Rattle.std.proofs.Common.{◌≡◌, ◌+◌, get_or, sym, ap, ◌∙◌, arith}
use Rattle.sets.specs.Spaces.{lowered, stays}
use Rattle.squeezing.specs.Standing.{StandsIn, HoldsIn, entries_in}
use Rattle.squeezing.proofs.Sums.{places_of}
use Rattle.squeezing.proofs.LoweredTotals.{lowered_stands, greatest_to_here, greatest_to_next, greatest_to_none}
use Rattle.squeezing.proofs.lowering.lower.Given.{Over}
use Rattle.squeezing.proofs.lowering.lower.Goals as goal
use Rattle.squeezing.proofs.lowering.lower.Goals.{After-not_above}

-- what was found of the place that is tried is what the definition asks of it
tried : (g : Over) (c : After-not_above g) → HoldsIn g.M.Measure.algebra g.M.Measure.row g.M.Measure.span c.args.lo.now.totals.now → stays g.M.Measure.algebra (entries_in g.M.Measure.row c.args.lo.now.totals.now) (g.M.Measure.row c.args.high) c.args.lo.now.places.now (c.args.i + 1) c.places.v ≡ c.not_above.result
tried g c held =
    let m = g.M.Measure in
    let t = c.args.lo.now.totals.now in
    let back = c.advance.new.self in
    let st : StandsIn m.algebra m.row m.span t (lowered c.args.lo.now.places.now (c.args.i + 1) c.places.v) c.plus-sum.result =
    lowered_stands m.algebra g.met.M.Measure.lawful m.row m.span g.met.M.Measure.owned t c.args.lo.now.places.now (places_of c.args.lo.now) c.args.i back.end c.places.v c.args.before c.neighbours-run.result back.after c.plus.result c.plus-sum.result (omega arith) c.places.invariant.0 c.advance.ensures.free c.requires.rest c.neighbours-run.ensures c.advance.ensures.on (c.plus.ensures.exact, c.plus.ensures.small) (c.plus-sum.ensures.exact, c.plus-sum.ensures.small) in
    sym (ap (λ t. m.algebra.not_above t (m.row c.args.high)) (st.stood held).row_is) ∙ sym c.not_above.ensures

pub returns-then-not_above-clause-place : goal.returns-then-not_above-clause-place
returns-then-not_above-clause-place g c = λ held.
    sym (c.places.invariant.4 held ∙ greatest_to_here _ c.places.v (get_or c.args.lo.now.places.now c.args.i 0) (omega arith) (tried g (goal.at.returns-then-not_above-clause-place g c).After-not_above held ∙ c.if-not_above.true))

pub places-preserved : goal.places-preserved
places-preserved g c =
    let on = c.advance.ensures.on in (
      omega arith,
      omega arith,
      λ h. omega (arith, c.places.invariant.2 h),
      record { past = on.past; upto = on.upto; stands = on.stands; held = λ j h k. omega (arith, on.held j h k) },
      λ held. c.places.invariant.4 held ∙ greatest_to_next _ c.places.v (get_or c.args.lo.now.places.now c.args.i 0) (omega (arith, (places_of c.args.lo.now).least c.args.i c.requires.within)) (omega arith) (tried g (goal.at.places-preserved g c).After-not_above held ∙ c.if-not_above.false),
    )

pub returns-else-not_above-clause-place : goal.returns-else-not_above-clause-place
returns-else-not_above-clause-place g c = λ held.
    greatest_to_none _ c.places.v (get_or c.args.lo.now.places.now c.args.i 0) (omega arith) (omega arith) (tried g (goal.at.returns-else-not_above-clause-place g c).After-not_above held ∙ c.if-not_above.false) ∙ sym (c.places.invariant.4 held)
