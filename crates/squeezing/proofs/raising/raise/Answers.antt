use Rattle.std.proofs.Common.{◌≡◌, ◌+◌, get_or, sym, ap, ◌∙◌, arith}
use Rattle.sets.specs.Spaces.{raised, reaches}
use Rattle.squeezing.specs.Standing.{StandsIn, HoldsIn, entries_in}
use Rattle.squeezing.proofs.Sums.{places_of}
use Rattle.squeezing.proofs.RaisedTotals.{raised_stands, least_to_here, least_to_next, least_to_none}
use Rattle.squeezing.proofs.raising.raise.Given.{Over}
use Rattle.squeezing.proofs.raising.raise.Goals as goal
use Rattle.squeezing.proofs.raising.raise.Goals.{After-not_above}

-- what was found of the place that is tried is what the definition asks of it
tried : (g : Over) (c : After-not_above g) → HoldsIn g.M.Measure.algebra g.M.Measure.row g.M.Measure.span c.args.hi.now.totals.now → reaches g.M.Measure.algebra (entries_in g.M.Measure.row c.args.hi.now.totals.now) (g.M.Measure.row c.args.low) c.args.hi.now.places.now (c.args.i + 1) c.places.v ≡ c.not_above.result
tried g c held =
    let m = g.M.Measure in
    let t = c.args.hi.now.totals.now in
    let front = c.advance.new.self in
    let st : StandsIn m.algebra m.row m.span t (raised c.args.hi.now.places.now (c.args.i + 1) c.places.v) c.plus-sum.result =
    raised_stands m.algebra g.met.M.Measure.lawful m.row m.span g.met.M.Measure.owned t c.args.hi.now.places.now (places_of c.args.hi.now) c.args.i front.start c.places.v front.before c.neighbours-run.result c.args.after c.plus.result c.plus-sum.result c.requires.within c.places.invariant.0 (omega arith) c.advance.ensures.free c.advance.ensures.on c.neighbours-run.ensures c.requires.rest (c.plus.ensures.exact, c.plus.ensures.small) (c.plus-sum.ensures.exact, c.plus-sum.ensures.small) in
    sym (ap (m.algebra.not_above (m.row c.args.low)) (st.stood held).row_is) ∙ sym c.not_above.ensures

pub returns-then-not_above-clause-place : goal.returns-then-not_above-clause-place
returns-then-not_above-clause-place g c = λ held.
    sym (c.places.invariant.4 held ∙ least_to_here _ c.places.v (get_or c.args.hi.now.places.now c.args.i 0) (omega arith) (tried g (goal.at.returns-then-not_above-clause-place g c).After-not_above held ∙ c.if-not_above.true))

pub places-preserved : goal.places-preserved
places-preserved g c =
    let on = c.advance.ensures.on in (
      omega arith,
      omega arith,
      λ h. omega (arith, c.places.invariant.2 h),
      record { start = on.start; stands = on.stands; held = λ j h. omega (arith, on.held j h) },
      λ held. c.places.invariant.4 held ∙ least_to_next _ c.places.v (get_or c.args.hi.now.places.now c.args.i 0) (omega arith) (tried g (goal.at.places-preserved g c).After-not_above held ∙ c.if-not_above.false),
    )

pub returns-else-not_above-clause-place : goal.returns-else-not_above-clause-place
returns-else-not_above-clause-place g c = λ held.
    least_to_none _ c.places.v (get_or c.args.hi.now.places.now c.args.i 0) (omega arith) (omega arith) (tried g (goal.at.returns-else-not_above-clause-place g c).After-not_above held ∙ c.if-not_above.false) ∙ sym (c.places.invariant.4 held)
