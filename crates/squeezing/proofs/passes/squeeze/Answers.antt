use Rattle.std.proofs.Common.{◌≡◌, ◌+◌, ◌-◌, ◌<◌, ◌≤◌, false, not, ◌||◌, eqb, length, get_or, Some, sym, refl, ap, ◌∙◌, arith}
use Rattle.std.proofs.lemmas.List.{length-set}
use Rattle.std.proofs.Math.Bool.{or-false, or_assoc}
use Rattle.sets.specs.Spaces.{space, raise_from, lower_from}
use Rattle.squeezing.specs.Standing.{HoldsIn, entries_in}
use Rattle.squeezing.proofs.LoweringPass.{Lowered, Sunk, lower_from_none, lower_from_some, higher-set, lowered-set, fell-set, back_next, sunk_all}
use Rattle.squeezing.proofs.RaisingPass.{Swept, raise_from_none, raise_from_some, lower-set, settled-set, rose-set, front_next, swept_all}
use Rattle.squeezing.proofs.Squeezed.{places-higher, swept_places, passed, still_same, moved_less, moved_other, pass_no_rise, pass_no_fall, squeeze_none, squeeze_still, squeeze_more}
use Rattle.squeezing.proofs.passes.squeeze.Given.{Over}
use Rattle.squeezing.proofs.passes.squeeze.Goals as goal
use Rattle.squeezing.proofs.passes.squeeze.Goals.{After-lower_totals, After-lowering}

pub raising-init : goal.raising-init
raising-init g c =
    let fair = c.passes.invariant.0 in
    let all : length c.passes.hi ≡ length c.passes.hi - 0 = omega arith in (
      fair.same,
      record { least = fair.lows.least; most = fair.lows.most },
      record { below = λ j k. absurd (omega arith); rising = λ j k. absurd (omega arith) },
      record { still = λ _. refl; rose = omega arith; up = λ j. omega arith },
      c.none-front.ensures _ _ _,
      λ held. ap (λ k. raise_from g.M.Measure.algebra (entries_in g.M.Measure.row c.args.totals.now) (g.M.Measure.row c.args.band.low) c.passes.hi 1 k c.passes.lo) all,
    )

pub raising-preserved : goal.raising-preserved
raising-preserved g c =
    let m = g.M.Measure in
    let t = c.args.totals.now in
    let xs = entries_in m.row t in
    let lo = c.raising.lo in
    let hi = c.passes.hi in
    let i = c.raising.i in
    let v = c.replace.new.dest in
    let is : Some c.in-Some.v ≡ Some v = ap Some (sym c.replace.ensures.after) in
    let inv = c.raising.invariant in
    let within : i < length lo = omega (arith, inv.0) in
    let found = c.in-Some.ensures.found v is in
    let many : length hi - i ≡ (length hi - (i + 1)) + 1 = omega arith in (
      length-set lo i v ∙ inv.0,
      lower-set lo i v within t.n (omega (arith, found.0, inv.1.least i within)) (omega (arith, found.2, c.passes.invariant.0.highs.most i c.raising-test.true)) inv.1,
      settled-set lo i v within hi found.2 found.1 inv.2,
      rose-set lo i v within c.raising.moved c.passes.lo c.in-Some.v c.replace.result (sym c.replace.ensures.after) c.replace.ensures.value found.0 inv.3,
      front_next m.algebra m.row m.span t hi lo i v c.raise.new.front.start c.raise.new.front.before within (c.in-Some.ensures.on v is),
      λ held. inv.5 held ∙ raise_from_some m.algebra xs (m.row c.args.band.low) hi i (length hi - i) (length hi - (i + 1)) lo v many (sym (c.in-Some.ensures.place held) ∙ is),
    )

-- all positions were raised
swept : (g : Over) (c : After-lower_totals g) → Swept (HoldsIn g.M.Measure.algebra g.M.Measure.row g.M.Measure.span c.args.totals.now) c.args.totals.now.n c.passes.hi c.passes.lo c.raising.lo (raise_from g.M.Measure.algebra (entries_in g.M.Measure.row c.args.totals.now) (g.M.Measure.row c.args.band.low) c.passes.hi 1 (length c.passes.hi) c.passes.lo) c.raising.moved
swept g c =
    let m = g.M.Measure in
    let t = c.args.totals.now in
    let xs = entries_in m.row t in
    let inv = c.raising.invariant in
    let end : c.raising.i ≡ length c.passes.hi = omega (arith, c.raising-test.false) in
    swept_all m.algebra xs (m.row c.args.band.low) _ t.n c.passes.hi c.passes.lo c.raising.lo c.raising.i c.raising.moved end inv.0 inv.1 inv.2 inv.3 inv.5

pub lowering-init : goal.lowering-init
lowering-init g c =
    let m = g.M.Measure in
    let t = c.args.totals.now in
    let lo = c.raising.lo in
    let hi = c.passes.hi in
    let same = sym c.raising.invariant.0 in (
      same,
      places-higher t.n hi c.passes.invariant.0.highs,
      record { above = λ j k b. absurd (omega (arith, same)); rising = λ j k b. absurd (omega (arith, same)) },
      (false, sym (or-false c.raising.moved), record { still = λ _. refl; fell = omega arith; down = λ j. omega arith }),
      (λ some. c.none-back.ensures t lo _ refl some),
      λ held. refl,
    )

pub lowering-preserved : goal.lowering-preserved
lowering-preserved g c =
    let m = g.M.Measure in
    let t = c.args.totals.now in
    let xs = entries_in m.row t in
    let lo = c.raising.lo in
    let hi = c.lowering.hi in
    let i = c.lowering.i - 1 in
    let v = c.replace-in-lowering.new.dest in
    let new = c.in-Some-lower.v in
    let old = c.replace-in-lowering.result in
    let other = not (eqb new old) in
    let is : Some new ≡ Some v = ap Some (sym c.replace-in-lowering.ensures.after) in
    let inv = c.lowering.invariant in
    let places = swept_places _ _ _ _ _ _ _ (swept g (goal.at.lowering-preserved g c).After-lower_totals) in
    let within : i < length hi = omega (arith, inv.0) in
    let found = c.in-Some-lower.ensures.found v is in
    let some : 1 ≤ v = omega (arith, found.0, places.least i (omega arith)) in
    let past : i + 1 < length hi → v < get_or hi (i + 1) 0 = λ h. omega (arith, found.2 h, inv.1.least (i + 1) h) in
    let upto_here : i + 1 ≡ c.lowering.i = omega arith in
    let done = inv.2 in
    let lowered_here : Lowered (i + 1) lo hi = record { above = λ j k b. done.above j (omega arith) b; rising = λ j k b. done.rising j (omega arith) b } in (
      length-set hi i v ∙ inv.0,
      higher-set hi i v within t.n some (omega (arith, found.1, inv.1.most i within)) inv.1,
      lowered-set hi i v within lo found.0 past lowered_here,
      (
        inv.3.0 || other,
        ap (λ b. b || other) inv.3.1 ∙ or_assoc c.raising.moved inv.3.0 other,
        fell-set hi i v within inv.3.0 c.passes.hi new old (sym c.replace-in-lowering.ensures.after) c.replace-in-lowering.ensures.value found.1 inv.3.2,
      ),
      (λ more. back_next m.algebra m.row m.span t lo hi i v c.lower.new.back.end c.lower.new.back.after within some more (c.in-Some-lower.ensures.on v is)),
      λ held. inv.5 held ∙ lower_from_some m.algebra xs (m.row c.args.band.high) lo i c.lowering.i hi v (omega arith) (sym (c.in-Some-lower.ensures.place held) ∙ is),
    )

-- all positions were lowered
sunk : (g : Over) (c : After-lowering g) → Sunk (HoldsIn g.M.Measure.algebra g.M.Measure.row g.M.Measure.span c.args.totals.now) c.args.totals.now.n c.raising.lo c.passes.hi c.lowering.hi (lower_from g.M.Measure.algebra (entries_in g.M.Measure.row c.args.totals.now) (g.M.Measure.row c.args.band.high) c.raising.lo (length c.raising.lo) c.passes.hi) c.lowering.invariant.3.0
sunk g c =
    let m = g.M.Measure in
    let t = c.args.totals.now in
    let xs = entries_in m.row t in
    let inv = c.lowering.invariant in
    let end : c.lowering.i ≡ 0 = omega (arith, c.lowering-test.false) in
    sunk_all m.algebra xs (m.row c.args.band.high) _ t.n c.raising.lo c.passes.hi c.lowering.hi c.lowering.i inv.3.0 end inv.0 inv.1 inv.2 inv.3.2 inv.5

pub returns-in_default : goal.returns-in_default
returns-in_default g c =
    let m = g.M.Measure in
    let t = c.args.totals.now in
    let xs = entries_in m.row t in
    let low = m.row c.args.band.low in
    let high = m.row c.args.band.high in
    let hi = c.passes.hi in
    let i = c.raising.i in
    λ held.
    let none = c.raising.invariant.5 held ∙ raise_from_none m.algebra xs low hi (i + 1) (length hi - i) c.raising.lo (omega arith) (sym (c.in_default.ensures.place held)) in
    c.passes.invariant.4.2 held ∙ squeeze_none m.algebra xs low high c.passes.invariant.4.0 (space c.passes.lo hi) (pass_no_rise m.algebra xs low high c.passes.lo hi none)

pub returns-in_default-lower : goal.returns-in_default-lower
returns-in_default-lower g c =
    let m = g.M.Measure in
    let t = c.args.totals.now in
    let xs = entries_in m.row t in
    let low = m.row c.args.band.low in
    let high = m.row c.args.band.high in
    let lo = c.raising.lo in
    let at = (goal.at.returns-in_default-lower g c).After-lower_totals in
    λ held.
    let none = c.lowering.invariant.5 held ∙ lower_from_none m.algebra xs high lo (c.lowering.i - 1) c.lowering.i c.lowering.hi (omega arith) (sym (c.in_default-lower.ensures.place held)) in
    c.passes.invariant.4.2 held ∙ squeeze_none m.algebra xs low high c.passes.invariant.4.0 (space c.passes.lo c.passes.hi) (pass_no_fall m.algebra xs low high c.passes.lo c.passes.hi lo ((swept g at).found held) none)

pub returns-then-not-moved : goal.returns-then-not-moved
returns-then-not-moved g c =
    let m = g.M.Measure in
    let t = c.args.totals.now in
    let xs = entries_in m.row t in
    let at = goal.at.returns-then-not-moved g c in
    let p = passed m.algebra xs (m.row c.args.band.low) (m.row c.args.band.high) _ _ _ _ _ _ _ _ (swept g at.After-lower_totals) (sunk g at.After-lowering) in
    let rose = c.raising.invariant.3 in
    let fell = c.lowering.invariant.3.2 in
    let same = still_same _ _ _ _ _ _ (sym c.lowering.invariant.3.1 ∙ c.if-not-moved.true) rose fell in (
      (λ held. c.passes.invariant.4.2 held ∙ squeeze_still m.algebra xs (m.row c.args.band.low) (m.row c.args.band.high) c.passes.invariant.4.0 (space c.passes.lo c.passes.hi) (space c.raising.lo c.lowering.hi) (p.0 held) same),
      p.1,
      (λ j. omega (arith, c.passes.invariant.2 j, rose.up j)),
      (λ j. omega (arith, c.passes.invariant.3 j, fell.down j)),
    )

pub passes-smaller : goal.passes-smaller
passes-smaller g c =
    let m = g.M.Measure in
    let t = c.args.totals.now in
    let xs = entries_in m.row t in
    let at = goal.at.passes-smaller g c in
    let p = passed m.algebra xs (m.row c.args.band.low) (m.row c.args.band.high) _ _ _ _ _ _ _ _ (swept g at.After-lower_totals) (sunk g at.After-lowering) in
    moved_less _ _ _ _ _ _ _ (sym c.lowering.invariant.3.1 ∙ c.if-not-moved.false) c.raising.invariant.3 c.lowering.invariant.3.2 p.1

pub passes-preserved : goal.passes-preserved
passes-preserved g c =
    let m = g.M.Measure in
    let t = c.args.totals.now in
    let xs = entries_in m.row t in
    let at = goal.at.passes-preserved g c in
    let p = passed m.algebra xs (m.row c.args.band.low) (m.row c.args.band.high) _ _ _ _ _ _ _ _ (swept g at.After-lower_totals) (sunk g at.After-lowering) in
    let rose = c.raising.invariant.3 in
    let fell = c.lowering.invariant.3.2 in
    let less = moved_less _ _ _ _ _ _ _ (sym c.lowering.invariant.3.1 ∙ c.if-not-moved.false) rose fell p.1 in
    let other = moved_other _ _ _ _ _ _ (sym c.lowering.invariant.3.1 ∙ c.if-not-moved.false) rose fell in (
      p.1,
      c.lowering.invariant.0 ∙ c.raising.invariant.0 ∙ c.passes.invariant.1,
      (λ j. omega (arith, c.passes.invariant.2 j, rose.up j)),
      (λ j. omega (arith, c.passes.invariant.3 j, fell.down j)),
      squeeze_more m.algebra xs (m.row c.args.band.low) (m.row c.args.band.high) (HoldsIn m.algebra m.row m.span t) c.passes.invariant.4.0 _ (space c.passes.lo c.passes.hi) (space c.raising.lo c.lowering.hi) c.passes.invariant.4.1 less c.passes.invariant.4.2 p.0 other,
    )
