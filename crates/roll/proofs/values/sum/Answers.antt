use Rattle.std.proofs.Common.{◌+◌, ◌≤◌, ap, ◌∙◌, arith}
use Rattle.std.proofs.lemmas.List.{take_all}
use Rattle.roll.specs.Totals.{Few}
use Rattle.roll.proofs.Sums.{sums, sums_next, few_at, all_places}
use Rattle.roll.proofs.values.sum.Goals as goal

pub loop-one-preserved : goal.loop-one-preserved
loop-one-preserved g c =
    let m = g.M.Measure in
    let met = g.met.M.Measure in
    let xs = c.args.entries.now in
    let i = c.loop-one.one-index in
    let x = c.one-item.result in
    let inv = c.loop-one.invariant in
    let small : Few m.span xs → m.span c.loop-one.sum + m.span x.value ≤ i + 1 = λ few. omega (arith, inv.2 few, few_at m.span xs i x c.loop-one-test.true c.one-item.is few) in
    let fits : Few m.span xs → m.span c.loop-one.sum + m.span x.value ≤ 240 = λ few. omega (arith, small few, few.count) in (
      omega arith,
      λ few. c.plus-sum.ensures.exact (fits few) ∙ ap (λ r. m.algebra.plus r (m.row x.value)) (inv.1 few) ∙ sums_next met.lawful m.row met.owned xs i x c.loop-one-test.true c.one-item.is,
      λ few. omega (arith, c.plus-sum.ensures.small (fits few), small few),
    )

pub returns : goal.returns
returns g c = λ few.
    let m = g.M.Measure in
    let xs = c.args.entries.now in
    let inv = c.loop-one.invariant in
    record {
      exact = inv.1 few ∙ ap (sums m.algebra m.row) (take_all c.loop-one.one-index xs c.loop-one-test.false) ∙ all_places m.algebra m.row xs;
      small = omega (arith, inv.2 few, inv.0);
    }
