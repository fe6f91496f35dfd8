use Rattle.std.proofs.Common.{◌≡◌, ◌≤◌, length, take, ap, ◌∙◌, subst, arith, rules}
use Rattle.crossing.proofs.Falling.{Fell, fell_none, fell_more, fell_all}
use Rattle.crossing.proofs.ranks.falls.Goals as goal

pub loop-pair-init : goal.loop-pair-init
loop-pair-init c =
    let xs = c.args.entries.now in
    let whole : xs ≡ c.into_iter-pair-iterator.result.rest.now = search rules in
    (search rules, subst (λ l. Fell xs l _) whole (fell_none xs c.requires))

pub loop-pair-preserved : goal.loop-pair-preserved
loop-pair-preserved c =
    let two = c.loop-pair.invariant.0 in
    let left = c.loop-pair.pair-iterator.rest.now in
    let went = c.in-Some.ensures.steps in (
      went.0 ∙ two,
      fell_more c.args.entries.now left c.next.new.self.rest.now c.in-Some.pair.now c.loop-pair.most c.fall.result c.greater-most.result (subst (λ n. n ≤ length left) two went.1.0)
          (went.1.1 ∙ ap (λ n. take n left) two) went.1.2 c.fall.ensures c.greater-most.ensures c.loop-pair.invariant.1,
    )

pub returns : goal.returns
returns c =
    let went = c.in-None.ensures.steps in
    fell_all c.args.entries.now c.loop-pair.pair-iterator.rest.now c.loop-pair.most (omega (arith, went.1.0, c.loop-pair.invariant.0)) c.loop-pair.invariant.1
