use Rattle.std.proofs.Common.{◌≡◌, length, arith}
use Rattle.exploring.proofs.Born.{born, born_is}
use Rattle.exploring.proofs.children.child.Goals as goal

pub invariant_of-result : goal.invariant_of-result
invariant_of-result c =
    let f = c.args.frame in
    let long : length f.lo ≡ 120 = omega arith in
    let high : length f.hi ≡ 120 = omega arith in
    let facts = born f.n f.m f.lo f.hi c.loop-j.lo c.args.i c.args.v long high c.loop-j.invariant.0 f.small c.requires.open f.roomy f.lows f.highs f.under f.upto c.requires.place.0 c.requires.place.1 c.requires.settled c.loop-j.invariant.1 (λ k h l. c.loop-j.invariant.2 k h (omega arith)) in
    record { small = f.small; roomy = facts.0; lows = facts.1; highs = facts.2; under = facts.3; upto = facts.4; few = f.few }

pub returns-clause-is : goal.returns-clause-is
returns-clause-is c =
    let f = c.args.frame in
    let long : length f.lo ≡ 120 = omega arith in
    let high : length f.hi ≡ 120 = omega arith in
    born_is f.n f.m f.lo f.hi c.loop-j.lo c.args.i c.args.v long high c.loop-j.invariant.0 f.small c.requires.open f.roomy f.lows f.highs f.under f.upto c.requires.place.0 c.requires.place.1 c.requires.settled c.loop-j.invariant.1 (λ k h l. c.loop-j.invariant.2 k h (omega arith))
