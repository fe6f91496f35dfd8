use Rattle.std.proofs.Common.{◌+◌, ◌-◌, refl, ◌∙◌, arith}
use Rattle.std.proofs.lemmas.List.{length-set}
use Rattle.exploring.proofs.Rooting.{written}
use Rattle.exploring.proofs.whole.whole.Goals as goal

pub loop-j-preserved : goal.loop-j-preserved
loop-j-preserved c =
    let i = c.loop-j.invariant in
    let j = c.loop-j.j in
    let start = c.args.n - c.args.m + 1 in (
      length-set c.loop-j.lo j (1 + j) ∙ i.0,
      length-set c.loop-j.hi j (start + j) ∙ i.1,
      written (λ k. 1 + k) c.loop-j.lo j (1 + j) (omega arith) refl i.2,
      written (λ k. start + k) c.loop-j.hi j (start + j) (omega arith) refl i.3,
    )

pub returns : goal.returns
returns c =
    let i = c.loop-j.invariant in
    record {
      same = (refl, refl);
      lowest = λ k h. i.2 k (omega arith);
      highest = λ k h. i.3 k (omega arith);
    }
