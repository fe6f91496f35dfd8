use Rattle.std.proofs.Common.{rules, ℕ, ◌<◌, ◌≤◌, take, arith}
use borrow.Author.Tests.{tests}
use Rattle.std.proofs.lemmas.Iterator.{IsFirst-from_position, YieldsList-from_zip, YieldsList-from_slice}
use Rattle.exploring.proofs.Opened.{first_opens}
use Rattle.exploring.proofs.opening.first_open.Goals as goal

pub returns : goal.returns
returns c =
    let f = c.args.frame.now in
    first_opens f (omega arith) (omega arith) c.position.result
    (IsFirst-from_position c.position.new.self _ c.position.result (λ (p : ℕ × ℕ). p.0 < p.1) (λ p. p.1 ≤ p.0) c.position.ensures.ran (YieldsList-from_zip {s = c.zip.result} (YieldsList-from_slice (take f.m f.lo) cc) (YieldsList-from_slice (take f.m f.hi) cc)) (λ x q k. search (rules, tests)) (λ x q k. search (rules, tests)))
