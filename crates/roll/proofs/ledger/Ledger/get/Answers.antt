use Rattle.std.proofs.Common.{◌≡◌, suc, ap, ◌∙◌, arith}
use Rattle.std.specs.List.{slice_get}
use Rattle.roll.specs.Cells.{held, at}
use Rattle.roll.proofs.Firsts.{got, at_is}
use Rattle.roll.proofs.ledger.Ledger.get.Goals as goal

pub returns : goal.returns
returns g c =
    let i = c.in_ok-index.index in
    let xs = held c.args.self.now in
    let next : suc i ≡ c.args.place = omega (arith, c.in_ok-index.ensures) in
    c.copied.ensures ∙ got c.entries.result.now i c.get.result c.get.ensures.lookup
    ∙ ap (λ l. slice_get l i) c.entries.ensures ∙ at_is xs i ∙ ap (at xs) next
