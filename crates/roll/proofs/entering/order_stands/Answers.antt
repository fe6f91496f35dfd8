use Rattle.roll.specs.Books.{kind}
use Rattle.roll.proofs.Orders.{ran_kept, adds, takes, kind-transitive, same_order}
use Rattle.roll.proofs.Premises.{ready}
use Rattle.roll.proofs.entering.order_stands.Goals as goal

pub returns : goal.returns
returns g c =
    let m = g.M.Measure in
    let met = g.met.M.Measure in
    let k = kind m.algebra m.row m.span in
    record {
      always = ran_kept k (kind-transitive m.algebra m.row m.span met.lawful met.owned);
      ready = ready m.algebra m.row m.span met.owned;
      adds = adds k;
      takes = takes k;
      settled = same_order m.algebra m.row m.span met.lawful met.owned;
    }
