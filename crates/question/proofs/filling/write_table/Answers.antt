use Rattle.std.proofs.Common.{◌≡◌, length, sym, ap, ◌∙◌, subst, arith}
use Rattle.question.specs.Filling.{ends_at, Written, EndsAsAsked}
use Rattle.squeezing.specs.Table.{Holds, offset}
use Rattle.question.proofs.Asked.{accepted}
use Rattle.question.proofs.Writing.{ends_fit, as_asked, written}
use Rattle.question.proofs.filling.write_table.Goals as goal

pub fill-at-requires : goal.fill-at-requires
fill-at-requires g c =
    let m = g.M.Measure in
    let n = length c.args.entries.now in
    let q = c.args.asked in
    let ok = accepted m.algebra m.row m.span n q (length c.args.table.now) c.requires in
    let m_is = c.searched_size-m.ensures in
    record {
      some = omega (arith, m_is, ok.some);
      most = omega (arith, m_is, ok.most);
      room = omega (arith, ap (offset n) m_is, ends_fit m.span n q (length c.args.table.now) ok);
    }

pub put_ends-requires : goal.put_ends-requires
put_ends-requires g c =
    let m = g.M.Measure in
    let n = length c.args.entries.now in
    let q = c.args.asked in
    let ok = accepted m.algebra m.row m.span n q (length c.args.table.now) c.requires in
    let at_is : c.fill-at.result ≡ ends_at n q = c.fill-at.ensures.past ∙ ap (offset n) c.searched_size-m.ensures in
    omega (arith, at_is, ends_fit m.span n q (length c.args.table.now) ok, c.fill-at.auto.table)

pub returns : goal.returns
returns g c =
    let m = g.M.Measure in
    let xs = c.args.entries.now in
    let n = length xs in
    let q = c.args.asked in
    let was = c.args.table.now in
    let filled = c.fill-at.new.table in
    let m_is = c.searched_size-m.ensures in
    let at_is : c.fill-at.result ≡ ends_at n q = c.fill-at.ensures.past ∙ ap (offset n) m_is in
    let ok = accepted m.algebra m.row m.span n q (length was) c.requires in
    let put = sym c.put_ends.ensures in
    record {
      written =
          subst (λ t. Written m.algebra m.row m.span xs c.args.all q was t) put
          (written m.algebra m.row m.span xs c.args.all q was filled c.fill-at.result c.searched_band.result.low c.searched_band.result.high
          ok at_is c.fill-at.auto.table c.fill-at.ensures.first
          (λ few. subst (λ k. Holds m.algebra m.row m.span n k filled) m_is (c.fill-at.ensures.held few))
          c.fill-at.ensures.kept c.searched_band.ensures.low c.searched_band.ensures.high);
      paid = λ side.
          subst (EndsAsAsked m.row n q) put
          (as_asked m.algebra m.row m.span xs c.args.all q was filled c.fill-at.result c.searched_band.result.low c.searched_band.result.high
          ok at_is c.fill-at.auto.table c.searched_band.ensures.low c.searched_band.ensures.high side);
    }
