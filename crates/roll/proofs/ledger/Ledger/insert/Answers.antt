use Rattle.std.proofs.Common.{◌+◌, ◌<◌, min, length, drop, sym, arith}
use Rattle.std.proofs.lemmas.Bool.{true≢false, ltb-true, cond-true}
use Rattle.std.proofs.lemmas.List.{length-take-le}
use Rattle.roll.specs.Cells.{held, room_of}
use Rattle.roll.proofs.Calls.{opened, room_kept, has_room}
use Rattle.roll.proofs.ledger.Ledger.insert.Goals as goal

pub returns : goal.returns
returns g c =
    let b = c.args.self.now in
    let part = c.insert.new.cells in
    let may = has_room _ _ c.is_full.ensures c.if-is_full.false in
    let less = ltb-true (length (held b)) (min 120 (room_of b)) may in
    let size = length-take-le b.count b.cells.now b.within in
    let room : b.count < length b.cells.now = omega arith in
    record {
      answer = sym (cond-true _ _ _ may);
      after = λ q. opened b.cells.now part (drop (b.count + 1) b.cells.now) b.count c.args.index c.min.result c.args.one room c.min.ensures c.insert.auto.cells c.insert.ensures;
      room = room_kept b.cells.now part (b.count + 1) (omega arith) c.insert.auto.cells;
      untouched = λ q. absurd (true≢false q);
    }
