use Rattle.std.proofs.Common.{ap, ◌∙◌, w64, SFits, rules}
use Rattle.std.proofs.lemmas.Int.{to_z-of_z}
use Rattle.records.specs.Bytes.{amount_bytes}
use Rattle.rollfile.proofs.Overs.{puts_then, puts_same}
use Rattle.rollfile.proofs.encoding.Writer.put_entry.Goals as goal

pub returns : goal.returns
returns c =
    let a = c.args.one.value in
    let f1 : SFits w64 a.first = search rules in
    let f2 : SFits w64 a.second = search rules in
    let f3 : SFits w64 a.third = search rules in
    let f4 : SFits w64 a.fourth = search rules in
    let number = puts_same c.put-2.ensures c.to_be_bytes.ensures in
    let first = puts_same c.put-3.ensures (c.to_be_bytes-2.ensures ∙ ap amount_bytes (to_z-of_z w64 a.first f1)) in
    let second = puts_same c.put-4.ensures (c.to_be_bytes-3.ensures ∙ ap amount_bytes (to_z-of_z w64 a.second f2)) in
    let third = puts_same c.put-5.ensures (c.to_be_bytes-4.ensures ∙ ap amount_bytes (to_z-of_z w64 a.third f3)) in
    let fourth = puts_same c.put-6.ensures (c.to_be_bytes-5.ensures ∙ ap amount_bytes (to_z-of_z w64 a.fourth f4)) in
    puts_then c.put.ensures (puts_then number (puts_then first (puts_then second (puts_then third fourth))))
