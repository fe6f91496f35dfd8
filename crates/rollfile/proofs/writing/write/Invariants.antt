use Rattle.std.proofs.Common.{◌≡◌, ◌+◌, ◌*◌, take}
use Rattle.rollfile.specs.Files.{writes}
use Rattle.rollfile.specs.Writing.{over}
use Rattle.rollfile.proofs.writing.write.Given as goal

-- the heading and the records of the entries so far are written
abbrev pub invariant-loop-one : goal.invariant-loop-one
invariant-loop-one l =
    (l.writer.at ≡ 2 + 37 * l.one-index)
    × (l.writer.out.now ≡ over l.fn.out 0 (writes l.roll.columns (take l.one-index l.entries)))
    × (l.writer.out.ghost_name ≡ l.initial.writer.out.ghost_name)
