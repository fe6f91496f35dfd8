use Rattle.std.proofs.Common.{◌≡◌, length, take, drop}
use Rattle.question.specs.Filling.{values}
use Rattle.question.proofs.filling.first_column.Given as goal

abbrev pub invariant-loop-p : goal.invariant-loop-p
invariant-loop-p g l =
    (take l.p l.table ≡ values (take l.p l.entries))
    × (drop (length l.entries) l.table ≡ drop (length l.entries) l.initial.table)
