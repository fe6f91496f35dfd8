use Rattle.std.proofs.Common.{take, Some}
use Rattle.std.specs.List.{flat_map}
use Rattle.listing.specs.Text.{field, Puts}
use Rattle.listing.specs.Listing.{numbers}
use Rattle.listing.proofs.questions.put_set.Given as goal

-- the fields of the numbers so far are written
abbrev pub invariant-loop-place : goal.invariant-loop-place
invariant-loop-place l = Puts l.initial.text (flat_map field (take l.place-index (numbers l.entries l.places))) (Some tt) l.text
