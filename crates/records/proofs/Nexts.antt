-- What the reader answers.
use Rattle.std.proofs.Common.{◌≡◌, ◌∙◌, ℕ, ◌+◌, ◌-◌, ◌<◌, ◌≤◌, eqb, List, length, get_or, drop, arith}
use Rattle.std.proofs.lemmas.List.{length-drop}
use Rattle.std.proofs.lemmas.Bool.Decides.{nat_tests}
use Rattle.records.specs.Records.{parsed, located, some, next_of}

-- within a file the answer is the record at the place
pub next_at : (bs : List ℕ) (at : ℕ) → length bs ≤ 65536 → at < length bs → next_of bs at ≡ some (located at (parsed (eqb at 0) (get_or bs at 0) (drop (at + 1) bs)))
next_at bs at h l = grind (arith, nat_tests)

-- how many bytes stand behind the kind byte
pub rest_long : (bs : List ℕ) (at : ℕ) → length (drop (at + 1) bs) ≡ length bs - at - 1
rest_long bs at = length-drop (at + 1) bs ∙ omega arith
