-- Reading what was written.
use Rattle.std.proofs.Common.{◌≡◌, ℕ, ◌+◌, ◌<◌, ◌≤◌, min, List, [], ◌∷◌, ◌++◌, length, take, drop, replicate, Ok, Err, Result, sym, refl, ap, ◌∙◌, arith}
use Rattle.std.specs.List.{flat_map, All, AllByRecursion}
use Rattle.std.proofs.lemmas.List.Elements.{All-weaker, All-push, recursion_from_All}
use Rattle.std.proofs.lemmas.List.{take_at, drop_at, length-append, length_push, append_assoc, append-nil}
use Rattle.crossed.specs.Entries.{Entry}
use Rattle.crossed.specs.declared.entries.Columns.{Columns}
use Rattle.records.specs.declared.reader.Fault.{Fault}
use Rattle.roll.specs.declared.refusal.Refusal.TheVariants.{TooLong}
use Rattle.crossed.specs.declared.rolls.Roll.{Roll}
use Rattle.crossed.specs.Rolls.{standing}
use Rattle.std.proofs.lemmas.Bool.Decides.{nat_tests}
use Rattle.crossed.specs.Reachable.{Rising, Admitted, WellFormed}
use Rattle.crossed.proofs.Kept.{always_well_formed, well_formed}
use Rattle.crossed.proofs.Reached.{unnumbered, put_last}
use Rattle.records.specs.Bytes.{entry_body, entry_bytes, heading_bytes}
use Rattle.rollfile.specs.Files.{then, stepped, run, opened, reads, writes}
use Rattle.rollfile.specs.Laws.{Fitting, RoundTrip, SameBytes}
use Rattle.rollfile.specs.Writing.{over, Written}
use Rattle.rollfile.proofs.Overs.{length-entries}
use Rattle.rollfile.proofs.Runs.{skips}
use Rattle.rollfile.proofs.Digits.{entries_back}

-- each field of an admitted entry fits
admitted_fits : (d : Columns) (e : Entry) → Admitted d e → Fitting e
admitted_fits d e g = grind (arith, nat_tests)

-- one entry's record
one_more : (d : Columns) (room : ℕ) (e : Entry) (xs : List Entry) (rest : List ℕ) (at : ℕ) → Admitted d e → AllByRecursion (λ y. y.number < e.number) xs → length xs < min 120 room → stepped d room xs at 2 (entry_body e ++ rest) ≡ Ok (xs ++ (e ∷ []))
one_more d room e xs rest at g h l =
    let fits = entries_back e (admitted_fits d e g) in
    let free = unnumbered e xs h in
    let last = put_last e xs h in
    let body : take 36 (entry_body e ++ rest) ≡ entry_body e = take_at (entry_body e) rest 36 refl in
    grind (arith, nat_tests)

-- the records of rising entries
trip : (d : Columns) (room : ℕ) (rest xs : List Entry) (at : ℕ) → Rising rest → AllByRecursion (Admitted d) rest → All (λ y. AllByRecursion (λ e. y.number < e.number) rest) xs → length xs + length rest ≤ 120 → length xs + length rest ≤ room → run d room (flat_map entry_bytes rest) xs 0 at ≡ Ok (d, xs ++ rest)
trip d room [] xs at rise good below few fit = ap (λ l. Ok (d, l)) (sym (append-nil xs))
trip d room (e ∷ es) xs at rise good below few fit =
    let tail : List ℕ = flat_map entry_bytes es in
    let under : AllByRecursion (λ y. y.number < e.number) xs = recursion_from_All (λ y. y.number < e.number) xs (All-weaker (λ y. AllByRecursion (λ e. y.number < e.number) (e ∷ es)) (λ y. y.number < e.number) (λ y h. h.0) xs below) in
    let next : All (λ y. AllByRecursion (λ e. y.number < e.number) es) (xs ++ (e ∷ [])) = All-push (λ y. AllByRecursion (λ e. y.number < e.number) es) xs e (All-weaker (λ y. AllByRecursion (λ e. y.number < e.number) (e ∷ es)) (λ y. AllByRecursion (λ e. y.number < e.number) es) (λ y h. h.1) xs below) rise.0 in
    let size = length_push xs e in
    ap (λ r. then r (λ ys. run d room (entry_body e ++ tail) ys 36 (at + 1))) (one_more d room e xs tail at good.0 under (omega arith))
    ∙ skips d room (entry_body e ++ tail) (xs ++ (e ∷ [])) 36 (at + 1) (omega (arith, length-append (entry_body e) tail))
    ∙ ap (λ l. run d room l (xs ++ (e ∷ [])) 0 (at + 1 + 36)) (drop_at (entry_body e) tail 36 refl)
    ∙ trip d room es (xs ++ (e ∷ [])) (at + 1 + 36) rise.1 good.1 next (omega arith) (omega arith)
    ∙ ap (λ l. Ok (d, l)) (append_assoc xs (e ∷ []) es)

-- the heading says the columns
opened_is : (d : Columns) (rest : List ℕ) → length rest ≤ 65534 → opened (heading_bytes d ++ rest) ≡ Ok d
opened_is d rest l = grind (arith, nat_tests)

-- a well-formed roll reads back
pub sound_trip : (d : Columns) (xs : List Entry) → WellFormed d xs → (room : ℕ) → length xs ≤ room → reads (writes d xs) room ≡ Ok (d, xs)
sound_trip d xs s room fit =
    let n = length-entries xs in
    let few = s.2 in
    ap (λ r. then r (λ d. run d room (drop 2 (writes d xs)) [] 0 2)) (opened_is d (flat_map entry_bytes xs) (omega arith))
    ∙ trip d room xs [] 2 s.0 s.1 (λ k y h. absurd (omega arith)) (omega arith) (omega arith)

-- and so does every roll that calls can lead to
pub round_trip : RoundTrip
round_trip d xs r room fit = sound_trip d xs (always_well_formed d xs r) room fit

-- with the same bytes when it is written again
pub same_bytes : SameBytes
same_bytes d xs r room fit d' ys q =
    let e : ◌≡◌ {A = Result (Columns × List Entry) Fault} (Ok (d, xs)) (Ok (d', ys)) = sym (round_trip d xs r room fit) ∙ q in
    let same : ◌≡◌ {A = Columns × List Entry} (d', ys) (d, xs) = cc in
    ap (λ p. writes p.0 p.1) same

-- where there is no room
pub written_short : (r : Roll) (out is : List ℕ) → length out < length (writes r.columns (standing r)) → is ≡ replicate (length out) 0 → Written r out (Err TooLong) is
written_short r out is h e = record {
  answer = grind (arith, nat_tests);
  output = e ∙ grind (arith, nat_tests);
  reads_back = λ n room q. absurd (cc);
}

-- where there is room, what was written reads back
pub written_whole : (r : Roll) (out is : List ℕ) (m : ℕ) → m ≡ length (writes r.columns (standing r)) → m ≤ length out → is ≡ over out 0 (writes r.columns (standing r)) → Written r out (Ok m) is
written_whole r out is m size h e = record {
  answer = grind (arith, nat_tests);
  output = e ∙ grind (arith, nat_tests);
  reads_back = λ n room q fit. (
      let bs : List ℕ = writes r.columns (standing r) in
      let long : length bs ≡ n = cc in
      ap (λ l. reads l room) (ap (take n) e ∙ take_at bs (drop (0 + length bs) out) n long) ∙ sound_trip r.columns (standing r) (well_formed r) room fit);
}
