-- What the records make, one after another.
use Rattle.std.proofs.Common.{◌≡◌, ℕ, zero, suc, ◌+◌, ◌<◌, ◌≤◌, Bool, false, List, [], ◌∷◌, length, get_or, drop, Some, None, Ok, Err, Option, Result, sym, refl, ap, ◌∙◌, inl, inr, arith}
use Rattle.std.proofs.lemmas.List.{drop_more, drop_all, drop-drop}
use Rattle.std.proofs.lemmas.Bool.{ne_eqb}
use Rattle.std.proofs.lemmas.Bool.Decides.{nat_tests, leb_tells}
use Rattle.crossed.specs.Entries.{Entry}
use Rattle.crossed.specs.declared.entries.Columns.{Columns}
use Rattle.records.specs.declared.reader.Fault.{Fault}
use Rattle.roll.specs.declared.refusal.Refusal.{Refusal}
use Rattle.records.specs.declared.reader.Reader.{Reader}
use Rattle.records.specs.declared.reader.Record.{Record}
use Rattle.records.specs.Records.{Rec, plain, size_of, parsed, located, some, next_of, told, Behind, ReadNext}
use Rattle.crossed.specs.declared.rolls.Roll.{Roll}
use Rattle.crossed.specs.Books.{if_ok}
use Rattle.crossed.specs.Rolls.{standing, room_of}
use Rattle.rollfile.specs.Files.{then, applied, run, holds, Applied, Ran}
use Rattle.records.proofs.Nexts.{next_at, rest_long}

-- the bytes of a body are passed over
pub skips : (d : Columns) (room : ℕ) (bs : List ℕ) (xs : List Entry) (k at : ℕ) → k ≤ length bs → run d room bs xs k at ≡ run d room (drop k bs) xs 0 (at + k)
skips d room bs xs zero at h = ap (run d room bs xs 0) (omega arith)
skips d room [] xs (suc k) at h = absurd (omega arith)
skips d room (b ∷ bs) xs (suc k) at h = skips d room bs xs k (at + 1) (omega arith) ∙ ap (run d room (drop k bs) xs 0) (omega arith)

-- a record that is read has its body
pub parsed_fits : (first : Bool) (k : ℕ) (bs : List ℕ) (r : Rec) → parsed first k bs ≡ Ok r → size_of k ≤ length bs
parsed_fits first k bs r q = grind (arith, nat_tests)

-- what a reading goes on with
abbrev continues : Columns → ℕ → List ℕ → List Entry → ℕ → Result (Option Rec) Fault → Result (Columns × List Entry) Fault
continues d room bs xs at (Err f) = Err f
continues d room bs xs at (Ok None) = Ok (d, xs)
continues d room bs xs at (Ok (Some r)) = then (located at (applied d room xs r)) (λ ys. run d room (drop (at + 1 + size_of (get_or bs at 0)) bs) ys 0 (at + 1 + size_of (get_or bs at 0)))

-- one record within the file
run_more : (d : Columns) (room : ℕ) (bs : List ℕ) (xs : List Entry) (at : ℕ) → 0 < at → length bs ≤ 65536 → at < length bs → run d room (drop at bs) xs 0 at ≡ continues d room bs xs at (next_of bs at)
run_more d room bs xs at positive short h =
    ap (λ l. run d room l xs 0 at) (drop_more bs at 0 h)
    ∙ go (parsed false (get_or bs at 0) (drop (at + 1) bs)) refl
    ∙ sym (ap (continues d room bs xs at) (next_at bs at short h ∙ ap (λ b. some (located at (parsed b (get_or bs at 0) (drop (at + 1) bs)))) (ne_eqb at 0 (omega arith))))
  where
    goes : (x : Result (List Entry) Fault) → size_of (get_or bs at 0) ≤ length (drop (at + 1) bs) → then x (λ ys. run d room (drop (at + 1) bs) ys (size_of (get_or bs at 0)) (at + 1)) ≡ then x (λ ys. run d room (drop (at + 1 + size_of (get_or bs at 0)) bs) ys 0 (at + 1 + size_of (get_or bs at 0)))
    goes (Err f) l = refl
    goes (Ok ys) l = skips d room (drop (at + 1) bs) ys (size_of (get_or bs at 0)) (at + 1) l ∙ ap (λ z. run d room z ys 0 (at + 1 + size_of (get_or bs at 0))) (drop-drop (size_of (get_or bs at 0)) (at + 1) bs)

    go : (p : Result Rec Refusal) → parsed false (get_or bs at 0) (drop (at + 1) bs) ≡ p → then (then (located at p) (λ r. located at (applied d room xs r))) (λ ys. run d room (drop (at + 1) bs) ys (size_of (get_or bs at 0)) (at + 1)) ≡ continues d room bs xs at (some (located at p))
    go (Err f) e = refl
    go (Ok r) e = goes (located at (applied d room xs r)) (parsed_fits false (get_or bs at 0) (drop (at + 1) bs) r e)

-- behind the last byte there is no record
pub next_none : (bs : List ℕ) (at : ℕ) → 0 < at → length bs ≤ 65536 → length bs ≤ at → next_of bs at ≡ Ok None
next_none bs at positive short h = grind (arith, nat_tests)

-- and nothing to apply
run_none : (d : Columns) (room : ℕ) (bs : List ℕ) (xs : List Entry) (at : ℕ) → 0 < at → length bs ≤ 65536 → length bs ≤ at → run d room (drop at bs) xs 0 at ≡ continues d room bs xs at (next_of bs at)
run_none d room bs xs at positive short h = grind (arith, nat_tests, drop_all)

-- one record
run_step : (d : Columns) (room : ℕ) (bs : List ℕ) (xs : List Entry) (at : ℕ) → 0 < at → length bs ≤ 65536 → run d room (drop at bs) xs 0 at ≡ continues d room bs xs at (next_of bs at)
run_step d room bs xs at positive short =
    elim (leb_tells (length bs) at) [ inl t ↦ run_none d room bs xs at positive short t.1 | inr t ↦ run_more d room bs xs at positive short t.1 ]

-- where a record is read there is room for it
pub next_fits : (bs : List ℕ) (at : ℕ) (r : Rec) → 0 < at → length bs ≤ 65536 → next_of bs at ≡ Ok (Some r) → at + 1 + size_of (get_or bs at 0) ≤ length bs
next_fits bs at r positive short q = grind (arith, nat_tests, rest_long)

-- behind a record that is read the reader stands behind the first one
pub behind_next : (reader : Reader) → Behind reader → (item : Record) (next : Reader) → ReadNext reader (Ok (Some item)) next → Behind next
behind_next reader behind item next q =
    let f = next_fits reader.bytes.now reader.place (plain item) behind.positive behind.short (sym q.answer) in
    let n : length next.bytes.now ≡ length reader.bytes.now = ap length q.file in
    record { short = omega (arith, behind.short); positive = omega (arith, q.place); inside = omega (arith, q.place) }

-- the ways in which a step of the reading ends, behind the first record
module _ (reader : Reader) (roll : Roll) (behind : Behind reader) where
  -- what is left, by what is read next
  left : (o : Result (Option Record) Fault) (next : Reader) → ReadNext reader o next → continues roll.columns (room_of roll) reader.bytes.now (standing roll) reader.place (told o) ≡ run roll.columns (room_of roll) (drop reader.place reader.bytes.now) (standing roll) 0 reader.place
  left o next q = ap (continues roll.columns (room_of roll) reader.bytes.now (standing roll) reader.place) q.answer ∙ sym (run_step roll.columns (room_of roll) reader.bytes.now (standing roll) reader.place behind.positive behind.short)

  pub ran_fault : (f : Fault) (next : Reader) → ReadNext reader (Err f) next → Ran reader roll (Err f) roll
  ran_fault f next q = record { answer = left (Err f) next q; room = refl }

  pub ran_end : (next : Reader) → ReadNext reader (Ok None) next → Ran reader roll (Ok tt) roll
  ran_end next q = record { answer = left (Ok None) next q; room = refl }

  module _ (item : Record) (next : Reader) (q : ReadNext reader (Ok (Some item)) next) where
    -- what is left once the record is applied
    gone_on : (r : Result (Unit {0}) Refusal) (is : Roll) → Applied roll (plain item) r is → then (located reader.place (if_ok r (standing is))) (λ ys. run roll.columns (room_of roll) (drop next.place reader.bytes.now) ys 0 next.place) ≡ run roll.columns (room_of roll) (drop reader.place reader.bytes.now) (standing roll) 0 reader.place
    gone_on r is a =
        ap (λ x. then (located reader.place x) (λ ys. run roll.columns (room_of roll) (drop next.place reader.bytes.now) ys 0 next.place)) a.answer
        ∙ ap (λ n. then (located reader.place (applied roll.columns (room_of roll) (standing roll) (plain item))) (λ ys. run roll.columns (room_of roll) (drop n reader.bytes.now) ys 0 n)) q.place
        ∙ left (Ok (Some item)) next q

    pub ran_refused : (r : Result (Unit {0}) Refusal) (f : Fault) (is : Roll) → located reader.place r ≡ Err f → Applied roll (plain item) r is → Ran reader roll (Err f) is
    ran_refused (Ok u) f is e a = absurd (cc)
    ran_refused (Err g) f is e a = record { answer = ap (λ x. holds x is) (sym e) ∙ gone_on (Err g) is a; room = a.room }

    pub ran_on : (r : Result (Unit {0}) Refusal) (mid : Roll) → located reader.place r ≡ Ok tt → Applied roll (plain item) r mid → (s : Result (Unit {0}) Fault) (is : Roll) → Ran next mid s is → Ran reader roll s is
    ran_on (Err g) mid e a s is h = absurd (cc)
    ran_on (Ok u) mid e a s is h = record {
      answer =
          h.answer
          ∙ ap (λ d. run d (room_of mid) (drop next.place next.bytes.now) (standing mid) 0 next.place) a.columns
          ∙ ap (λ n. run roll.columns n (drop next.place next.bytes.now) (standing mid) 0 next.place) a.room
          ∙ ap (λ b. run roll.columns (room_of roll) (drop next.place b) (standing mid) 0 next.place) q.file
          ∙ gone_on (Ok u) mid a;
      room = h.room ∙ a.room;
    }
