-- Going through the records of a file: their lines, and their first fault.
use Rattle.std.proofs.Common.{◌≡◌, ℕ, zero, suc, ◌+◌, ◌<◌, ◌≤◌, false, List, [], ◌∷◌, length, get_or, drop, Some, None, Ok, Err, Option, Result, sym, refl, ap, ◌∙◌, inl, inr, arith}
use Rattle.std.proofs.lemmas.List.{drop_more, drop_all, drop-drop}
use Rattle.std.proofs.lemmas.Bool.{ne_eqb}
use Rattle.std.proofs.lemmas.Bool.Decides.{leb_tells}
use Rattle.roll.specs.declared.refusal.Refusal.{Refusal}
use Rattle.crossed.specs.declared.asked.Question.{Question}
use Rattle.crossed.specs.declared.entries.Columns.{Columns}
use Rattle.crossed.specs.Entries.{Entry}
use Rattle.crossed.specs.Books.{if_ok}
use Rattle.crossing.specs.Asking.{asking}
use Rattle.records.specs.declared.reader.Fault.{Fault}
use Rattle.records.specs.Bytes.{asked_of}
use Rattle.records.specs.Records.{Rec, heading, entering, striking, question, fault_of, size_of, parsed, located, some, next_of}
use Rattle.records.proofs.Nexts.{next_at}
use Rattle.rollfile.specs.Files.{then}
use Rattle.rollfile.proofs.Runs.{parsed_fits, next_none}
use Rattle.crossed.specs.Rolls.{standing, room_of}
use Rattle.listing.specs.declared.walk.Walk.{Walk}
use Rattle.listing.specs.Walk.{lines_left, Takes}
use Rattle.listing.specs.Listing.{Tried, question_in, is_question, faulted, record_lines, question_lines, asked_so_far, before, tried, lines, fault_in}

module _ (d : Columns) (room table : ℕ) where
  -- the bytes of a body are passed over
  skips : (bs : List ℕ) (xs : List Entry) (k n at : ℕ) → n ≤ length bs → lines d room table bs xs k n at ≡ lines d room table (drop n bs) xs k 0 (at + n)
  skips bs xs k zero at h = ap (lines d room table bs xs k 0) (omega arith)
  skips [] xs k (suc n) at h = absurd (omega arith)
  skips (b ∷ bs) xs k (suc n) at h = skips bs xs k n (at + 1) (omega arith) ∙ ap (lines d room table (drop n bs) xs k 0) (omega arith)

  -- how the lines go on behind a record
  abbrev onward : List ℕ → List Entry → ℕ → ℕ → Rec → Result (List ℕ) Fault
  onward bs xs k at r = then (faulted (is_question r) at (tried d room table xs r)) (λ ys. before (record_lines k xs r) (lines d room table (drop (at + 1 + size_of (get_or bs at 0)) bs) ys (asked_so_far k r) 0 (at + 1 + size_of (get_or bs at 0))))

  abbrev continues : List ℕ → List Entry → ℕ → ℕ → Result (Option Rec) Fault → Result (List ℕ) Fault
  continues bs xs k at (Err f) = Err f
  continues bs xs k at (Ok None) = Ok []
  continues bs xs k at (Ok (Some r)) = onward bs xs k at r

  lines_more : (bs : List ℕ) (xs : List Entry) (k at : ℕ) → 0 < at → length bs ≤ 65536 → at < length bs → lines d room table (drop at bs) xs k 0 at ≡ continues bs xs k at (next_of bs at)
  lines_more bs xs k at positive short h =
      ap (λ l. lines d room table l xs k 0 at) (drop_more bs at 0 h)
      ∙ go (parsed false (get_or bs at 0) (drop (at + 1) bs)) refl
      ∙ sym (ap (continues bs xs k at) (next_at bs at short h ∙ ap (λ b. some (located at (parsed b (get_or bs at 0) (drop (at + 1) bs)))) (ne_eqb at 0 (omega arith))))
    where
      goes : (r : Rec) (x : Result (List Entry) Fault) → size_of (get_or bs at 0) ≤ length (drop (at + 1) bs) → then x (λ ys. before (record_lines k xs r) (lines d room table (drop (at + 1) bs) ys (asked_so_far k r) (size_of (get_or bs at 0)) (at + 1))) ≡ then x (λ ys. before (record_lines k xs r) (lines d room table (drop (at + 1 + size_of (get_or bs at 0)) bs) ys (asked_so_far k r) 0 (at + 1 + size_of (get_or bs at 0))))
      goes r (Err f) l = refl
      goes r (Ok ys) l = ap (before (record_lines k xs r)) (skips (drop (at + 1) bs) ys (asked_so_far k r) (size_of (get_or bs at 0)) (at + 1) l ∙ ap (λ z. lines d room table z ys (asked_so_far k r) 0 (at + 1 + size_of (get_or bs at 0))) (drop-drop (size_of (get_or bs at 0)) (at + 1) bs))

      go : (p : Result Rec Refusal) → parsed false (get_or bs at 0) (drop (at + 1) bs) ≡ p → then (located at p) (λ r. then (faulted (is_question r) at (tried d room table xs r)) (λ ys. before (record_lines k xs r) (lines d room table (drop (at + 1) bs) ys (asked_so_far k r) (size_of (get_or bs at 0)) (at + 1)))) ≡ continues bs xs k at (some (located at p))
      go (Err f) e = refl
      go (Ok r) e = goes r (faulted (is_question r) at (tried d room table xs r)) (parsed_fits false (get_or bs at 0) (drop (at + 1) bs) r e)

  lines_step : (bs : List ℕ) (xs : List Entry) (k at : ℕ) → 0 < at → length bs ≤ 65536 → lines d room table (drop at bs) xs k 0 at ≡ continues bs xs k at (next_of bs at)
  lines_step bs xs k at positive short =
      elim (leb_tells (length bs) at) [
        | inl t ↦ ap (λ l. lines d room table l xs k 0 at) (drop_all at bs t.1) ∙ sym (ap (continues bs xs k at) (next_none bs at positive short t.1))
        | inr t ↦ lines_more bs xs k at positive short t.1
      ]

  -- the ordinals do not matter for faults
  fault_any : (bs : List ℕ) (xs : List Entry) (k j skip at : ℕ) → fault_in (lines d room table bs xs k skip at) ≡ fault_in (lines d room table bs xs j skip at)
  fault_any [] xs k j skip at = refl
  fault_any (b ∷ bs) xs k j (suc skip) at = fault_any bs xs k j skip (at + 1)
  fault_any (b ∷ bs) xs k j zero at = go (λ ys m n. fault_any bs ys m n (size_of b) (at + 1)) (located at (parsed false b bs))
    where
      text : (l m : List ℕ) (x y : Result (List ℕ) Fault) → fault_in x ≡ fault_in y → fault_in (before l x) ≡ fault_in (before m y)
      text l m (Ok x) (Ok y) h = refl
      text l m (Ok x) (Err y) h = h
      text l m (Err x) (Ok y) h = h
      text l m (Err x) (Err y) h = h

      goes : ((ys : List Entry) (m n : ℕ) → fault_in (lines d room table bs ys m (size_of b) (at + 1)) ≡ fault_in (lines d room table bs ys n (size_of b) (at + 1))) → (r : Rec) (x : Result (List Entry) Fault) → fault_in (then x (λ ys. before (record_lines k xs r) (lines d room table bs ys (asked_so_far k r) (size_of b) (at + 1)))) ≡ fault_in (then x (λ ys. before (record_lines j xs r) (lines d room table bs ys (asked_so_far j r) (size_of b) (at + 1))))
      goes again r (Err f) = refl
      goes again r (Ok ys) = text (record_lines k xs r) (record_lines j xs r) (lines d room table bs ys (asked_so_far k r) (size_of b) (at + 1)) (lines d room table bs ys (asked_so_far j r) (size_of b) (at + 1)) (again ys (asked_so_far k r) (asked_so_far j r))

      go : ((ys : List Entry) (m n : ℕ) → fault_in (lines d room table bs ys m (size_of b) (at + 1)) ≡ fault_in (lines d room table bs ys n (size_of b) (at + 1))) → (p : Result Rec Fault) → fault_in (then p (λ r. then (faulted (is_question r) at (tried d room table xs r)) (λ ys. before (record_lines k xs r) (lines d room table bs ys (asked_so_far k r) (size_of b) (at + 1))))) ≡ fault_in (then p (λ r. then (faulted (is_question r) at (tried d room table xs r)) (λ ys. before (record_lines j xs r) (lines d room table bs ys (asked_so_far j r) (size_of b) (at + 1)))))
      go again (Err f) = refl
      go again (Ok r) = goes again r (faulted (is_question r) at (tried d room table xs r))

  fault_before : (l : List ℕ) (x : Result (List ℕ) Fault) → fault_in (before l x) ≡ fault_in x
  fault_before l (Ok x) = refl
  fault_before l (Err f) = refl

  -- how a record ends
  module _ (bs : List ℕ) (xs : List Entry) (k at : ℕ) (positive : 0 < at) (short : length bs ≤ 65536) where
    pub step_end : Ok None ≡ next_of bs at → lines d room table (drop at bs) xs k 0 at ≡ Ok []
    step_end q = lines_step bs xs k at positive short ∙ sym (ap (continues bs xs k at) q)

    pub step_refused : (r : Rec) (e : Refusal) → Ok (Some r) ≡ next_of bs at → Err e ≡ tried d room table xs r → lines d room table (drop at bs) xs k 0 at ≡ Err (fault_of (is_question r) at e)
    step_refused r e q t =
        lines_step bs xs k at positive short ∙ sym (ap (continues bs xs k at) q)
        ∙ sym (ap (λ x. then (faulted (is_question r) at x) (λ ys. before (record_lines k xs r) (lines d room table (drop (at + 1 + size_of (get_or bs at 0)) bs) ys (asked_so_far k r) 0 (at + 1 + size_of (get_or bs at 0))))) t)

    pub step_on : (r : Rec) (ys : List Entry) (at' : ℕ) → Ok (Some r) ≡ next_of bs at → at' ≡ at + 1 + size_of (get_or bs at 0) → Ok ys ≡ tried d room table xs r → lines d room table (drop at bs) xs k 0 at ≡ before (record_lines k xs r) (lines d room table (drop at' bs) ys (asked_so_far k r) 0 at')
    step_on r ys at' q e t =
        lines_step bs xs k at positive short ∙ sym (ap (continues bs xs k at) q)
        ∙ sym (ap (λ x. then (faulted (is_question r) at x) (λ zs. before (record_lines k xs r) (lines d room table (drop (at + 1 + size_of (get_or bs at 0)) bs) zs (asked_so_far k r) 0 (at + 1 + size_of (get_or bs at 0))))) t)
        ∙ ap (λ n. before (record_lines k xs r) (lines d room table (drop n bs) ys (asked_so_far k r) 0 n)) (sym e)

-- a record that asks a question: its lines
pub question_asked : (k : ℕ) (xs : List Entry) (r : Rec) (q : Question) → Some q ≡ question_in r → (record_lines k xs r ≡ question_lines (suc k) xs q) × (asked_so_far k r ≡ suc k)
question_asked k xs (heading b) q e = cc
question_asked k xs (entering b) q e = cc
question_asked k xs (striking b) q e = cc
question_asked k xs (question b) q e = let same : q ≡ asked_of b = cc in (ap (question_lines (suc k) xs) (sym same), refl)

module _ (d : Columns) (table : ℕ) (xs ys : List Entry) where
  if_accepted : (a : Result (Unit {0}) Refusal) → Ok ys ≡ if_ok a xs → (a ≡ Ok tt) × (ys ≡ xs)
  if_accepted (Ok u) e = (refl, cc)
  if_accepted (Err x) e = cc

  -- a question that is accepted changes nothing
  kept_by : (room k : ℕ) (r : Rec) → Ok ys ≡ tried d room table xs r → record_lines k xs r ≡ record_lines k ys r
  kept_by room k (heading b) e = refl
  kept_by room k (entering b) e = refl
  kept_by room k (striking b) e = refl
  kept_by room k (question b) e = ap (λ zs. question_lines (suc k) zs (asked_of b)) (sym (if_accepted (asking d (length xs) (asked_of b) table) e).1)

  accepted_by : (room : ℕ) (r : Rec) (q : Question) → Some q ≡ question_in r → Ok ys ≡ tried d room table xs r → asking d (length ys) q table ≡ Ok tt
  accepted_by room (heading b) q e t = cc
  accepted_by room (entering b) q e t = cc
  accepted_by room (striking b) q e t = cc
  accepted_by room (question b) q e t =
      let same : q ≡ asked_of b = cc in
      let both = if_accepted (asking d (length xs) (asked_of b) table) t in
      ap (λ p. asking d (length ys) p table) same ∙ ap (λ zs. asking d (length zs) (asked_of b) table) both.1 ∙ both.0

module _ (t : ℕ) (was is : Walk) (r : Rec) where
  -- a record that is read and is not at fault
  pub takes : Ok (Some r) ≡ next_of was.reader.bytes.now was.reader.place → is.reader.place ≡ was.reader.place + 1 + size_of (get_or was.reader.bytes.now was.reader.place 0) → is.reader.bytes.now ≡ was.reader.bytes.now → Tried was.roll t r (Ok tt) is.roll → Takes t was r is
  takes q moves file done = record {
    file = file;
    place = omega arith;
    lines = λ k.
        let now : lines was.roll.columns (room_of was.roll) t (drop is.reader.place was.reader.bytes.now) (standing is.roll) (asked_so_far k r) 0 is.reader.place ≡ lines_left t is (asked_so_far k r) = cc in
        step_on was.roll.columns (room_of was.roll) t was.reader.bytes.now (standing was.roll) k was.reader.place was.positive was.short r (standing is.roll) is.reader.place q moves done.answer
        ∙ ap (λ l. before l (lines was.roll.columns (room_of was.roll) t (drop is.reader.place was.reader.bytes.now) (standing is.roll) (asked_so_far k r) 0 is.reader.place)) (kept_by was.roll.columns t (standing was.roll) (standing is.roll) (room_of was.roll) k r done.answer)
        ∙ ap (before (record_lines k (standing is.roll) r)) now;
    accepted = λ p e. ap (λ d. asking d (length (standing is.roll)) p t) done.columns ∙ accepted_by was.roll.columns t (standing was.roll) (standing is.roll) (room_of was.roll) r p e done.answer;
  }

  -- the first fault is that of the records behind
  pub fault_behind : Takes t was r is → fault_in (lines_left t is 0) ≡ fault_in (lines_left t was 0)
  fault_behind h =
      sym (ap fault_in (h.lines 0)
      ∙ fault_before is.roll.columns (room_of is.roll) t (record_lines 0 (standing is.roll) r) (lines_left t is (asked_so_far 0 r))
      ∙ fault_any is.roll.columns (room_of is.roll) t (drop is.reader.place is.reader.bytes.now) (standing is.roll) (asked_so_far 0 r) 0 0 is.reader.place)

-- without a fault there are lines
pub has_lines : (x : Result (List ℕ) Fault) → Ok tt ≡ fault_in x → (text : List ℕ) × (x ≡ Ok text)
has_lines (Ok text) e = (text, refl)
has_lines (Err f) e = cc
