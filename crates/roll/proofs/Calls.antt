-- What the calls of a ledger answer and leave.
use Rattle.std.proofs.Common.{◌≡◌, ℕ, ◌+◌, ◌-◌, ◌<◌, ◌≤◌, min, Bool, true, false, cond, not, eqb, List, ◌++◌, length, take, drop, Some, None, Ok, Err, is_ok, sym, refl, ap, ◌∙◌, arith}
use Rattle.std.specs.List.{insert, remove, position}
use Rattle.std.proofs.lemmas.List.{length-take-le, length-append, length-drop, take-append-le, take_at}
use Rattle.std.proofs.lemmas.Bool.{true≢false, cond-true, cond-false}
use Rattle.std.proofs.lemmas.List.Sums.{prefix_len-le-length}
use Rattle.roll.specs.Order.{numbered, put, without, place}
use Rattle.roll.specs.Cells.{Answer, tested, striking}
use Rattle.roll.specs.declared.refusal.Refusal.TheVariants.{RollFull, NumberUnknown}
use Rattle.roll.specs.declared.refusal.Refusal.{Refusal}
use Rattle.roll.proofs.Moves.{inserted_front}
use Rattle.roll.proofs.Firsts.{numbered_is, put_is, without_is, without_none}

chosen : (b : Bool) (i j : ℕ) → Some j ≡ cond b (Some i) None → (b ≡ true) × (j ≡ i)
chosen true i j h = (refl, cc)
chosen false i j h = absurd (z h)
  where
    z : Some j ≡ None → ⊥
    z q = cc

unchosen : (b : Bool) (i : ℕ) → None ≡ cond b (Some i) None → b ≡ false
unchosen true i h = cc
unchosen false i h = refl

-- striking a number that does not stand, and one that does
module _ {X : Type 0} (number : X → ℕ) (n : ℕ) (xs : List X) where
  pub strikes_none : None ≡ position (λ x. eqb (number x) n) xs → (Err NumberUnknown ≡ striking number xs n) × (xs ≡ without number n xs)
  strikes_none h =
      let no : numbered number n xs ≡ false = numbered_is number n xs ∙ unchosen _ _ h in
      (sym (cond-false _ _ _ no), sym (without_none number n xs no))

  pub strikes_one : (i : ℕ) → Some i ≡ position (λ x. eqb (number x) n) xs → (Ok tt ≡ striking number xs n) × (remove xs i ≡ without number n xs)
  strikes_one i h =
      let q = chosen _ _ i h in
      (sym (cond-true _ _ _ (numbered_is number n xs ∙ q.0)), ap (remove xs) q.1 ∙ sym (without_is number n xs))

-- what is left when a gap is closed among the first n cells
pub closed : {X : Type 0} (cells part rest : List X) (n i : ℕ) → n ≤ length cells → length part ≡ length (take n cells) → take (length (take n cells) - 1) part ≡ remove (take n cells) i → take (n - 1) (part ++ rest) ≡ remove (take n cells) i
closed cells part rest n i h long made =
    let size = length-take-le n cells h in
    take-append-le (n - 1) part rest (omega arith) ∙ ap (λ m. take (m - 1) part) (sym size) ∙ made

-- what stands when room is made among the first n + 1 cells
pub opened : {X : Type 0} (cells part rest : List X) (n i p : ℕ) (e : X) → n < length cells → p ≡ min i n → length part ≡ length (take (n + 1) cells) → part ≡ take (length (take (n + 1) cells)) (insert (take (n + 1) cells) p e) → take (n + 1) (part ++ rest) ≡ insert (take n cells) (min i (length (take n cells))) e
opened cells part rest n i p e h least long made =
    let size = length-take-le (n + 1) cells (omega arith) in
    let held = length-take-le n cells (omega arith) in
    take_at part rest (n + 1) (long ∙ size) ∙ made ∙ ap (λ m. take m (insert (take (n + 1) cells) p e)) size
    ∙ inserted_front cells n p e (omega arith)
    ∙ ap (λ j. insert (take n cells) j e) (least ∙ ap (min i) (sym held))

-- the cells are as many as they were
pub room_kept : {X : Type 0} (cells part : List X) (n : ℕ) → n ≤ length cells → length part ≡ length (take n cells) → length (part ++ drop n cells) ≡ length cells
room_kept cells part n h e = simp (length-append, length-drop) (omega (arith, length-take-le n cells h))

-- there is room where no more is refused
pub has_room : (b r : Bool) → r ≡ not b → r ≡ false → b ≡ true
has_room true r h q = refl
has_room false r h q = absurd (true≢false (sym h ∙ q))

-- it is entered only where there is room
ok_room : (a n r c : Bool) (misfit : Refusal) → Ok tt ≡ tested a n r c misfit → r ≡ true
ok_room true false true c misfit h = refl
ok_room true false false c misfit h = cc
ok_room true true r c misfit h = cc
ok_room false n r c misfit h = cc

-- and then putting it in is answered so
pub put_ok : (a n r c : Bool) (misfit : Refusal) (x : Answer) → Ok tt ≡ tested a n r c misfit → x ≡ cond r (Ok tt) (Err RollFull) → x ≡ Ok tt
put_ok a n r c misfit x h q = q ∙ cond-true r (Ok tt) (Err RollFull) (ok_room a n r c misfit h)

-- an entry that is put at its place, where the answer is no refusal
pub put_at : {X : Type 0} (goes_before : X → X → Bool) (e : X) (xs : List X) (p : ℕ) (r : Answer) → p ≡ place goes_before e xs → Ok tt ≡ r → insert xs (min p (length xs)) e ≡ cond (is_ok r) (put goes_before e xs) xs
put_at goes_before e xs p r placed ok =
    let within = prefix_len-le-length (λ x. goes_before x e) xs in
    let least : min p (length xs) ≡ place goes_before e xs = omega arith in
    ap (λ i. insert xs i e) least ∙ sym (put_is goes_before e xs) ∙ ap (λ r. cond (is_ok r) (put goes_before e xs) xs) ok
