-- The first that passes a test, and what is made of it.
use Rattle.std.proofs.Common.{◌≡◌, ℕ, zero, suc, ◌+◌, Bool, true, false, cond, not, ◌||◌, eqb, ltb, List, [], ◌∷◌, length, Option, Some, None, sym, refl, ap, ◌∙◌, arith}
use Rattle.std.specs.List.{insert, remove, position_or_len, slice_get}
use Rattle.std.specs.Slice.{IsItemAt}
use Rattle.std.specs.Option.{option_copied}
use Rattle.std.proofs.lemmas.Option.{slice_get_past, slice_get_read}
use denote.Bor.{Bor}
use Rattle.std.proofs.Math.Numerals.{one-add}
use Rattle.std.proofs.lemmas.Bool.Decides.{nat_tests}
use Rattle.roll.specs.Order.{numbered, put, without, place}
use Rattle.roll.specs.Cells.{at}

shift : (a b : ℕ) → ltb a b ≡ ltb (suc a) (suc b)
shift a b = grind (arith, nat_tests)

above : (b : ℕ) → true ≡ ltb 0 (suc b)
above b = grind (arith, nat_tests)

-- the index of the first that has the number n; all, if none has it
abbrev pub seat : {X : Type 0} → (X → ℕ) → ℕ → List X → ℕ
seat number n xs = position_or_len (λ x. eqb (number x) n) xs

-- the number stands where its seat is within
pub numbered_is : {X : Type 0} (number : X → ℕ) (n : ℕ) (xs : List X) → numbered number n xs ≡ ltb (seat number n xs) (length xs)
numbered_is number n [] = refl
numbered_is number n (x ∷ xs) = go (eqb (number x) n) (numbered_is number n xs)
  where
    go : (b : Bool) → numbered number n xs ≡ ltb (seat number n xs) (length xs) → (b || numbered number n xs) ≡ ltb (cond (not b) (1 + seat number n xs) 0) (suc (length xs))
    go true h = above (length xs)
    go false h = h ∙ shift (seat number n xs) (length xs) ∙ ap (λ i. ltb i (suc (length xs))) (sym (one-add (seat number n xs)))

pub put_is : {X : Type 0} (goes_before : X → X → Bool) (e : X) (xs : List X) → put goes_before e xs ≡ insert xs (place goes_before e xs) e
put_is goes_before e [] = refl
put_is goes_before e (x ∷ xs) = go (goes_before x e) (put_is goes_before e xs)
  where
    go : (b : Bool) → put goes_before e xs ≡ insert xs (place goes_before e xs) e → cond b (x ∷ put goes_before e xs) (e ∷ x ∷ xs) ≡ insert (x ∷ xs) (cond b (1 + place goes_before e xs) 0) e
    go true h = ap (λ l. x ∷ l) h ∙ ap (λ i. insert (x ∷ xs) i e) (sym (one-add (place goes_before e xs)))
    go false h = refl

pub without_is : {X : Type 0} (number : X → ℕ) (n : ℕ) (xs : List X) → without number n xs ≡ remove xs (seat number n xs)
without_is number n [] = refl
without_is number n (x ∷ xs) = go (eqb (number x) n) (without_is number n xs)
  where
    go : (b : Bool) → without number n xs ≡ remove xs (seat number n xs) → cond b xs (x ∷ without number n xs) ≡ remove (x ∷ xs) (cond (not b) (1 + seat number n xs) 0)
    go true h = refl
    go false h = ap (λ l. x ∷ l) h ∙ ap (remove (x ∷ xs)) (sym (one-add (seat number n xs)))

pub without_none : {X : Type 0} (number : X → ℕ) (n : ℕ) (xs : List X) → numbered number n xs ≡ false → without number n xs ≡ xs
without_none number n [] h = refl
without_none number n (x ∷ xs) h = go (eqb (number x) n) h (without_none number n xs)
  where
    go : (b : Bool) → (b || numbered number n xs) ≡ false → (numbered number n xs ≡ false → without number n xs ≡ xs) → cond b xs (x ∷ without number n xs) ≡ x ∷ xs
    go true q r = cc
    go false q r = ap (λ l. x ∷ l) (r q)

-- what stands at a place is what the slice has at the index before it
pub at_is : {X : Type 0} (xs : List X) (i : ℕ) → slice_get xs i ≡ at xs (suc i)
at_is [] i = refl
at_is (x ∷ xs) zero = refl
at_is (x ∷ xs) (suc i) = at_is xs i

-- an element that is looked up, and copied
pub got : {X : Type 0} (xs : List X) (i : ℕ) (r : Option (Bor X)) → IsItemAt xs i r → option_copied r ≡ slice_get xs i
got xs i None h = sym (slice_get_past xs i h.3)
got xs i (Some x) h = sym (slice_get_read xs (length xs) i x.now refl h.3.0 h.1)
