-- What holds of all stays so where one is put in or taken out.
use Rattle.std.proofs.Common.{◌≡◌, ℕ, suc, ◌≤◌, Bool, true, false, cond, eqb, List, [], ◌∷◌, length, refl, ap, arith}
use Rattle.std.specs.List.{AllByRecursion}
use Rattle.roll.specs.Order.{put, without}

module _ {X : Type 0} (goes_before : X → X → Bool) where
  -- what holds of all and of e holds of all with e
  pub all_put : (P : X → Type 0) (e : X) (xs : List X) → P e → AllByRecursion P xs → AllByRecursion P (put goes_before e xs)
  all_put P e [] p h = (p, tt)
  all_put P e (x ∷ xs) p h = go (goes_before x e) (all_put P e xs p h.1)
    where
      go : (b : Bool) → AllByRecursion P (put goes_before e xs) → AllByRecursion P (cond b (x ∷ put goes_before e xs) (e ∷ x ∷ xs))
      go true r = (h.0, r)
      go false r = (p, h)

  -- one more stands
  pub put_long : (e : X) (xs : List X) → length (put goes_before e xs) ≡ suc (length xs)
  put_long e [] = refl
  put_long e (x ∷ xs) = go (goes_before x e) (put_long e xs)
    where
      go : (b : Bool) → length (put goes_before e xs) ≡ suc (length xs) → length (cond b (x ∷ put goes_before e xs) (e ∷ x ∷ xs)) ≡ suc (length (x ∷ xs))
      go true r = ap suc r
      go false r = refl

module _ {X : Type 0} (number : X → ℕ) where
  -- and of what is left without one
  pub all_without : (P : X → Type 0) (n : ℕ) (xs : List X) → AllByRecursion P xs → AllByRecursion P (without number n xs)
  all_without P n [] h = h
  all_without P n (x ∷ xs) h = go (eqb (number x) n) (all_without P n xs h.1)
    where
      go : (b : Bool) → AllByRecursion P (without number n xs) → AllByRecursion P (cond b xs (x ∷ without number n xs))
      go true r = h.1
      go false r = (h.0, r)

  -- no more stand
  pub without_long : (n : ℕ) (xs : List X) → length (without number n xs) ≤ length xs
  without_long n [] = omega arith
  without_long n (x ∷ xs) = go (eqb (number x) n) (without_long n xs)
    where
      go : (b : Bool) → length (without number n xs) ≤ length xs → length (cond b xs (x ∷ without number n xs)) ≤ suc (length xs)
      go true r = omega arith
      go false r = omega arith
