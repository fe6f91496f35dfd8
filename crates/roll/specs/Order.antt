-- Lists of things that have a number and are kept in order, and what putting one in and taking one out make of them.
use Rattle.std.specs.Prelude.{ℕ, Bool, cond, not, ◌&&◌, ◌||◌, List, [], ◌∷◌, ◌==◌, nat_lt}
use Rattle.std.specs.List.{list_any, list_all, prefix_len}

-- how the things of a list are told apart and compared
pub record Kind (X : Type 0) : Type 0 where
  pub number : X → ℕ
  pub admitted : X → Bool
  pub not_above : X → X → Bool

-- x stands before y: it is not above y, and of two equals it has the smaller number
abbrev pub before : {X : Type 0} → Kind X → X → X → Bool
before k x y = k.not_above x y && (not (k.not_above y x) || nat_lt (k.number x) (k.number y))

-- one of the two is not above the other
abbrev pub matched : {X : Type 0} → Kind X → X → X → Bool
matched k x y = k.not_above x y || k.not_above y x

-- e can be compared with each of xs
abbrev pub comparable : {X : Type 0} → Kind X → X → List X → Bool
comparable k e xs = list_all (λ x. matched k e x) xs

-- the number n stands in xs
abbrev pub numbered : {X : Type 0} → (X → ℕ) → ℕ → List X → Bool
numbered number n xs = list_any (λ x. number x == n) xs

-- e put in where all in front of it go before it
abbrev pub put : {X : Type 0} → (X → X → Bool) → X → List X → List X
put goes_before e [] = e ∷ []
put goes_before e (x ∷ xs) = cond (goes_before x e) (x ∷ put goes_before e xs) (e ∷ x ∷ xs)

-- without the first that has the number n
abbrev pub without : {X : Type 0} → (X → ℕ) → ℕ → List X → List X
without number n [] = []
without number n (x ∷ xs) = cond (number x == n) xs (x ∷ without number n xs)

-- how many stand in front of the first that does not go before e
abbrev pub place : {X : Type 0} → (X → X → Bool) → X → List X → ℕ
place goes_before e xs = prefix_len (λ x. goes_before x e) xs
