-- Sets of places among others, what a list holds, and in which order.
use Rattle.std.specs.Prelude.{◌≡◌, ℕ, ◌<◌, ◌≤◌, ◌⊎◌, List, [], ◌∷◌, length, ◌≢◌}
use Rattle.std.specs.List.{AllByRecursion}

-- strictly rising, and all above b
abbrev pub Rising : ℕ → List ℕ → Type 0
Rising b [] = Unit {0}
Rising b (x ∷ s) = (b < x) × Rising x s

abbrev pub Upto : ℕ → List ℕ → Type 0
Upto n s = AllByRecursion (λ x. x ≤ n) s

-- a set of m places above b and up to n
pub record Among (b n m : ℕ) (s : List ℕ) : Type 0 where
  pub rising : Rising b s
  pub upto : Upto n s
  pub size : length s ≡ m

-- x stands in the list
abbrev pub In : {X : Type 0} → X → List X → Type 0
In x [] = ⊥
In x (y ∷ ys) = (x ≡ y) ⊎ In x ys

-- at the first difference the smaller place
abbrev pub Lex : List ℕ → List ℕ → Type 0
Lex [] t = ⊥
Lex (x ∷ s) [] = ⊥
Lex (x ∷ s) (y ∷ t) = (x < y) ⊎ ((x ≡ y) × Lex s t)

-- each before all that follow
abbrev pub Sorted : {X : Type 0} → (X → X → Type 0) → List X → Type 0
Sorted R [] = Unit {0}
Sorted R (x ∷ xs) = AllByRecursion (R x) xs × Sorted R xs

-- no value twice
abbrev pub Distinct : {X : Type 0} → List X → Type 0
Distinct {X} xs = Sorted {X = X} (λ x y. x ≢ y) xs
