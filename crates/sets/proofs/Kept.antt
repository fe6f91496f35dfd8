-- What a filter keeps of a sorted list, and how it falls apart by a key.
use Rattle.std.proofs.Common.{◌≡◌, ℕ, zero, suc, ◌+◌, ◌*◌, ◌<◌, ◌≤◌, Bool, true, false, ◌&&◌, eqb, leb, List, [], ◌∷◌, ◌++◌, length, filter, sym, refl, ap, ◌∙◌, subst, ap₂, arith, length-append}
use Rattle.std.specs.List.{flat_map, AllByRecursion}
use Rattle.std.proofs.ByRecursion.{All-weaker}
use Rattle.std.proofs.lemmas.Bool.Decides.{same_from_decides, nat_tests}
use Rattle.std.proofs.lemmas.Bool.{false_from_ne_true, and_from, and_parts, eqb-true, le-leb, leb-true}
use Rattle.sets.proofs.Forms.{count_from}
use Rattle.sets.proofs.Members.{In, Sorted}

pub bool_same : (b c : Bool) → (b ≡ true → c ≡ true) → (c ≡ true → b ≡ true) → b ≡ c
bool_same b c f g = same_from_decides {P = c ≡ true} b c (f, g) (λ e. e, λ e. e)

module _ {X : Type 0} where
  -- Kept: the library has these two in std_collections alone, which this crate cannot name.
  pub kept_same : (p q : X → Bool) (xs : List X) → AllByRecursion (λ x. p x ≡ q x) xs → filter p xs ≡ filter q xs
  kept_same p q [] a = refl
  kept_same p q (x ∷ xs) a = cc (kept_same p q xs a.1)

  pub kept_none : (p : X → Bool) (xs : List X) → AllByRecursion (λ x. p x ≡ false) xs → filter p xs ≡ []
  kept_none p [] a = refl
  kept_none p (x ∷ xs) a = cc (kept_none p xs a.1)

  pub kept_one : (R : X → X → Type 0) → ((x : X) → R x x → ⊥) → (p : X → Bool) (x : X) → p x ≡ true → ((y : X) → p y ≡ true → y ≡ x) → (xs : List X) → Sorted R xs → In x xs → filter p xs ≡ x ∷ []
  kept_one R irr p x px only [] s i = absurd i
  kept_one R irr p x px only (y ∷ ys) s i =
      let later : p y ≡ true → filter p ys ≡ [] = λ e. kept_none p ys (All-weaker (R y) (λ z. p z ≡ false) (λ z r. false_from_ne_true (p z) (λ f. irr y (subst (R y) (only z f ∙ sym (only y e)) r))) ys s.0) in
      grind (arith, later, only y, kept_one R irr p x px only ys s.1)

  pub kept_fewer : (p q : X → Bool) (xs : List X) → AllByRecursion (λ x. p x ≡ true → q x ≡ true) xs → length (filter p xs) ≤ length (filter q xs)
  kept_fewer p q [] a = omega arith
  kept_fewer p q (x ∷ xs) a = grind (arith, kept_fewer p q xs a.1, a.0)

  pub joined_same : {Y : Type 0} (f g : X → List Y) (P : X → Type 0) → ((x : X) → P x → f x ≡ g x) → (xs : List X) → AllByRecursion P xs → flat_map f xs ≡ flat_map g xs
  joined_same f g P h [] a = refl
  joined_same f g P h (x ∷ xs) a = ap₂ (λ ys zs. ys ++ zs) (h x a.0) (joined_same f g P h xs a.1)

  -- twice as much in each part and one more
  pub joined_twice : {Y Z : Type 0} (f : X → List Y) (g : X → List Z) (P : X → Type 0) → ((x : X) → P x → suc (length (f x)) ≤ 2 * length (g x)) → (xs : List X) → AllByRecursion P xs → length (flat_map f xs) + length xs ≤ 2 * length (flat_map g xs)
  joined_twice f g P h [] a = omega arith
  joined_twice f g P h (x ∷ xs) a =
      omega (arith, h x a.0, joined_twice f g P h xs a.1, length-append (f x) (flat_map f xs), length-append (g x) (flat_map g xs))

  module _ (R : X → X → Type 0) (p : X → Bool) (key : X → ℕ) (mono : (x y : X) → R x y → p x ≡ true → p y ≡ true → key x ≤ key y) where
    -- those with a for key stand before those with a greater one
    kept_part_step : (a : ℕ) (x : X) (xs : List X) → Sorted R (x ∷ xs) → filter (λ x. p x && leb a (key x)) xs ≡ filter (λ x. p x && eqb (key x) a) xs ++ filter (λ x. p x && leb (suc a) (key x)) xs → filter (λ x. p x && leb a (key x)) (x ∷ xs) ≡ filter (λ x. p x && eqb (key x) a) (x ∷ xs) ++ filter (λ x. p x && leb (suc a) (key x)) (x ∷ xs)
    kept_part_step a x xs s ih =
        let gone : p x ≡ true → a < key x → filter (λ y. p y && eqb (key y) a) xs ≡ [] =
        λ e k. kept_none (λ y. p y && eqb (key y) a) xs (All-weaker (R x) (λ y. (p y && eqb (key y) a) ≡ false) (λ y r. false_from_ne_true (p y && eqb (key y) a) (λ f. let q = and_parts (p y) (eqb (key y) a) f in absurd (omega (arith, mono x y r e q.0, eqb-true (key y) a q.1)))) xs s.0) in
        grind (arith, nat_tests, gone, ih)

    kept_part : (a : ℕ) (xs : List X) → Sorted R xs → filter (λ x. p x && leb a (key x)) xs ≡ filter (λ x. p x && eqb (key x) a) xs ++ filter (λ x. p x && leb (suc a) (key x)) xs
    kept_part a [] s = refl
    kept_part a (x ∷ xs) s = kept_part_step a x xs s (kept_part a xs s.1)

    kept_from : (a n : ℕ) (xs : List X) → Sorted R xs → AllByRecursion (λ x. p x ≡ true → key x < a + n) xs → filter (λ x. p x && leb a (key x)) xs ≡ flat_map (λ v. filter (λ x. p x && eqb (key x) v) xs) (count_from a n)
    kept_from a zero xs s b = kept_none (λ x. p x && leb a (key x)) xs (All-weaker (λ x. p x ≡ true → key x < a + zero) (λ x. (p x && leb a (key x)) ≡ false) (λ x h. false_from_ne_true (p x && leb a (key x)) (λ f. let q = and_parts (p x) (leb a (key x)) f in omega (arith, h q.0, leb-true a (key x) q.1))) xs b)
    kept_from a (suc n) xs s b =
        kept_part a xs s ∙ ap (λ ys. filter (λ x. p x && eqb (key x) a) xs ++ ys) (kept_from (suc a) n xs s (All-weaker (λ x. p x ≡ true → key x < a + suc n) (λ x. p x ≡ true → key x < suc a + n) (λ x h f. omega (arith, h f)) xs b))

    -- a sorted list falls apart by a key that does not go down along it
    pub kept_split : (a n : ℕ) (xs : List X) → Sorted R xs → AllByRecursion (λ x. p x ≡ true → (a ≤ key x) × (key x < a + n)) xs → filter p xs ≡ flat_map (λ v. filter (λ x. p x && eqb (key x) v) xs) (count_from a n)
    kept_split a n xs s b =
        kept_same p (λ x. p x && leb a (key x)) xs (All-weaker (λ x. p x ≡ true → (a ≤ key x) × (key x < a + n)) (λ x. p x ≡ (p x && leb a (key x))) (λ x h. bool_same (p x) (p x && leb a (key x)) (λ f. and_from (p x) (leb a (key x)) f (le-leb a (key x) (h f).0)) (λ f. (and_parts (p x) (leb a (key x)) f).0)) xs b)
        ∙ kept_from a n xs s (All-weaker (λ x. p x ≡ true → (a ≤ key x) × (key x < a + n)) (λ x. p x ≡ true → key x < a + n) (λ x h f. (h f).1) xs b)
