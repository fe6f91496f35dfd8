-- Which members kept and joined lists have, in which order, and how many.
use Rattle.std.proofs.Common.{◌≡◌, ℕ, zero, suc, ◌+◌, ◌<◌, ◌≤◌, Bool, true, ◌⊎◌, List, [], ◌∷◌, ◌++◌, length, filter, refl, subst, inl, inr, arith}
use Rattle.std.specs.List.{flat_map, AllByRecursion}
use Rattle.std.proofs.ByRecursion.{All-append, All-weaker, all_kept_by}
use Rattle.std.proofs.lemmas.Bool.{cond_both, cases_eq}
use Rattle.sets.specs.Orders.{In, Sorted}
use Rattle.sets.proofs.Forms.{count_from}
use Rattle.sets.proofs.Members.{in_left, in_right, sorted_append}

pub in_count_from : (v a n : ℕ) → a ≤ v → v < a + n → In v (count_from a n)
in_count_from v a zero l k = absurd (omega arith)
in_count_from v a (suc n) l k = elim (cases_eq v a) [
  | inl e ↦ inl e
  | inr e ↦ inr (in_count_from v (suc a) n (omega arith) (omega arith))
]

module _ {X : Type 0} where
  in_append : (x : X) (ys zs : List X) → In x (ys ++ zs) → In x ys ⊎ In x zs
  in_append x [] zs h = inr h
  in_append x (y ∷ ys) zs (inl e) = inl (inl e)
  in_append x (y ∷ ys) zs (inr h) = grind (arith, in_append x ys zs h)

  pub in_kept : (p : X → Bool) (x : X) (xs : List X) → In x (filter p xs) → In x xs × (p x ≡ true)
  in_kept p x [] h = absurd h
  in_kept p x (y ∷ ys) h = grind (arith, in_kept p x ys)

  pub kept_in : (p : X → Bool) (x : X) (xs : List X) → In x xs → p x ≡ true → In x (filter p xs)
  kept_in p x [] h e = absurd h
  kept_in p x (y ∷ ys) h e = grind (arith, kept_in p x ys)

  pub in_some : (x : X) (xs : List X) → In x xs → 1 ≤ length xs
  in_some x [] i = absurd i
  in_some x (y ∷ ys) i = omega arith

  pub in_joined : {Y : Type 0} (f : Y → List X) (x : X) (ys : List Y) → In x (flat_map f ys) → (y : Y) × (In y ys × In x (f y))
  in_joined f x [] h = absurd h
  in_joined f x (y ∷ ys) h = elim (in_append x (f y) (flat_map f ys) h) [
    | inl k ↦ (y, (inl refl, k))
    | inr k ↦ let q = in_joined f x ys k in (q.0, (inr q.1.0, q.1.1))
  ]

  pub joined_in : {Y : Type 0} (f : Y → List X) (x : X) (y : Y) (ys : List Y) → In y ys → In x (f y) → In x (flat_map f ys)
  joined_in f x y [] h k = absurd h
  joined_in f x y (z ∷ zs) (inl e) k = in_left x (f z) (flat_map f zs) (subst (λ w. In x (f w)) e k)
  joined_in f x y (z ∷ zs) (inr h) k = in_right x (f z) (flat_map f zs) (joined_in f x y zs h k)

  pub sorted_kept : (R : X → X → Type 0) (p : X → Bool) (xs : List X) → Sorted R xs → Sorted R (filter p xs)
  sorted_kept R p [] s = tt
  sorted_kept R p (x ∷ xs) s = cond_both (p x) (x ∷ filter p xs) (filter p xs) (Sorted R) (λ e. (all_kept_by p (R x) xs s.0, sorted_kept R p xs s.1)) (λ e. sorted_kept R p xs s.1)

  -- an order among those that have a property
  pub sorted_among : (R S : X → X → Type 0) (P : X → Type 0) → ((x y : X) → P x → P y → R x y → S x y) → (xs : List X) → AllByRecursion P xs → Sorted R xs → Sorted S xs
  sorted_among R S P f [] a s = tt
  sorted_among R S P f (x ∷ xs) a s = (both xs a.1 s.0, sorted_among R S P f xs a.1 s.1)
    where
      both : (ys : List X) → AllByRecursion P ys → AllByRecursion (R x) ys → AllByRecursion (S x) ys
      both [] b t = tt
      both (y ∷ ys) b t = (f x y a.0 b.0 t.0, both ys b.1 t.1)

  module _ (R : X → X → Type 0) (key : X → ℕ) (apart : (x y : X) → key x < key y → R x y) (f : ℕ → List X) (keyed : (v : ℕ) → AllByRecursion (λ x. key x ≡ v) (f v)) (sorted : (v : ℕ) → Sorted R (f v)) where
    from_all : (a n : ℕ) → AllByRecursion (λ x. a ≤ key x) (flat_map f (count_from a n))
    from_all a zero = tt
    from_all a (suc n) = All-append (λ x. a ≤ key x) (f a) (flat_map f (count_from (suc a) n))
        (All-weaker (λ x. key x ≡ a) (λ x. a ≤ key x) (λ x e. omega arith) (f a) (keyed a))
        (All-weaker (λ x. suc a ≤ key x) (λ x. a ≤ key x) (λ x l. omega arith) (flat_map f (count_from (suc a) n)) (from_all (suc a) n))

    -- lists by rising key, one after the other
    pub sorted_joined : (a n : ℕ) → Sorted R (flat_map f (count_from a n))
    sorted_joined a zero = tt
    sorted_joined a (suc n) =
        let rest : List X = flat_map f (count_from (suc a) n) in
        sorted_append R (f a) rest (sorted a) (sorted_joined (suc a) n)
        (All-weaker (λ x. key x ≡ a) (λ x. AllByRecursion (R x) rest) (λ x e. All-weaker (λ y. suc a ≤ key y) (R x) (λ y l. apart x y (omega arith)) rest (from_all (suc a) n)) (f a) (keyed a))
