-- What the list of all sets holds, and in which order.
use Rattle.std.proofs.Common.{◌≡◌, ℕ, zero, suc, ◌+◌, ◌≤◌, List, [], ◌∷◌, ◌++◌, map, get_or, sym, refl, ap, subst, inl, inr, arith}
use Rattle.std.specs.List.{AllByRecursion}
use Rattle.std.proofs.ByRecursion.{All-append, All-map, All-weaker}
use Rattle.std.proofs.lemmas.List.Elements.{recursion_from_All}
use Rattle.std.proofs.lemmas.Bool.{cases_eq}
use Rattle.sets.specs.Sets.{sets}
pub use Rattle.sets.specs.Orders.{Among, In, Sorted, Lex}
use Rattle.sets.proofs.Vectors.{Rising, Upto, rising_weaker}

among_cons : (p k m : ℕ) (s : List ℕ) → suc p ≤ k → Among (suc p) k m s → Among p k (suc m) (suc p ∷ s)
among_cons p k m s l h = record { rising = (omega arith, h.rising); upto = (l, h.upto); size = ap suc h.size }

among_skip : (p k m : ℕ) (s : List ℕ) → Among (suc p) k m s → Among p k m s
among_skip p k m s h = record { rising = rising_weaker (suc p) p s (omega arith) h.rising; upto = h.upto; size = h.size }

pub sets_among : (b n m : ℕ) → AllByRecursion (Among b (b + n) m) (sets (suc b) n m)
sets_among b n zero = (record { rising = tt; upto = tt; size = refl }, tt)
sets_among b zero (suc m) = tt
sets_among b (suc n) (suc m) =
    let e : suc b + n ≡ b + suc n = omega arith in
    let A : ℕ → List ℕ → Type 0 = λ k s. Among b k (suc m) s in
    let ih : AllByRecursion (Among (suc b) (suc b + n) m) (sets (suc (suc b)) n m) = sets_among (suc b) n m in
    let jh : AllByRecursion (Among (suc b) (suc b + n) (suc m)) (sets (suc (suc b)) n (suc m)) = sets_among (suc b) n (suc m) in
    let l : suc b ≤ suc b + n = omega arith in
    subst (λ k. AllByRecursion (Among b k (suc m)) (sets (suc b) (suc n) (suc m))) e
    (All-append (A (suc b + n)) (map (λ s. suc b ∷ s) (sets (suc (suc b)) n m)) (sets (suc (suc b)) n (suc m))
    (All-map (A (suc b + n)) (λ s. suc b ∷ s) (sets (suc (suc b)) n m) (All-weaker (Among (suc b) (suc b + n) m) (λ s. A (suc b + n) (suc b ∷ s)) (λ s. among_cons b (suc b + n) m s l) (sets (suc (suc b)) n m) ih))
    (All-weaker (Among (suc b) (suc b + n) (suc m)) (A (suc b + n)) (λ s. among_skip b (suc b + n) (suc m) s) (sets (suc (suc b)) n (suc m)) jh))

pub in_left : {X : Type 0} (x : X) (ys zs : List X) → In x ys → In x (ys ++ zs)
in_left x [] zs h = absurd h
in_left x (y ∷ ys) zs (inl e) = inl e
in_left x (y ∷ ys) zs (inr h) = inr (in_left x ys zs h)

pub in_right : {X : Type 0} (x : X) (ys zs : List X) → In x zs → In x (ys ++ zs)
in_right x [] zs h = h
in_right x (y ∷ ys) zs h = inr (in_right x ys zs h)

pub in_map : {X Y : Type 0} (f : X → Y) (x : X) (ys : List X) → In x ys → In (f x) (map f ys)
in_map f x [] h = absurd h
in_map f x (y ∷ ys) (inl e) = inl (ap f e)
in_map f x (y ∷ ys) (inr h) = inr (in_map f x ys h)

pub all_in : {X : Type 0} (P : X → Type 0) (x : X) (ys : List X) → AllByRecursion P ys → In x ys → P x
all_in P x [] a h = absurd h
all_in P x (y ∷ ys) a (inl e) = subst P (sym e) a.0
all_in P x (y ∷ ys) a (inr h) = all_in P x ys a.1 h

-- every set of m of the places is there
pub sets_all : (b n m : ℕ) (s : List ℕ) → Among b (b + n) m s → In s (sets (suc b) n m)
sets_all b n zero [] h = inl refl
sets_all b n zero (x ∷ s) h = absurd (omega (arith, h.size))
sets_all b zero (suc m) [] h = absurd (omega (arith, h.size))
sets_all b zero (suc m) (x ∷ s) h = absurd (omega (arith, h.rising.0, h.upto.0))
sets_all b (suc n) (suc m) [] h = absurd (omega (arith, h.size))
sets_all b (suc n) (suc m) (x ∷ s) h =
    let e : b + suc n ≡ suc b + n = omega arith in
    let up : Upto (suc b + n) (x ∷ s) = subst (λ k. Upto k (x ∷ s)) e h.upto in
    let first : (x ≡ suc b) → In (x ∷ s) (sets (suc b) (suc n) (suc m)) =
    λ q. subst (λ y. In (y ∷ s) (sets (suc b) (suc n) (suc m))) (sym q)
    (in_left (suc b ∷ s) (map (λ t. suc b ∷ t) (sets (suc (suc b)) n m)) (sets (suc (suc b)) n (suc m))
    (in_map (λ t. suc b ∷ t) s (sets (suc (suc b)) n m)
    (sets_all (suc b) n m s (record { rising = subst (λ y. Rising y s) q h.rising.1; upto = up.1; size = omega (arith, h.size) })))) in
    let other : (x ≡ suc b → ⊥) → In (x ∷ s) (sets (suc b) (suc n) (suc m)) =
    λ q. in_right (x ∷ s) (map (λ t. suc b ∷ t) (sets (suc (suc b)) n m)) (sets (suc (suc b)) n (suc m))
    (sets_all (suc b) n (suc m) (x ∷ s) (record { rising = (omega (arith, h.rising.0), h.rising.1); upto = up; size = h.size })) in
    elim (cases_eq x (suc b)) [ inl q ↦ first q | inr q ↦ other q ]

pub lex_irreflexive : (s : List ℕ) → Lex s s → ⊥
lex_irreflexive [] h = h
lex_irreflexive (x ∷ s) (inl l) = omega arith
lex_irreflexive (x ∷ s) (inr h) = lex_irreflexive s h.1

pub sorted_append : {X : Type 0} (R : X → X → Type 0) (xs ys : List X) → Sorted R xs → Sorted R ys → AllByRecursion (λ x. AllByRecursion (R x) ys) xs → Sorted R (xs ++ ys)
sorted_append R [] ys h k a = k
sorted_append R (x ∷ xs) ys h k a = (All-append (R x) xs ys h.0 a.0, sorted_append R xs ys h.1 k a.1)

sorted_cons : (p : ℕ) (xs : List (List ℕ)) → Sorted Lex xs → Sorted Lex (map (λ s. p ∷ s) xs)
sorted_cons p [] h = tt
sorted_cons p (x ∷ xs) h =
    (All-map (Lex (p ∷ x)) (λ s. p ∷ s) xs (All-weaker (Lex x) (λ s. Lex (p ∷ x) (p ∷ s)) (λ s k. inr (refl, k)) xs h.0), sorted_cons p xs h.1)

pub all_of : {X : Type 0} (P : X → Type 0) → ((x : X) → P x) → (xs : List X) → AllByRecursion P xs
all_of P f xs = recursion_from_All P xs (λ k d l. f (get_or xs k d))

after_head : (p n m : ℕ) (s t : List ℕ) → Among p n (suc m) t → Lex (p ∷ s) t
after_head p n m s [] h = absurd (omega (arith, h.size))
after_head p n m s (y ∷ t) h = inl h.rising.0

pub sets_sorted : (b n m : ℕ) → Sorted Lex (sets (suc b) n m)
sets_sorted b n zero = (tt, tt)
sets_sorted b zero (suc m) = tt
sets_sorted b (suc n) (suc m) =
    let later : List (List ℕ) = sets (suc (suc b)) n (suc m) in
    let first : List (List ℕ) = sets (suc (suc b)) n m in
    sorted_append Lex (map (λ s. suc b ∷ s) first) later (sorted_cons (suc b) first (sets_sorted (suc b) n m)) (sets_sorted (suc b) n (suc m))
    (All-map (λ x. AllByRecursion (Lex x) later) (λ s. suc b ∷ s) first
    (all_of (λ s. AllByRecursion (Lex (suc b ∷ s)) later) (λ s. All-weaker (Among (suc b) (suc b + n) (suc m)) (Lex (suc b ∷ s)) (λ t. after_head (suc b) (suc b + n) m s t) later (sets_among (suc b) n (suc m))) first))
