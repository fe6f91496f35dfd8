-- The complements of the sets of m places are the sets of n - m places, the other way round.
use Rattle.std.proofs.Common.{◌≡◌, ℕ, zero, suc, ◌+◌, ◌-◌, ◌<◌, ◌≤◌, eqb, List, [], ◌∷◌, ◌++◌, map, reverse, sym, refl, ap, ◌∙◌, ap₂, append-nil, arith}
use mathlib.Core.List.{map-map, reverse-cons}
use Rattle.std.specs.List.{AllByRecursion}
use Rattle.std.proofs.lemmas.List.{map-append, reverse-append}
use Rattle.std.proofs.lemmas.Bool.{eq-eqb, ne_eqb, cond-true, cond-false}
use Rattle.sets.specs.Sets.{sets, complement}
use Rattle.sets.proofs.Vectors.{Rising}
use Rattle.sets.proofs.Members.{Among, sets_among}

pub map_same : {X Y : Type 0} (f g : X → Y) (P : X → Type 0) → ((x : X) → P x → f x ≡ g x) → (xs : List X) → AllByRecursion P xs → map f xs ≡ map g xs
map_same f g P h [] a = refl
map_same f g P h (x ∷ xs) a = ap₂ (λ y ys. y ∷ ys) (h x a.0) (map_same f g P h xs a.1)

pub map-reverse : {X Y : Type 0} (f : X → Y) (xs : List X) → map f (reverse xs) ≡ reverse (map f xs)
map-reverse f [] = refl
map-reverse f (x ∷ xs) = simp (reverse-cons, map-append, map-reverse f xs)

pub complement_here : (p n : ℕ) (s : List ℕ) → complement p (suc n) (p ∷ s) ≡ complement (suc p) n s
complement_here p n s = cond-true (eqb p p) (complement (suc p) n s) (p ∷ complement (suc p) n (p ∷ s)) (eq-eqb p p refl)

pub complement_past : (p n : ℕ) (s : List ℕ) → Rising p s → complement p (suc n) s ≡ p ∷ complement (suc p) n s
complement_past p n [] r = refl
complement_past p n (q ∷ s) r = cond-false (eqb p q) (complement (suc p) n s) (p ∷ complement (suc p) n (q ∷ s)) (ne_eqb p q (λ e. omega (arith, r.0)))

none_of_more : (p n m : ℕ) → n < m → sets p n m ≡ []
none_of_more p n zero l = absurd (omega arith)
none_of_more p zero (suc m) l = refl
none_of_more p (suc n) (suc m) l = ap₂ (λ x y. map (λ s. p ∷ s) x ++ y) (none_of_more (suc p) n m (omega arith)) (none_of_more (suc p) n (suc m) (omega arith))

-- with p the first place, and the sets of n places from it made of those with it and those without
pub complements : (b n m k : ℕ) → m + k ≡ n → map (complement (suc b) n) (sets (suc b) n m) ≡ reverse (sets (suc b) n k)
complements b zero zero zero e = refl
complements b zero zero (suc k) e = absurd (omega arith)
complements b zero (suc m) k e = absurd (omega arith)
complements b (suc n) zero zero e = absurd (omega arith)
complements b (suc n) zero (suc k) e =
    let p : ℕ = suc b in
    let ih : map (complement (suc p) n) (sets (suc p) n zero) ≡ reverse (sets (suc p) n k) = complements p n zero k (omega arith) in
    let A : List (List ℕ) = sets (suc p) n k in
    ap (map (λ s. p ∷ s)) ih ∙ map-reverse (λ s. p ∷ s) A ∙ ap reverse (sym (append-nil (map (λ s. p ∷ s) A)) ∙ ap (λ y. map (λ s. p ∷ s) A ++ y) (sym (none_of_more (suc p) n (suc k) (omega arith))))
complements b (suc n) (suc m) zero e =
    let p : ℕ = suc b in
    let A : List (List ℕ) = sets (suc p) n m in
    ap (λ y. map (complement p (suc n)) (map (λ s. p ∷ s) A ++ y)) (none_of_more (suc p) n (suc m) (omega arith))
    ∙ ap (map (complement p (suc n))) (append-nil (map (λ s. p ∷ s) A))
    ∙ map-map (complement p (suc n)) (λ s. p ∷ s) A
    ∙ map_same (λ s. complement p (suc n) (p ∷ s)) (complement (suc p) n) (Among p (p + n) m) (λ s _. complement_here p n s) A (sets_among p n m)
    ∙ complements p n m zero (omega arith)
complements b (suc n) (suc m) (suc k) e =
    let p : ℕ = suc b in
    let A : List (List ℕ) = sets (suc p) n m in
    let B : List (List ℕ) = sets (suc p) n (suc m) in
    let with_p : map (complement p (suc n)) (map (λ s. p ∷ s) A) ≡ reverse (sets (suc p) n (suc k)) =
    map-map (complement p (suc n)) (λ s. p ∷ s) A
    ∙ map_same (λ s. complement p (suc n) (p ∷ s)) (complement (suc p) n) (Among p (p + n) m) (λ s _. complement_here p n s) A (sets_among p n m)
    ∙ complements p n m (suc k) (omega arith) in
    let without : map (complement p (suc n)) B ≡ reverse (map (λ s. p ∷ s) (sets (suc p) n k)) =
    map_same (complement p (suc n)) (λ s. p ∷ complement (suc p) n s) (Among p (p + n) (suc m)) (λ s h. complement_past p n s h.rising) B (sets_among p n (suc m))
    ∙ sym (map-map (λ s. p ∷ s) (complement (suc p) n) B)
    ∙ ap (map (λ s. p ∷ s)) (complements p n (suc m) k (omega arith))
    ∙ map-reverse (λ s. p ∷ s) (sets (suc p) n k) in
    map-append (complement p (suc n)) (map (λ s. p ∷ s) A) B ∙ ap₂ (λ x y. x ++ y) with_p without
    ∙ sym (reverse-append (map (λ s. p ∷ s) (sets (suc p) n k)) (sets (suc p) n (suc k)))

pub complements_of_sets : (n m : ℕ) → m ≤ n → map (complement 1 n) (sets 1 n m) ≡ reverse (sets 1 n (n - m))
complements_of_sets n m l = complements 0 n m (n - m) (omega arith)
