-- Rising vectors, one below another position by position, and pushing one up or down at a position.
use Rattle.std.proofs.Common.{◌≡◌, ℕ, zero, suc, ◌+◌, ◌-◌, ◌<◌, ◌≤◌, min, max, List, [], ◌∷◌, length, refl, ap, ◌∙◌, ap₂, arith}
use Rattle.std.specs.List.{AllZip}
use Rattle.std.proofs.lemmas.List.Elements.{length_all_zip}
pub use Rattle.sets.specs.Orders.{Rising, Upto}
use Rattle.sets.proofs.Forms.{at, above, lifted, topped}

-- as long as t, and at no position above it
abbrev pub Below : List ℕ → List ℕ → Type 0
Below s t = AllZip (λ x y. x ≤ y) s t

pub below_refl : (s : List ℕ) → Below s s
below_refl [] = tt
below_refl (x ∷ s) = (omega arith, below_refl s)

pub below_trans : (s t u : List ℕ) → Below s t → Below t u → Below s u
below_trans [] [] [] h k = tt
below_trans [] [] (z ∷ u) h k = absurd k
below_trans [] (y ∷ t) u h k = absurd h
below_trans (x ∷ s) [] u h k = absurd h
below_trans (x ∷ s) (y ∷ t) [] h k = absurd k
below_trans (x ∷ s) (y ∷ t) (z ∷ u) h k = (omega arith, below_trans s t u h.1 k.1)

pub below_antisym : (s t : List ℕ) → Below s t → Below t s → s ≡ t
below_antisym [] [] h k = refl
below_antisym [] (y ∷ t) h k = absurd h
below_antisym (x ∷ s) [] h k = absurd h
below_antisym (x ∷ s) (y ∷ t) h k = let e : x ≡ y = omega arith in ap₂ (λ z zs. z ∷ zs) e (below_antisym s t h.1 k.1)

pub below_at : (s t : List ℕ) (i : ℕ) → Below s t → at s i ≤ at t i
below_at [] [] i h = omega arith
below_at [] (y ∷ t) i h = absurd h
below_at (x ∷ s) [] i h = absurd h
below_at (x ∷ s) (y ∷ t) zero h = h.0
below_at (x ∷ s) (y ∷ t) (suc i) h = below_at s t i h.1

pub below_length : (s t : List ℕ) → Below s t → length s ≡ length t
below_length s t h = length_all_zip (λ x y. x ≤ y) s t h

pub below_upto : (n : ℕ) (s t : List ℕ) → Below s t → Upto n t → Upto n s
below_upto n [] [] h k = tt
below_upto n [] (y ∷ t) h k = absurd h
below_upto n (x ∷ s) [] h k = absurd h
below_upto n (x ∷ s) (y ∷ t) h k = (omega arith, below_upto n s t h.1 k.1)

pub rising_weaker : (b c : ℕ) (s : List ℕ) → c ≤ b → Rising b s → Rising c s
rising_weaker b c [] l r = tt
rising_weaker b c (x ∷ s) l r = (omega arith, r.1)

pub rising_at : (b : ℕ) (s : List ℕ) (i : ℕ) → i < length s → Rising b s → b + suc i ≤ at s i
rising_at b [] i l r = omega arith
rising_at b (x ∷ s) zero l r = omega arith
rising_at b (x ∷ s) (suc i) l r = let k : i < length s = omega arith in omega (arith, rising_at x s i k r.1)

pub above-rising : (v : ℕ) (lo : List ℕ) → Rising v (above v lo)
above-rising v [] = tt
above-rising v (l ∷ lo) = (omega arith, above-rising (max (suc v) l) lo)

pub above-least : (v : ℕ) (lo s : List ℕ) → Below lo s → Rising v s → Below (above v lo) s
above-least v [] [] h r = tt
above-least v [] (x ∷ s) h r = absurd h
above-least v (l ∷ lo) [] h r = absurd h
above-least v (l ∷ lo) (x ∷ s) h r = (omega arith, above-least (max (suc v) l) lo s h.1 (rising_weaker x (max (suc v) l) s (omega arith) r.1))

pub above_more : (v : ℕ) (lo : List ℕ) → Below lo (above v lo)
above_more v [] = tt
above_more v (l ∷ lo) = (omega arith, above_more (max (suc v) l) lo)

pub above_same : (v : ℕ) (lo : List ℕ) → Rising v lo → above v lo ≡ lo
above_same v [] r = refl
above_same v (l ∷ lo) r = let e : max (suc v) l ≡ l = omega arith in ap (λ w. w ∷ above w lo) e ∙ ap (λ t. l ∷ t) (above_same l lo r.1)

pub lifted-rising : (b : ℕ) (lo : List ℕ) (i v : ℕ) → Rising b lo → at lo i ≤ v → Rising b (lifted lo i v)
lifted-rising b [] i v r l = tt
lifted-rising b (x ∷ lo) zero v r l = (omega arith, above-rising v lo)
lifted-rising b (x ∷ lo) (suc i) v r l = (r.0, lifted-rising x lo i v r.1 l)

pub lifted-least : (b : ℕ) (lo : List ℕ) (i v : ℕ) (s : List ℕ) → Below lo s → Rising b s → v ≤ at s i → Below (lifted lo i v) s
lifted-least b [] i v [] h r l = tt
lifted-least b [] i v (y ∷ s) h r l = absurd h
lifted-least b (x ∷ lo) i v [] h r l = absurd h
lifted-least b (x ∷ lo) zero v (y ∷ s) h r l = (l, above-least v lo s h.1 (rising_weaker y v s l r.1))
lifted-least b (x ∷ lo) (suc i) v (y ∷ s) h r l = (h.0, lifted-least y lo i v s h.1 r.1 l)

pub lifted_more : (lo : List ℕ) (i v : ℕ) → at lo i ≤ v → Below lo (lifted lo i v)
lifted_more [] i v l = tt
lifted_more (x ∷ lo) zero v l = (l, above_more v lo)
lifted_more (x ∷ lo) (suc i) v l = (omega arith, lifted_more lo i v l)

pub lifted_same : (b : ℕ) (lo : List ℕ) (i : ℕ) → Rising b lo → lifted lo i (at lo i) ≡ lo
lifted_same b [] i r = refl
lifted_same b (x ∷ lo) zero r = ap (λ t. x ∷ t) (above_same x lo r.1)
lifted_same b (x ∷ lo) (suc i) r = ap (λ t. x ∷ t) (lifted_same x lo i r.1)

pub at_lifted : (lo : List ℕ) (i v : ℕ) → i < length lo → at (lifted lo i v) i ≡ v
at_lifted [] i v l = omega arith
at_lifted (x ∷ lo) zero v l = refl
at_lifted (x ∷ lo) (suc i) v l = at_lifted lo i v (omega arith)

pub topped-rising : (b : ℕ) (hi : List ℕ) (i v : ℕ) → Rising b hi → b + suc i ≤ v → v ≤ at hi i → Rising b (topped hi i v)
topped-rising b [] i v r l k = tt
topped-rising b (x ∷ hi) zero v r l k = (omega arith, rising_weaker x v hi k r.1)
topped-rising b (x ∷ hi) (suc i) v r l k =
    let c : ℕ = min (v - suc i) x in
    let below : b < c = omega arith in
    (below, topped-rising c hi i v (rising_weaker x c hi (omega arith) r.1) (omega arith) k)

pub topped_most : (b : ℕ) (s hi : List ℕ) (i v : ℕ) → Below s hi → Rising b s → i < length s → at s i ≤ v → Below s (topped hi i v)
topped_most b [] [] i v h r l k = tt
topped_most b [] (y ∷ hi) i v h r l k = absurd h
topped_most b (x ∷ s) [] i v h r l k = absurd h
topped_most b (x ∷ s) (y ∷ hi) zero v h r l k = (k, h.1)
topped_most b (x ∷ s) (y ∷ hi) (suc i) v h r l k =
    let j : i < length s = omega arith in
    (omega (arith, rising_at x s i j r.1), topped_most x s hi i v h.1 r.1 j k)

pub topped_less : (hi : List ℕ) (i v : ℕ) → v ≤ at hi i → Below (topped hi i v) hi
topped_less [] i v k = tt
topped_less (x ∷ hi) zero v k = (k, below_refl hi)
topped_less (x ∷ hi) (suc i) v k = (omega arith, topped_less hi i v k)

pub topped_same : (b : ℕ) (hi : List ℕ) (i : ℕ) → Rising b hi → i < length hi → topped hi i (at hi i) ≡ hi
topped_same b [] i r l = refl
topped_same b (x ∷ hi) zero r l = refl
topped_same b (x ∷ hi) (suc i) r l =
    let j : i < length hi = omega arith in
    let e : min (at hi i - suc i) x ≡ x = omega (arith, rising_at x hi i j r.1) in
    ap₂ (λ z zs. z ∷ zs) e (topped_same x hi i r.1 j)

pub at_topped : (hi : List ℕ) (i v : ℕ) → i < length hi → at (topped hi i v) i ≡ v
at_topped [] i v l = omega arith
at_topped (x ∷ hi) zero v l = refl
at_topped (x ∷ hi) (suc i) v l = at_topped hi i v (omega arith)
