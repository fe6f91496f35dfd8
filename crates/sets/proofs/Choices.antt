-- What `least`, `greatest`, `count_from`, `count_down`, `same` and `widths` answer.
use Rattle.std.proofs.Common.{◌≡◌, ℕ, zero, suc, ◌+◌, ◌<◌, ◌≤◌, Bool, true, false, List, [], ◌∷◌, Some, None, Option, refl, ap, ◌∙◌, add-one, arith}
use Rattle.std.specs.List.{range_with_len, AllByRecursion}
use Rattle.std.proofs.ByRecursion.{All-weaker}
use Rattle.std.proofs.lemmas.Bool.{cond_both}
use Rattle.sets.proofs.Forms.{least, greatest, count_from, count_down, widths}
use Rattle.sets.proofs.Vectors.{Below}

-- what `least` tells: none passes, or w is the least that does
abbrev pub Least : (ℕ → Bool) → ℕ → ℕ → Option ℕ → Type 0
Least f v n None = (u : ℕ) → v ≤ u → u < v + n → f u ≡ true → ⊥
Least f v n (Some w) = (v ≤ w) × (w < v + n) × (f w ≡ true) × ((u : ℕ) → v ≤ u → u < v + n → f u ≡ true → w ≤ u)

least_skip : (f : ℕ → Bool) (v n : ℕ) (q : Option ℕ) → f v ≡ false → Least f (suc v) n q → Least f v (suc n) q
least_skip f v n None e h = λ u l k t. grind (arith, h u)
least_skip f v n (Some w) e h = (omega arith, omega arith, h.2, λ u l k t. grind (arith, h.3 u))

pub least_is : (f : ℕ → Bool) (v n : ℕ) → Least f v n (least f v n)
least_is f v zero = λ u l k t. omega arith
least_is f v (suc n) =
    cond_both (f v) (Some v) (least f (suc v) n) (Least f v (suc n)) (λ e. (omega arith, omega arith, e, λ u l k t. l)) (λ e. least_skip f v n (least f (suc v) n) e (least_is f (suc v) n))

-- what `greatest` tells: none passes, or w is the greatest that does
abbrev pub Greatest : (ℕ → Bool) → ℕ → ℕ → Option ℕ → Type 0
Greatest f v n None = (u : ℕ) → v ≤ u → u < v + n → f u ≡ true → ⊥
Greatest f v n (Some w) = (v ≤ w) × (w < v + n) × (f w ≡ true) × ((u : ℕ) → v ≤ u → u < v + n → f u ≡ true → u ≤ w)

greatest_skip : (f : ℕ → Bool) (v n : ℕ) (q : Option ℕ) → f (v + n) ≡ false → Greatest f v n q → Greatest f v (suc n) q
greatest_skip f v n None e h = λ u l k t. grind (arith, h u)
greatest_skip f v n (Some w) e h = (h.0, omega arith, h.2, λ u l k t. grind (arith, h.3 u))

pub greatest_is : (f : ℕ → Bool) (v n : ℕ) → Greatest f v n (greatest f v n)
greatest_is f v zero = λ u l k t. omega arith
greatest_is f v (suc n) =
    cond_both (f (v + n)) (Some (v + n)) (greatest f v n) (Greatest f v (suc n)) (λ e. (omega arith, omega arith, e, λ u l k t. omega arith)) (λ e. greatest_skip f v n (greatest f v n) e (greatest_is f v n))

pub counting_is : (i n : ℕ) → range_with_len i n ≡ count_from i n
counting_is i zero = refl
counting_is i (suc n) = ap (λ t. i ∷ t) (ap (λ k. range_with_len k n) (add-one i) ∙ counting_is (suc i) n)

pub count_from_below : (i n : ℕ) → AllByRecursion (λ j. j < i + n) (count_from i n)
count_from_below i zero = tt
count_from_below i (suc n) = (omega arith, All-weaker (λ j. j < suc i + n) (λ j. j < i + suc n) (λ j h. omega arith) (count_from (suc i) n) (count_from_below (suc i) n))

pub count_down_below : (n : ℕ) → AllByRecursion (λ j. j < n) (count_down n)
count_down_below zero = tt
count_down_below (suc n) = (omega arith, All-weaker (λ j. j < n) (λ j. j < suc n) (λ j h. omega arith) (count_down n) (count_down_below n))

pub widths_less : (lo lo' hi' hi : List ℕ) → Below lo lo' → Below lo' hi' → Below hi' hi → widths lo' hi' ≤ widths lo hi
widths_less [] [] [] [] f g h = omega arith
widths_less [] [] [] (z ∷ hi) f g h = absurd h
widths_less [] [] (y ∷ hi') hi f g h = absurd g
widths_less [] (x ∷ lo') hi' hi f g h = absurd f
widths_less (l ∷ lo) [] hi' hi f g h = absurd f
widths_less (l ∷ lo) (x ∷ lo') [] hi f g h = absurd g
widths_less (l ∷ lo) (x ∷ lo') (y ∷ hi') [] f g h = absurd h
widths_less (l ∷ lo) (x ∷ lo') (y ∷ hi') (z ∷ hi) f g h = omega (arith, widths_less lo lo' hi' hi f.1 g.1 h.1)

-- no narrower: nothing moved
pub widths_level : (lo lo' hi' hi : List ℕ) → Below lo lo' → Below lo' hi' → Below hi' hi → widths lo hi ≤ widths lo' hi' → (Below lo' lo) × (Below hi hi')
widths_level [] [] [] [] f g h w = (tt, tt)
widths_level [] [] [] (z ∷ hi) f g h w = absurd h
widths_level [] [] (y ∷ hi') hi f g h w = absurd g
widths_level [] (x ∷ lo') hi' hi f g h w = absurd f
widths_level (l ∷ lo) [] hi' hi f g h w = absurd f
widths_level (l ∷ lo) (x ∷ lo') [] hi f g h w = absurd g
widths_level (l ∷ lo) (x ∷ lo') (y ∷ hi') [] f g h w = absurd h
widths_level (l ∷ lo) (x ∷ lo') (y ∷ hi') (z ∷ hi) f g h w =
    let less : widths lo' hi' ≤ widths lo hi = widths_less lo lo' hi' hi f.1 g.1 h.1 in
    let ih : (Below lo' lo) × (Below hi hi') = widths_level lo lo' hi' hi f.1 g.1 h.1 (omega arith) in
    ((omega arith, ih.0), (omega arith, ih.1))
