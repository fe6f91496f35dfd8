-- A child of a space: its first open position is settled, and those after it are pushed up.
use Rattle.std.proofs.Common.{◌≡◌, ℕ, zero, suc, ◌+◌, ◌-◌, ◌<◌, ◌≤◌, max, List, map, length, get_or, take, set, sym, ap, ◌∙◌, ⊎_elim, arith}
use lib.Seq.{take-set-lt}
use Rattle.std.specs.List.{range_with_len}
use Rattle.std.proofs.lemmas.List.{ext_get_or, length-take-le, get_or-take, get_or-set_same, get_or-set_other}
use Rattle.std.proofs.lemmas.List.FromFn.{get_or-map-range_with_len, length-map-range_with_len}
use Rattle.std.proofs.lemmas.Bool.{cond-true, cond-false, lt-ltb, le-ltb, cases_lt, cases_eq}
use Rattle.sets.specs.Spaces.{space, pushed, at, child}
use Rattle.squeezing.specs.Standing.{Roomy, Rising, Under, Upto}

pub rising_by : (m : ℕ) (hi : List ℕ) → Rising m hi → (i d : ℕ) → i + d < m → get_or hi i 0 + d ≤ get_or hi (i + d) 0
rising_by m hi r i zero h = let e : i + 0 ≡ i = omega arith in omega (arith, ap (λ k. get_or hi k 0) e)
rising_by m hi r i (suc d) h =
    let e : i + suc d ≡ i + d + 1 = omega arith in
    omega (arith, rising_by m hi r i d (omega arith), r (i + d) (omega arith), ap (λ k. get_or hi k 0) e)

pub rising_to : (m : ℕ) (hi : List ℕ) → Rising m hi → (i k : ℕ) → i ≤ k → k < m → get_or hi i 0 + (k - i) ≤ get_or hi k 0
rising_to m hi r i k h l =
    let e : i + (k - i) ≡ k = omega arith in
    omega (arith, rising_by m hi r i (k - i) (omega arith), ap (λ q. get_or hi q 0) e)

module _ (n m : ℕ) (lo hi new : List ℕ) (i v : ℕ) (long : length lo ≡ 120) (high : length hi ≡ 120) (made : length new ≡ 120) (small : m ≤ 120) (open_at : i < m)
    (roomy : Roomy m lo) (lows : Rising m lo) (highs : Rising m hi) (under : Under m lo hi) (upto : Upto m n hi)
    (least : get_or lo i 0 ≤ v) (most : v ≤ get_or hi i 0) (settled : (j : ℕ) → j < i → get_or lo j 0 ≡ get_or hi j 0)
    (before : (k : ℕ) → k < i → get_or new k 0 ≡ get_or lo k 0) (after : (k : ℕ) → i ≤ k → k < m → get_or new k 0 ≡ max (get_or lo k 0) (v + (k - i))) where
  hi_here : get_or (set hi i v) i 0 ≡ v
  hi_here = get_or-set_same hi i v 0 (omega arith)

  hi_other : (k : ℕ) → (k ≡ i → ⊥) → get_or (set hi i v) k 0 ≡ get_or hi k 0
  hi_other k ne = get_or-set_other hi i k v 0 ne

  -- by cases: before i, at i, after i
  either : (k : ℕ) (P : Type 0) → (k < i → P) → (k ≡ i → P) → (i < k → P) → P
  either k P b h a = ⊎_elim b (λ l. ⊎_elim h (λ ne. a (omega arith)) (cases_eq k i)) (cases_lt k i)

  pub born : Roomy m new × Rising m new × Rising m (set hi i v) × Under m new (set hi i v) × Upto m n (set hi i v)
  born = (
    λ k h. either k (k + 1 ≤ get_or new k 0)
        (λ b. omega (arith, before k b, roomy k h))
        (λ e. omega (arith, after k (omega arith) h, roomy k h))
        (λ a. omega (arith, after k (omega arith) h, roomy k h)),
    λ k h. ⊎_elim
        (λ b. omega (arith, before k (omega arith), before (k + 1) b, lows k h))
        (λ a. ⊎_elim
        (λ b. omega (arith, before k b, after (k + 1) (omega arith) h, lows k h))
        (λ a2. omega (arith, after k a2 (omega arith), after (k + 1) (omega arith) h, lows k h))
        (cases_lt k i))
        (cases_lt (k + 1) i),
    λ k h. either k (get_or (set hi i v) k 0 < get_or (set hi i v) (k + 1) 0)
        (λ b. ⊎_elim
        (λ e. omega (arith, hi_other k (λ z. omega arith), ap (λ q. get_or (set hi i v) q 0) e, hi_here, settled k b, lows k h, ap (λ q. get_or lo q 0) e))
        (λ ne. omega (arith, hi_other k (λ z. omega arith), hi_other (k + 1) ne, highs k h))
        (cases_eq (k + 1) i))
        (λ e. omega (arith, ap (λ q. get_or (set hi i v) q 0) e, hi_here, hi_other (k + 1) (λ z. omega arith), highs k h, ap (λ q. get_or hi q 0) e))
        (λ a. omega (arith, hi_other k (λ z. omega arith), hi_other (k + 1) (λ z. omega arith), highs k h)),
    λ k h. either k (get_or new k 0 ≤ get_or (set hi i v) k 0)
        (λ b. omega (arith, before k b, hi_other k (λ z. omega arith), under k h))
        (λ e. omega (arith, after k (omega arith) h, ap (λ q. get_or (set hi i v) q 0) e, hi_here, ap (λ q. get_or lo q 0) e))
        (λ a. omega (arith, after k (omega arith) h, hi_other k (λ z. omega arith), under k h, rising_to m hi highs i k (omega arith) h)),
    λ k h. either k (get_or (set hi i v) k 0 ≤ n)
        (λ b. omega (arith, hi_other k (λ z. omega arith), upto k h))
        (λ e. omega (arith, ap (λ q. get_or (set hi i v) q 0) e, hi_here, upto i open_at))
        (λ a. omega (arith, hi_other k (λ z. omega arith), upto k h)),
  )

  new_at : (k : ℕ) → k < m → get_or (take m new) k 0 ≡ pushed (take m lo) (i + 1) v (k + 1)
  new_at k h =
      let next : k + 1 - 1 ≡ k = omega arith in
      let at_lo : at (take m lo) (k + 1) ≡ get_or lo k 0 = ap (λ q. get_or (take m lo) q 0) next ∙ get_or-take m lo k 0 h in
      get_or-take m new k 0 h
      ∙ ⊎_elim
      (λ b. before k b ∙ sym (cond-true _ _ _ (lt-ltb (k + 1) (i + 1) (omega arith)) ∙ at_lo))
      (λ a. after k a h ∙ sym (cond-false _ _ _ (le-ltb (k + 1) (i + 1) (omega arith)) ∙ ap (λ q. max q (v + (k + 1 - (i + 1)))) at_lo ∙ (let e : k + 1 - (i + 1) ≡ k - i = omega arith in ap (λ d. max (get_or lo k 0) (v + d)) e)))
      (cases_lt k i)

  pub born_is : space (take m new) (take m (set hi i v)) ≡ child (space (take m lo) (take m hi)) (i + 1) v
  born_is =
      let len_lo : length (take m lo) ≡ m = length-take-le m lo (omega arith) in
      let len_new : length (take m new) ≡ m = length-take-le m new (omega arith) in
      let f = pushed (take m lo) (i + 1) v in
      let lows_are : take m new ≡ map f (range_with_len 1 (length (take m lo))) =
      ext_get_or 0 _ _ (len_new ∙ sym len_lo ∙ sym (length-map-range_with_len f 1 (length (take m lo))))
      (λ k h. new_at k (omega (arith, h, len_new)) ∙ sym (get_or-map-range_with_len f 1 (length (take m lo)) k (k + 1) 0 (omega (arith, h, len_new, len_lo)) (omega arith))) in
      let next : i + 1 - 1 ≡ i = omega arith in
      let highs_are : take m (set hi i v) ≡ set (take m hi) (i + 1 - 1) v = take-set-lt m hi i v open_at ∙ ap (λ q. set (take m hi) q v) (sym next) in
      ap (λ l. space l (take m (set hi i v))) lows_are ∙ ap (λ h. space (map f (range_with_len 1 (length (take m lo)))) h) highs_are
