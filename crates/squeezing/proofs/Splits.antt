-- The raised places are three stretches: upper places, neighbours that end in v, upper places again; so are the lowered.
use Rattle.std.proofs.Common.{◌≡◌, ℕ, zero, suc, ◌+◌, ◌-◌, ◌<◌, ◌≤◌, min, max, List, ◌++◌, length, get_or, take, drop, sym, refl, ap, ◌∙◌, ⊎_elim, arith, length-append, length-drop}
use Rattle.std.specs.List.{range_with_len}
use Rattle.std.proofs.lemmas.List.{ext_get_or, get_or_append_left, get_or-append_right, get_or-take, get_or-drop, length-take-le}
use Rattle.std.proofs.lemmas.List.FromFn.{get_or-map-range_with_len, length-map-range_with_len, get_or-range_with_len, length-range_with_len}
use Rattle.std.proofs.lemmas.Bool.{cond-true, cond-false, lt-ltb, le-ltb, eq-eqb, ne_eqb, cases_lt}
use Rattle.sets.specs.Spaces.{raised, lowered, as_high, as_low, at}
use Rattle.squeezing.specs.Standing.{Places}

-- the upper places rise at least as fast as the positions
pub rises : (n : ℕ) (hi : List ℕ) → Places n hi → (j d : ℕ) → j + d < length hi → get_or hi j 0 + d ≤ get_or hi (j + d) 0
rises n hi u j zero h = let e : j + 0 ≡ j = omega arith in omega (arith, ap (λ k. get_or hi k 0) e)
rises n hi u j (suc d) h =
    let e : j + suc d ≡ (j + d) + 1 = omega arith in
    omega (arith, rises n hi u j d (omega arith), u.rising (j + d) (omega arith), ap (λ k. get_or hi k 0) e)

module _ (hi : List ℕ) (i v : ℕ) where
  at_next : (k : ℕ) → at hi (k + 1) ≡ get_or hi k 0
  at_next k = let e : k + 1 - 1 ≡ k = omega arith in ap (λ j. get_or hi j 0) e

  high_below : (k : ℕ) → k < i → as_high hi (i + 1) v (k + 1) ≡ min (v - (i - k)) (get_or hi k 0)
  high_below k h =
      cond-true _ _ _ (lt-ltb (k + 1) (i + 1) (omega arith))
      ∙ ap (min (v - (i + 1 - (k + 1)))) (at_next k)
      ∙ (let e : (i + 1 - (k + 1)) ≡ i - k = omega arith in ap (λ d. min (v - d) (get_or hi k 0)) e)

  high_here : as_high hi (i + 1) v (i + 1) ≡ v
  high_here = cond-false _ _ _ (le-ltb (i + 1) (i + 1) (omega arith)) ∙ cond-true _ _ _ (eq-eqb (i + 1) (i + 1) refl)

  high-above : (k : ℕ) → i < k → as_high hi (i + 1) v (k + 1) ≡ get_or hi k 0
  high-above k h =
      cond-false _ _ _ (le-ltb (k + 1) (i + 1) (omega arith))
      ∙ cond-false _ _ _ (ne_eqb (k + 1) (i + 1) (λ e. omega arith))
      ∙ at_next k

  module _ (s : ℕ) (within : i < length hi) (start : s ≤ i) (enough : i < v) (held : (j : ℕ) → j < s → get_or hi j 0 + (i - j) ≤ v) (free : (j : ℕ) → s ≤ j → j < i → v < get_or hi j 0 + (i - j)) where
    abbrev stretch : List ℕ
    stretch = range_with_len (v - (i - s)) (i - s + 1)

    front_length : length (take s hi) ≡ s
    front_length = length-take-le s hi (omega arith)

    both_length : length (take s hi ++ stretch) ≡ i + 1
    both_length = length-append (take s hi) stretch ∙ omega (arith, front_length, length-range_with_len (v - (i - s)) (i - s + 1))

    abbrev all : List ℕ
    all = (take s hi ++ stretch) ++ drop (i + 1) hi

    front : (k : ℕ) → k < s → as_high hi (i + 1) v (k + 1) ≡ get_or all k 0
    front k h =
        high_below k (omega arith)
        ∙ (let e : min (v - (i - k)) (get_or hi k 0) ≡ get_or hi k 0 = omega (arith, held k h) in e)
        ∙ sym (get_or_append_left (take s hi ++ stretch) (drop (i + 1) hi) 0 k (omega (arith, both_length))
        ∙ get_or_append_left (take s hi) stretch 0 k (omega (arith, front_length))
        ∙ get_or-take s hi k 0 h)

    stretched : (k : ℕ) → s ≤ k → k < i + 1 → as_high hi (i + 1) v (k + 1) ≡ v - (i - k)
    stretched k h l =
        ⊎_elim
        (λ below. high_below k below ∙ (let e : min (v - (i - k)) (get_or hi k 0) ≡ v - (i - k) = omega (arith, free k h below) in e))
        (λ equal. let e : k ≡ i = omega arith in rw e (high_here ∙ (let z : v ≡ v - (i - i) = omega arith in z)))
        (cases_lt k i)

    middle : (k : ℕ) → s ≤ k → k < i + 1 → as_high hi (i + 1) v (k + 1) ≡ get_or all k 0
    middle k h l =
        stretched k h l
        ∙ sym (get_or_append_left (take s hi ++ stretch) (drop (i + 1) hi) 0 k (omega (arith, both_length))
        ∙ get_or-append_right (take s hi) stretch s k 0 front_length h
        ∙ get_or-range_with_len (v - (i - s)) (i - s + 1) (k - s) 0 (omega arith)
        ∙ (let e : v - (i - s) + (k - s) ≡ v - (i - k) = omega arith in e))

    back : (k : ℕ) → i < k → as_high hi (i + 1) v (k + 1) ≡ get_or all k 0
    back k h =
        high-above k h
        ∙ sym (get_or-append_right (take s hi ++ stretch) (drop (i + 1) hi) (i + 1) k 0 both_length (omega arith)
        ∙ get_or-drop (i + 1) hi (k - (i + 1)) 0
        ∙ (let e : i + 1 + (k - (i + 1)) ≡ k = omega arith in ap (λ j. get_or hi j 0) e))

    here : (k : ℕ) → k < length hi → as_high hi (i + 1) v (k + 1) ≡ get_or all k 0
    here k h =
        ⊎_elim
        (λ below. front k below)
        (λ past. ⊎_elim (λ below. middle k past below) (λ beyond. back k (omega arith)) (cases_lt k (i + 1)))
        (cases_lt k s)

    pub raised_split : raised hi (i + 1) v ≡ (take s hi ++ stretch) ++ drop (i + 1) hi
    raised_split =
        ext_get_or 0 _ _
        (length-map-range_with_len (as_high hi (i + 1) v) 1 (length hi) ∙ sym (length-append (take s hi ++ stretch) (drop (i + 1) hi) ∙ omega (arith, both_length, length-drop (i + 1) hi)))
        (λ k h. get_or-map-range_with_len (as_high hi (i + 1) v) 1 (length hi) k (k + 1) 0 (omega (arith, h, length-map-range_with_len (as_high hi (i + 1) v) 1 (length hi))) (omega arith) ∙ here k (omega (arith, h, length-map-range_with_len (as_high hi (i + 1) v) 1 (length hi))))

-- The lowered places are three stretches too: lower places, neighbours that begin with v, lower places again.
module _ (lo : List ℕ) (i v : ℕ) where
  low_next : (k : ℕ) → at lo (k + 1) ≡ get_or lo k 0
  low_next k = let e : k + 1 - 1 ≡ k = omega arith in ap (λ j. get_or lo j 0) e

  low_below : (k : ℕ) → k < i → as_low lo (i + 1) v (k + 1) ≡ get_or lo k 0
  low_below k h = cond-true _ _ _ (lt-ltb (k + 1) (i + 1) (omega arith)) ∙ low_next k

  low_here : as_low lo (i + 1) v (i + 1) ≡ v
  low_here = cond-false _ _ _ (le-ltb (i + 1) (i + 1) (omega arith)) ∙ cond-true _ _ _ (eq-eqb (i + 1) (i + 1) refl)

  low-above : (k : ℕ) → i < k → as_low lo (i + 1) v (k + 1) ≡ max (v + (k - i)) (get_or lo k 0)
  low-above k h =
      cond-false _ _ _ (le-ltb (k + 1) (i + 1) (omega arith))
      ∙ cond-false _ _ _ (ne_eqb (k + 1) (i + 1) (λ e. omega arith))
      ∙ ap (max (v + (k + 1 - (i + 1)))) (low_next k)
      ∙ (let e : (k + 1 - (i + 1)) ≡ k - i = omega arith in ap (λ d. max (v + d) (get_or lo k 0)) e)

  module _ (e : ℕ) (past : i < e) (end : e ≤ length lo) (held : (j : ℕ) → e ≤ j → j < length lo → v + (j - i) ≤ get_or lo j 0) (free : (j : ℕ) → i < j → j < e → get_or lo j 0 < v + (j - i)) where
    abbrev run : List ℕ
    run = range_with_len v (e - i)

    head_length : length (take i lo) ≡ i
    head_length = length-take-le i lo (omega arith)

    heads_length : length (take i lo ++ run) ≡ e
    heads_length = length-append (take i lo) run ∙ omega (arith, head_length, length-range_with_len v (e - i))

    abbrev lows : List ℕ
    lows = (take i lo ++ run) ++ drop e lo

    head : (k : ℕ) → k < i → as_low lo (i + 1) v (k + 1) ≡ get_or lows k 0
    head k h =
        low_below k h
        ∙ sym (get_or_append_left (take i lo ++ run) (drop e lo) 0 k (omega (arith, heads_length))
        ∙ get_or_append_left (take i lo) run 0 k (omega (arith, head_length))
        ∙ get_or-take i lo k 0 h)

    pushed : (k : ℕ) → i ≤ k → k < e → as_low lo (i + 1) v (k + 1) ≡ v + (k - i)
    pushed k h l =
        ⊎_elim
        (λ above. low-above k above ∙ (let z : max (v + (k - i)) (get_or lo k 0) ≡ v + (k - i) = omega (arith, free k above l) in z))
        (λ equal. let same : k ≡ i = omega arith in rw same (low_here ∙ (let z : v ≡ v + (i - i) = omega arith in z)))
        (cases_lt i k)

    body : (k : ℕ) → i ≤ k → k < e → as_low lo (i + 1) v (k + 1) ≡ get_or lows k 0
    body k h l =
        pushed k h l
        ∙ sym (get_or_append_left (take i lo ++ run) (drop e lo) 0 k (omega (arith, heads_length))
        ∙ get_or-append_right (take i lo) run i k 0 head_length h
        ∙ get_or-range_with_len v (e - i) (k - i) 0 (omega arith))

    tail : (k : ℕ) → e ≤ k → k < length lo → as_low lo (i + 1) v (k + 1) ≡ get_or lows k 0
    tail k h l =
        low-above k (omega arith)
        ∙ (let z : max (v + (k - i)) (get_or lo k 0) ≡ get_or lo k 0 = omega (arith, held k h l) in z)
        ∙ sym (get_or-append_right (take i lo ++ run) (drop e lo) e k 0 heads_length h
        ∙ get_or-drop e lo (k - e) 0
        ∙ (let z : e + (k - e) ≡ k = omega arith in ap (λ j. get_or lo j 0) z))

    low_all : (k : ℕ) → k < length lo → as_low lo (i + 1) v (k + 1) ≡ get_or lows k 0
    low_all k h =
        ⊎_elim
        (λ below. head k below)
        (λ from. ⊎_elim (λ below. body k from below) (λ beyond. tail k beyond h) (cases_lt k e))
        (cases_lt k i)

    pub lowered_split : lowered lo (i + 1) v ≡ (take i lo ++ run) ++ drop e lo
    lowered_split =
        let many = length-map-range_with_len (as_low lo (i + 1) v) 1 (length lo) in
        ext_get_or 0 _ _
        (many ∙ sym (length-append (take i lo ++ run) (drop e lo) ∙ omega (arith, heads_length, length-drop e lo)))
        (λ k h. get_or-map-range_with_len (as_low lo (i + 1) v) 1 (length lo) k (k + 1) 0 (omega (arith, h, many)) (omega arith) ∙ low_all k (omega (arith, h, many)))
