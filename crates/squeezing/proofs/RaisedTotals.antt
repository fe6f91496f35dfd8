-- What a turn of raising a position has added up, and what it leaves to try.
use Rattle.std.proofs.Common.{◌≡◌, ℕ, zero, suc, ◌+◌, ◌-◌, ◌<◌, ◌≤◌, Bool, true, false, List, ◌++◌, length, get_or, take, drop, set, Some, None, sym, ap, ◌∙◌, subst, ⊎_elim, arith, length-append, length-drop, below_more}
use Rattle.std.specs.List.{range_with_len}
use Rattle.std.proofs.lemmas.List.FromFn.{length-range_with_len}
use Rattle.std.proofs.lemmas.List.{get_or-set_same, get_or-set_other, take_more, drop_more, length-take-le}
use Rattle.std.proofs.lemmas.List.Elements.{All-append, All-take, All-drop}
use Rattle.std.proofs.lemmas.Bool.{cond-true, cond-false, cases_eq}
use Rattle.measure.specs.Algebra.{Algebra, Laws, Row}
use Rattle.sets.specs.Spaces.{least, raised}
use Rattle.squeezing.specs.declared.table.Totals.{Totals}
use Rattle.squeezing.specs.Standing.{Front, Places, StandsIn}
use Rattle.squeezing.proofs.Sums.{Adds, IsPlace, Inside, join, inside_counting, inside-places, places_few}
use Rattle.squeezing.proofs.Splits.{rises, raised_split}

pub least_here : (f : ℕ → Bool) (v n : ℕ) → 0 < n → f v ≡ true → least f v n ≡ Some v
least_here f v zero h e = absurd (omega arith)
least_here f v (suc n) h e = cond-true _ _ _ e

pub least_next : (f : ℕ → Bool) (v n k : ℕ) → n ≡ k + 1 → f v ≡ false → least f v n ≡ least f (v + 1) k
least_next f v zero k h e = absurd (omega arith)
least_next f v (suc n) k h e = cond-false _ _ _ e ∙ (let same : n ≡ k = omega arith in ap (least f (v + 1)) same)

-- the same of the search up to a top
pub least_to_here : (f : ℕ → Bool) (v top : ℕ) → v ≤ top → f v ≡ true → least f v (top + 1 - v) ≡ Some v
least_to_here f v top h = least_here f v (top + 1 - v) (omega arith)

pub least_to_next : (f : ℕ → Bool) (v top : ℕ) → v ≤ top → f v ≡ false → least f v (top + 1 - v) ≡ least f (v + 1) (top + 1 - (v + 1))
least_to_next f v top h = least_next f v (top + 1 - v) (top + 1 - (v + 1)) (omega arith)

pub least_to_none : (f : ℕ → Bool) (v top : ℕ) → top ≤ v → v ≤ top → f v ≡ false → None ≡ least f v (top + 1 - v)
least_to_none f v top l h e =
    let last : top + 1 - (v + 1) ≡ 0 = omega arith in
    sym (least_to_next f v top h e ∙ ap (least f (v + 1)) last)

-- the totals from an index on, as they are written down from the last
module _ {M : Type 0} (a : Algebra) (row : M → Row) (span : M → ℕ) (t : Totals M) (hi : List ℕ) (totals : List M) where
  pub suffix_set : (j : ℕ) (r : M) → j < length totals → ((k : ℕ) (d : M) → j + 1 ≤ k → k ≤ length hi → StandsIn a row span t (drop k hi) (get_or totals k d)) → StandsIn a row span t (drop j hi) r → (k : ℕ) (d : M) → j ≤ k → k ≤ length hi → StandsIn a row span t (drop k hi) (get_or (set totals j r) k d)
  suffix_set j r within rest here k d h l =
      ⊎_elim
      (λ same. subst (λ q. StandsIn a row span t (drop q hi) (get_or (set totals j r) q d)) (sym same) (rw (get_or-set_same totals j r d within) here))
      (λ other. rw (get_or-set_other totals j k r d other) (rest k d (omega arith) l))
      (cases_eq k j)

module _ {M : Type 0} (a : Algebra) (laws : Laws a) (row : M → Row) (span : M → ℕ) (own : (x : M) → a.own (row x) ≡ true) (t : Totals M) (hi : List ℕ) (upper : Places t.n hi) where
  -- one place more after those before it
  pub prefix_more : (s : ℕ) (x y r : M) → s < length hi → StandsIn a row span t (take s hi) x → StandsIn a row span t (range_with_len (get_or hi s 0) 1) y → Adds a row span x y r → StandsIn a row span t (take (s + 1) hi) r
  prefix_more s x y r l sx sy sum =
      let more : take (s + 1) hi ≡ take s hi ++ range_with_len (get_or hi s 0) 1 = take_more hi s 0 l in
      rw more (join a laws row span own t.n t.m t.values.now (take s hi) (range_with_len (get_or hi s 0) 1) x y r
      (All-take (IsPlace t.n) s hi (inside-places t.n hi upper))
      (inside_counting t.n (get_or hi s 0) 1 (omega (arith, upper.least s l)) (omega (arith, upper.most s l)))
      (omega (arith, places_few t.n hi upper, length-take-le s hi (omega arith), t.few))
      sx sy sum)

  -- one upper place more before the stretch
  pub front_more : (i v s : ℕ) (x y r : M) → i < length hi → s < i → get_or hi s 0 + (i - s) ≤ v → Front a row span t hi i v s x → StandsIn a row span t (range_with_len (get_or hi s 0) 1) y → Adds a row span x y r → Front a row span t hi i v (s + 1) r
  front_more i v s x y r within l here f sy sum = record {
    start = omega arith;
    stands = prefix_more s x y r (omega arith) f.stands sy sum;
    held = below_more _ _ f.held here;
  }

  -- one upper place more before those after it
  pub suffix_more : (j : ℕ) (x y r : M) → j < length hi → StandsIn a row span t (range_with_len (get_or hi j 0) 1) x → StandsIn a row span t (drop (j + 1) hi) y → Adds a row span x y r → StandsIn a row span t (drop j hi) r
  suffix_more j x y r l sx sy sum =
      let more : drop j hi ≡ range_with_len (get_or hi j 0) 1 ++ drop (j + 1) hi = drop_more hi j 0 l in
      rw more (join a laws row span own t.n t.m t.values.now (range_with_len (get_or hi j 0) 1) (drop (j + 1) hi) x y r
      (inside_counting t.n (get_or hi j 0) 1 (omega (arith, upper.least j l)) (omega (arith, upper.most j l)))
      (All-drop (IsPlace t.n) (j + 1) hi (inside-places t.n hi upper))
      (omega (arith, places_few t.n hi upper, length-drop (j + 1) hi, t.few))
      sx sy sum)

  -- the three parts together are the raised places
  pub raised_stands : (i s v : ℕ) (x y z xy r : M) → i < length hi → i < v → v ≤ get_or hi i 0 → (s < i → v < get_or hi s 0 + (i - s)) → Front a row span t hi i v s x → StandsIn a row span t (range_with_len (v - (i - s)) (i - s + 1)) y → StandsIn a row span t (drop (i + 1) hi) z → Adds a row span x y xy → Adds a row span xy z r → StandsIn a row span t (raised hi (i + 1) v) r
  raised_stands i s v x y z xy r l enough top free f sy sz sum1 sum2 =
      let start = f.start in
      let below = f.held in
      let sx = f.stands in
      let ups = inside-places t.n hi upper in
      let run = range_with_len (v - (i - s)) (i - s + 1) in
      let past : (j : ℕ) → s ≤ j → j < i → v < get_or hi j 0 + (i - j) =
      λ j h k. let e : s + (j - s) ≡ j = omega arith in
      omega (arith, free (omega arith), rises t.n hi upper s (j - s) (omega arith), ap (λ p. get_or hi p 0) e) in
      let split = raised_split hi i v s l start enough below past in
      let ins_run : Inside t.n run = inside_counting t.n (v - (i - s)) (i - s + 1) (omega arith) (omega (arith, upper.most i l)) in
      let ins_front = All-take (IsPlace t.n) s hi ups in
      let n_front = length-take-le s hi (omega arith) in
      let n_run = length-range_with_len (v - (i - s)) (i - s + 1) in
      let few = places_few t.n hi upper in
      let front = join a laws row span own t.n t.m t.values.now (take s hi) run x y xy ins_front ins_run (omega (arith, n_front, n_run, few, t.few)) sx sy sum1 in
      rw split (join a laws row span own t.n t.m t.values.now (take s hi ++ run) (drop (i + 1) hi) xy z r
      (All-append (IsPlace t.n) (take s hi) run ins_front ins_run)
      (All-drop (IsPlace t.n) (i + 1) hi ups)
      (omega (arith, length-append (take s hi) run, n_front, n_run, length-drop (i + 1) hi, few, t.few))
      front sz sum2)
