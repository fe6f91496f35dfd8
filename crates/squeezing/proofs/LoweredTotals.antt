-- What a turn of lowering a position has added up, and what it leaves to try.
use Rattle.std.proofs.Common.{◌≡◌, ℕ, zero, suc, ◌+◌, ◌-◌, ◌<◌, ◌≤◌, Bool, true, false, List, ◌++◌, length, get_or, take, drop, set, Some, None, sym, ap, ◌∙◌, subst, ⊎_elim, arith, length-append, length-drop}
use Rattle.std.specs.List.{range_with_len}
use Rattle.std.proofs.lemmas.List.FromFn.{length-range_with_len}
use Rattle.std.proofs.lemmas.List.{get_or-set_same, get_or-set_other, length-take-le}
use Rattle.std.proofs.lemmas.List.Elements.{All-append, All-take, All-drop}
use Rattle.std.proofs.lemmas.Bool.{cond-true, cond-false, cases_eq}
use Rattle.measure.specs.Algebra.{Algebra, Laws, Row}
use Rattle.sets.specs.Spaces.{greatest, lowered}
use Rattle.squeezing.specs.declared.table.Totals.{Totals}
use Rattle.squeezing.specs.Standing.{Back, Places, StandsIn}
use Rattle.squeezing.proofs.Sums.{Adds, IsPlace, Inside, join, inside_counting, inside-places, places_few}
use Rattle.squeezing.proofs.Splits.{rises, lowered_split}
use Rattle.squeezing.proofs.RaisedTotals.{suffix_more}

greatest_here : (f : ℕ → Bool) (v n : ℕ) → 0 < n → f v ≡ true → greatest f v n ≡ Some v
greatest_here f v zero h e = absurd (omega arith)
greatest_here f v (suc n) h e = cond-true _ _ _ e

greatest_next : (f : ℕ → Bool) (v n k : ℕ) → n ≡ k + 1 → f v ≡ false → greatest f v n ≡ greatest f (v - 1) k
greatest_next f v zero k h e = absurd (omega arith)
greatest_next f v (suc n) k h e = cond-false _ _ _ e ∙ (let same : n ≡ k = omega arith in ap (greatest f (v - 1)) same)

pub greatest_to_here : (f : ℕ → Bool) (v bottom : ℕ) → bottom ≤ v → f v ≡ true → greatest f v (v + 1 - bottom) ≡ Some v
greatest_to_here f v bottom h = greatest_here f v (v + 1 - bottom) (omega arith)

pub greatest_to_next : (f : ℕ → Bool) (v bottom : ℕ) → 1 ≤ bottom → bottom ≤ v → f v ≡ false → greatest f v (v + 1 - bottom) ≡ greatest f (v - 1) (v - 1 + 1 - bottom)
greatest_to_next f v bottom l h = greatest_next f v (v + 1 - bottom) (v - 1 + 1 - bottom) (omega arith)

pub greatest_to_none : (f : ℕ → Bool) (v bottom : ℕ) → v ≤ bottom → bottom ≤ v → f v ≡ false → None ≡ greatest f v (v + 1 - bottom)
greatest_to_none f v bottom l h e =
    let last : v + 1 - bottom ≡ 0 + 1 = omega arith in
    sym (greatest_next f v (v + 1 - bottom) 0 last e)

pub prefix_set : {M : Type 0} (a : Algebra) (row : M → Row) (span : M → ℕ) (t : Totals M) (lo : List ℕ) (totals : List M) (j : ℕ) (r : M) → j + 1 < length totals → ((k : ℕ) (d : M) → k ≤ j → StandsIn a row span t (take k lo) (get_or totals k d)) → StandsIn a row span t (take (j + 1) lo) r → (k : ℕ) (d : M) → k ≤ j + 1 → StandsIn a row span t (take k lo) (get_or (set totals (j + 1) r) k d)
prefix_set a row span t lo totals j r within rest here k d h =
    ⊎_elim
    (λ same. subst (λ q. StandsIn a row span t (take q lo) (get_or (set totals (j + 1) r) q d)) (sym same) (rw (get_or-set_same totals (j + 1) r d within) here))
    (λ other. rw (get_or-set_other totals (j + 1) k r d other) (rest k d (omega arith)))
    (cases_eq k (j + 1))

module _ {M : Type 0} (a : Algebra) (laws : Laws a) (row : M → Row) (span : M → ℕ) (own : (x : M) → a.own (row x) ≡ true) (t : Totals M) (lo : List ℕ) (places : Places t.n lo) where
  -- one lower place more after the stretch
  pub back_more : (i v e : ℕ) (x y r : M) → i + 1 < e → v + (e - 1 - i) ≤ get_or lo (e - 1) 0 → Back a row span t lo i v e x → StandsIn a row span t (range_with_len (get_or lo (e - 1) 0) 1) y → Adds a row span y x r → Back a row span t lo i v (e - 1) r
  back_more i v e x y r l here b sy sum =
      let next : e ≡ e - 1 + 1 = omega arith in
      record {
        past = omega arith;
        upto = omega (arith, b.upto);
        stands = suffix_more a laws row span own t lo places (e - 1) y x r (omega (arith, b.upto)) sy (subst (λ q. StandsIn a row span t (drop q lo) x) next b.stands) sum;
        held = λ j h k. ⊎_elim (λ same. subst (λ q. v + (q - i) ≤ get_or lo q 0) (sym same) here) (λ other. b.held j (omega arith) k) (cases_eq j (e - 1));
      }

  -- the three parts together are the lowered places
  pub lowered_stands : (i e v : ℕ) (x y z xy r : M) → get_or lo i 0 ≤ v → v + length lo ≤ t.n + i + 1 → (i + 1 < e → get_or lo (e - 1) 0 < v + (e - 1 - i)) → StandsIn a row span t (take i lo) x → StandsIn a row span t (range_with_len v (e - i)) y → Back a row span t lo i v e z → Adds a row span x y xy → Adds a row span xy z r → StandsIn a row span t (lowered lo (i + 1) v) r
  lowered_stands i e v x y z xy r bottom top free sx sy b sum1 sum2 =
      let past = b.past in
      let end = b.upto in
      let ins = inside-places t.n lo places in
      let run = range_with_len v (e - i) in
      let before : (j : ℕ) → i < j → j < e → get_or lo j 0 < v + (j - i) =
      λ j h k. let q : j + (e - 1 - j) ≡ e - 1 = omega arith in
      omega (arith, free (omega arith), rises t.n lo places j (e - 1 - j) (omega arith), ap (λ p. get_or lo p 0) q) in
      let split = lowered_split lo i v e past end b.held before in
      let ins_run : Inside t.n run = inside_counting t.n v (e - i) (omega (arith, places.least i (omega arith))) (omega arith) in
      let ins_front = All-take (IsPlace t.n) i lo ins in
      let n_front = length-take-le i lo (omega arith) in
      let n_run = length-range_with_len v (e - i) in
      let few = places_few t.n lo places in
      let front = join a laws row span own t.n t.m t.values.now (take i lo) run x y xy ins_front ins_run (omega (arith, n_front, n_run, few, t.few)) sx sy sum1 in
      rw split (join a laws row span own t.n t.m t.values.now (take i lo ++ run) (drop e lo) xy z r
      (All-append (IsPlace t.n) (take i lo) run ins_front ins_run)
      (All-drop (IsPlace t.n) e lo ins)
      (omega (arith, length-append (take i lo) run, n_front, n_run, length-drop e lo, few, t.few))
      front b.stands sum2)
