-- The part of a pass that lowers: one position more, and all of them.
use Rattle.std.proofs.Common.{◌≡◌, ℕ, zero, suc, ◌+◌, ◌-◌, ◌<◌, ◌≤◌, Bool, true, false, cond, not, ◌||◌, eqb, List, length, get_or, set, Some, None, sum, Option, sym, refl, ap, ◌∙◌, subst, arith}
use Rattle.std.proofs.lemmas.List.{length-set, get_or-set_other, set-get_or}
use Rattle.std.proofs.lemmas.List.Sums.{sum_by-set}
use Rattle.std.proofs.lemmas.Bool.{true≢false, eqb-true, eqb-false}
use Rattle.measure.specs.Algebra.{Algebra, Row}
use Rattle.sets.specs.Spaces.{lower, lower_from}
use Rattle.squeezing.specs.declared.table.Totals.{Totals}
use Rattle.squeezing.specs.Standing.{Back, Higher, Above}
use Rattle.squeezing.proofs.RaisingPass.{set_here, set_each}

-- the upper places from index i on are lowered: each at least its lower place, and rising
pub record Lowered (i : ℕ) (lo hi : List ℕ) : Type 0 where
  pub above : (j : ℕ) → i ≤ j → j < length hi → get_or lo j 0 ≤ get_or hi j 0
  pub rising : (j : ℕ) → i ≤ j → j + 1 < length hi → get_or hi j 0 < get_or hi (j + 1) 0

-- whether places changed from `was` to `is`, of which none rose
pub record Fell (moved : Bool) (was is : List ℕ) : Type 0 where
  pub still : moved ≡ false → is ≡ was
  pub fell : sum is + cond moved 1 0 ≤ sum was
  pub down : Above is was

-- all positions were lowered: where H holds, the answer is found
pub record Sunk (H : Type 0) (n : ℕ) (lo was is : List ℕ) (answer : Option (List ℕ)) (moved : Bool) : Type 0 where
  pub same : length is ≡ length lo
  pub found : H → answer ≡ Some is
  pub higher : Higher n is
  pub lowered : Lowered 0 lo is
  pub fell : Fell moved was is

module _ (a : Algebra) (xs : List Row) (high : Row) (lo : List ℕ) where
  pub lower_from_none : (i k : ℕ) (hi : List ℕ) → k ≡ i + 1 → lower a xs high lo hi (i + 1) ≡ None → lower_from a xs high lo k hi ≡ None
  lower_from_none i zero hi h e = absurd (omega arith)
  lower_from_none i (suc k) hi h e =
      let same : suc k ≡ i + 1 = h in
      ap (λ (o : Option ℕ). elim o [ None ↦ None | Some v ↦ lower_from a xs high lo k (set hi k v) ]) (ap (lower a xs high lo hi) same ∙ e)

  pub lower_from_some : (i k : ℕ) (hi : List ℕ) (v : ℕ) → k ≡ i + 1 → lower a xs high lo hi (i + 1) ≡ Some v → lower_from a xs high lo k hi ≡ lower_from a xs high lo i (set hi i v)
  lower_from_some i zero hi v h e = absurd (omega arith)
  lower_from_some i (suc k) hi v h e =
      let same : k ≡ i = omega arith in
      ap (λ (o : Option ℕ). elim o [ None ↦ None | Some w ↦ lower_from a xs high lo k (set hi k w) ]) (ap (lower a xs high lo hi) h ∙ e)
      ∙ ap (λ q. lower_from a xs high lo q (set hi q v)) same

module _ (hi : List ℕ) (i v : ℕ) (within : i < length hi) where
  pub higher-set : (n : ℕ) → 1 ≤ v → v + length hi ≤ n + i + 1 → Higher n hi → Higher n (set hi i v)
  higher-set n h l top =
      let len = length-set hi i v in
      record {
        least = λ j k. set_each hi i v within (λ q w. 1 ≤ w) j (λ e. h) (λ ne. top.least j (omega (arith, len)));
        most = λ j k. set_each hi i v within (λ q w. w + length (set hi i v) ≤ n + q + 1) j (λ e. omega (arith, len)) (λ ne. omega (arith, len, top.most j (omega (arith, len))));
      }

  pub lowered-set : (lo : List ℕ) → get_or lo i 0 ≤ v → (i + 1 < length hi → v < get_or hi (i + 1) 0) → Lowered (i + 1) lo hi → Lowered i lo (set hi i v)
  lowered-set lo h l s =
      let len = length-set hi i v in
      record {
        above = λ j k b. set_each hi i v within (λ q w. get_or lo q 0 ≤ w) j (λ e. h) (λ ne. s.above j (omega arith) (omega (arith, len)));
        rising = λ j k b.
            let old : get_or (set hi i v) (j + 1) 0 ≡ get_or hi (j + 1) 0 = get_or-set_other hi i (j + 1) v 0 (λ e. omega arith) in
            let step : get_or (set hi i v) j 0 < get_or hi (j + 1) 0 =
            set_each hi i v within (λ q w. w < get_or hi (q + 1) 0) j (λ e. l (omega (arith, len))) (λ ne. s.rising j (omega arith) (omega (arith, len))) in
            omega (arith, old, step);
      }

  sum-set : sum (set hi i v) + get_or hi i 0 ≡ sum hi + v
  sum-set = sum_by-set (λ x. x) hi i v 0 within

  down-set : (was : List ℕ) → v ≤ get_or hi i 0 → Above hi was → Above (set hi i v) was
  down-set was h down j = set_each hi i v within (λ q w. w ≤ get_or was q 0) j (λ e. omega (arith, down i)) (λ ne. down j)

  fell_go : (was : List ℕ) (b : Bool) → eqb v (get_or hi i 0) ≡ b → v ≤ get_or hi i 0 → Fell false was hi → Fell (not b) was (set hi i v)
  fell_go was true e h r =
      let same : v ≡ get_or hi i 0 = eqb-true v (get_or hi i 0) e in
      record { still = λ _. ap (set hi i) same ∙ set-get_or hi i 0 ∙ r.still refl; fell = omega (arith, sum-set, r.fell); down = down-set was h r.down }
  fell_go was false e h r =
      let other : v ≡ get_or hi i 0 → ⊥ = eqb-false v (get_or hi i 0) e in
      record { still = λ t. absurd (true≢false t); fell = omega (arith, sum-set, r.fell, other); down = down-set was h r.down }

  -- a place took v in the place of the old one
  pub fell-set : (moved : Bool) (was : List ℕ) (new old : ℕ) → new ≡ v → old ≡ get_or hi i 0 → v ≤ get_or hi i 0 → Fell moved was hi → Fell (moved || not (eqb new old)) was (set hi i v)
  fell-set true was new old e f h r = record { still = λ t. absurd (true≢false t); fell = omega (arith, sum-set, r.fell); down = down-set was h r.down }
  fell-set false was new old e f h r = fell_go was (eqb new old) (ap (λ x. eqb x (get_or hi i 0)) (sym e) ∙ ap (eqb new) (sym f)) h r

-- the places that held the position after, hold the one before it at the place before
pub back_next : {M : Type 0} (a : Algebra) (row : M → Row) (span : M → ℕ) (t : Totals M) (lo hi : List ℕ) (i v e : ℕ) (x : M) → i < length hi → 1 ≤ v → 0 < i → Back a row span t lo i v e x → Back a row span t lo (i - 1) (get_or (set hi i v) (i - 1 + 1) 0 - 1) e x
back_next a row span t lo hi i v e x within some more b =
    let next : i - 1 + 1 ≡ i = omega arith in
    let here : get_or (set hi i v) (i - 1 + 1) 0 ≡ v = ap (λ q. get_or (set hi i v) q 0) next ∙ set_here hi i v within in
    record { past = omega (arith, b.past); upto = b.upto; stands = b.stands; held = λ j h k. omega (arith, b.held j h k, b.past, here) }

-- all positions are lowered
pub sunk_all : (a : Algebra) (xs : List Row) (high : Row) (H : Type 0) (n : ℕ) (lo was is : List ℕ) (i : ℕ) (moved : Bool) → i ≡ 0 → length is ≡ length lo → Higher n is → Lowered i lo is → Fell moved was is → (H → lower_from a xs high lo (length lo) was ≡ lower_from a xs high lo i is) → Sunk H n lo was is (lower_from a xs high lo (length lo) was) moved
sunk_all a xs high H n lo was is i moved end same high_places lowered fell found =
    record {
      same = same;
      found = λ held. found held ∙ ap (λ k. lower_from a xs high lo k is) end;
      higher = high_places;
      lowered = subst (λ k. Lowered k lo is) end lowered;
      fell = fell;
    }
