-- The part of a pass that raises: one position more, and all of them.
use Rattle.std.proofs.Common.{◌≡◌, ℕ, zero, suc, ◌+◌, ◌-◌, ◌<◌, ◌≤◌, Bool, true, false, cond, not, ◌||◌, eqb, List, length, get_or, set, Some, None, sum, Option, sym, refl, ap, ◌∙◌, subst, ⊎_elim, arith}
use Rattle.std.proofs.lemmas.List.{length-set, get_or-set_same, get_or-set_other, set-get_or}
use Rattle.std.proofs.lemmas.List.Sums.{sum_by-set}
use Rattle.std.proofs.lemmas.Bool.{true≢false, cases_eq, eqb-true, eqb-false}
use Rattle.measure.specs.Algebra.{Algebra, Row}
use Rattle.sets.specs.Spaces.{raise, raise_from}
use Rattle.squeezing.specs.declared.table.Totals.{Totals}
use Rattle.squeezing.specs.Standing.{Front, Lower, Above}

-- the lower places before index i are raised: each at most its upper place, and rising
pub record Settled (i : ℕ) (lo hi : List ℕ) : Type 0 where
  pub below : (j : ℕ) → j < i → get_or lo j 0 ≤ get_or hi j 0
  pub rising : (j : ℕ) → j + 1 < i → get_or lo j 0 < get_or lo (j + 1) 0

-- whether places changed from `was` to `is`, of which none fell
pub record Rose (moved : Bool) (was is : List ℕ) : Type 0 where
  pub still : moved ≡ false → is ≡ was
  pub rose : sum was + cond moved 1 0 ≤ sum is
  pub up : Above was is

-- all positions were raised: where H holds, the answer is found
pub record Swept (H : Type 0) (n : ℕ) (hi was is : List ℕ) (answer : Option (List ℕ)) (moved : Bool) : Type 0 where
  pub same : length is ≡ length hi
  pub found : H → answer ≡ Some is
  pub lower : Lower n is
  pub settled : Settled (length hi) is hi
  pub rose : Rose moved was is

module _ (a : Algebra) (xs : List Row) (low : Row) (hi : List ℕ) where
  pub raise_from_none : (i k : ℕ) (lo : List ℕ) → 0 < k → raise a xs low lo hi i ≡ None → raise_from a xs low hi i k lo ≡ None
  raise_from_none i zero lo h e = absurd (omega arith)
  raise_from_none i (suc k) lo h e = ap (λ (o : Option ℕ). elim o [ None ↦ None | Some v ↦ raise_from a xs low hi (i + 1) k (set lo (i - 1) v) ]) e

  pub raise_from_some : (i k j : ℕ) (lo : List ℕ) (v : ℕ) → k ≡ j + 1 → raise a xs low lo hi (i + 1) ≡ Some v → raise_from a xs low hi (i + 1) k lo ≡ raise_from a xs low hi (i + 1 + 1) j (set lo i v)
  raise_from_some i zero j lo v h e = absurd (omega arith)
  raise_from_some i (suc k) j lo v h e =
      let same : k ≡ j = omega arith in
      let next : i + 1 - 1 ≡ i = omega arith in
      ap (λ (o : Option ℕ). elim o [ None ↦ None | Some w ↦ raise_from a xs low hi (i + 1 + 1) k (set lo (i + 1 - 1) w) ]) e
      ∙ ap (λ q. raise_from a xs low hi (i + 1 + 1) q (set lo (i + 1 - 1) v)) same
      ∙ ap (λ q. raise_from a xs low hi (i + 1 + 1) j (set lo q v)) next

module _ (lo : List ℕ) (i v : ℕ) (within : i < length lo) where
  pub set_here : get_or (set lo i v) i 0 ≡ v
  set_here = get_or-set_same lo i v 0 within

  -- what holds of the old place elsewhere and of v at i holds of the new places
  pub set_each : (P : ℕ → ℕ → Type 0) (j : ℕ) → (j ≡ i → P i v) → ((j ≡ i → ⊥) → P j (get_or lo j 0)) → P j (get_or (set lo i v) j 0)
  set_each P j here other =
      ⊎_elim
      (λ e. subst (λ q. P q (get_or (set lo i v) q 0)) (sym e) (subst (λ w. P i w) (sym set_here) (here e)))
      (λ ne. subst (λ w. P j w) (sym (get_or-set_other lo i j v 0 ne)) (other ne))
      (cases_eq j i)

  pub lower-set : (n : ℕ) → i < v → v ≤ n → Lower n lo → Lower n (set lo i v)
  lower-set n h l low = record {
    least = λ j k. set_each (λ q w. q + 1 ≤ w) j (λ e. omega arith) (λ ne. low.least j (omega (arith, length-set lo i v)));
    most = λ j k. set_each (λ q w. w ≤ n) j (λ e. l) (λ ne. low.most j (omega (arith, length-set lo i v)));
  }

  pub settled-set : (hi : List ℕ) → v ≤ get_or hi i 0 → (0 < i → get_or lo (i - 1) 0 < v) → Settled i lo hi → Settled (i + 1) (set lo i v) hi
  settled-set hi h l s = record {
    below = λ j k. set_each (λ q w. w ≤ get_or hi q 0) j (λ e. h) (λ ne. s.below j (omega arith));
    rising = λ j k.
        let old : get_or (set lo i v) j 0 ≡ get_or lo j 0 = get_or-set_other lo i j v 0 (λ e. omega arith) in
        let step : get_or lo j 0 < get_or (set lo i v) (j + 1) 0 =
        set_each (λ q w. get_or lo j 0 < w) (j + 1) (λ e. (let p : i - 1 ≡ j = omega arith in omega (arith, l (omega arith), ap (λ q. get_or lo q 0) p))) (λ ne. s.rising j (omega arith)) in
        omega (arith, old, step);
  }

  sum-set : sum (set lo i v) + get_or lo i 0 ≡ sum lo + v
  sum-set = sum_by-set (λ x. x) lo i v 0 within

  up-set : (was : List ℕ) → get_or lo i 0 ≤ v → Above was lo → Above was (set lo i v)
  up-set was h up j = set_each (λ q w. get_or was q 0 ≤ w) j (λ e. omega (arith, up i)) (λ ne. up j)

  rose_go : (was : List ℕ) (b : Bool) → eqb v (get_or lo i 0) ≡ b → get_or lo i 0 ≤ v → Rose false was lo → Rose (not b) was (set lo i v)
  rose_go was true e h r =
      let same : v ≡ get_or lo i 0 = eqb-true v (get_or lo i 0) e in
      record {
        still = λ _. ap (set lo i) same ∙ set-get_or lo i 0 ∙ r.still refl;
        rose = omega (arith, sum-set, r.rose);
        up = up-set was h r.up;
      }
  rose_go was false e h r =
      let other : v ≡ get_or lo i 0 → ⊥ = eqb-false v (get_or lo i 0) e in
      record {
        still = λ t. absurd (true≢false t);
        rose = omega (arith, sum-set, r.rose, other);
        up = up-set was h r.up;
      }

  -- a place took v in the place of the old one
  pub rose-set : (moved : Bool) (was : List ℕ) (new old : ℕ) → new ≡ v → old ≡ get_or lo i 0 → get_or lo i 0 ≤ v → Rose moved was lo → Rose (moved || not (eqb new old)) was (set lo i v)
  rose-set true was new old e f h r = record { still = λ t. absurd (true≢false t); rose = omega (arith, sum-set, r.rose); up = up-set was h r.up }
  rose-set false was new old e f h r = rose_go was (eqb new old) (ap (λ x. eqb x (get_or lo i 0)) (sym e) ∙ ap (eqb new) (sym f)) h r

-- the places that held the position before, held this one at the place after
pub front_next : {M : Type 0} (a : Algebra) (row : M → Row) (span : M → ℕ) (t : Totals M) (hi lo : List ℕ) (i v s : ℕ) (x : M) → i < length lo → Front a row span t hi i v s x → Front a row span t hi (i + 1) (get_or (set lo i v) (i + 1 - 1) 0 + 1) s x
front_next a row span t hi lo i v s x within f =
    let next : i + 1 - 1 ≡ i = omega arith in
    let e : get_or (set lo i v) (i + 1 - 1) 0 ≡ v = ap (λ q. get_or (set lo i v) q 0) next ∙ set_here lo i v within in
    record { start = omega (arith, f.start); stands = f.stands; held = λ j h. omega (arith, f.held j h, f.start, e) }

-- all positions are raised
pub swept_all : (a : Algebra) (xs : List Row) (low : Row) (H : Type 0) (n : ℕ) (hi was is : List ℕ) (i : ℕ) (moved : Bool) → i ≡ length hi → length is ≡ length hi → Lower n is → Settled i is hi → Rose moved was is → (H → raise_from a xs low hi 1 (length hi) was ≡ raise_from a xs low hi (i + 1) (length hi - i) is) → Swept H n hi was is (raise_from a xs low hi 1 (length hi) was) moved
swept_all a xs low H n hi was is i moved end same low_places settled rose found =
    let none : length hi - i ≡ 0 = omega arith in
    record {
      same = same;
      found = λ held. found held ∙ ap (λ k. raise_from a xs low hi (i + 1) k is) none;
      lower = low_places;
      settled = subst (λ k. Settled k is hi) end settled;
      rose = rose;
    }
