-- The definitions of a search come to the same as their second form, whose positions count from 0 and push their
-- neighbours along; so what is proved of that form holds of every trace.
use Rattle.std.proofs.Common.{◌≡◌, ℕ, zero, suc, ◌+◌, ◌-◌, ◌*◌, ◌<◌, ◌≤◌, min, max, Bool, cond, ◌&&◌, eqb, ltb, List, [], ◌∷◌, ◌++◌, map, length, get_or, set, Some, None, sum, Option, option_and_then, sym, refl, ap, ◌∙◌, ap₂, add-one, arith}
use mathlib.Core.Path.{fun_ext}
use Rattle.std.specs.List.{range_with_len, flat_map}
use Rattle.std.proofs.lemmas.List.{append_assoc, get_or_at, length_push, length-set}
use Rattle.std.proofs.lemmas.List.Sums.{sum_by-cons}
use Rattle.std.proofs.lemmas.Bool.Decides.{nat_tests}
use Rattle.measure.specs.Algebra.{Algebra, Row, Laws, Own}
use Rattle.sets.specs.Sets.{Rows, total, sets, solutions}
use Rattle.sets.specs.Spaces
use Rattle.sets.specs.Spaces.{Space, space, same}
use Rattle.sets.specs.Trace
use Rattle.sets.specs.Trace.{somes}
use Rattle.sets.proofs.Forms.{at, above, lifted, topped, child, choices, count_from, count_down, least, greatest, sweep, widths, open_at, split, examined, raise, lower, pass, squeeze, squeezed, explore, trace}
use Rattle.sets.proofs.Vectors.{Below, Rising, rising_weaker, rising_at, below_length, above_same}
use Rattle.sets.proofs.Choices.{Least, least_is, counting_is}
use Rattle.sets.proofs.Squeeze.{Valid, Tight, Solves, raises_tight, pass_tight, squeeze_tight}
use Rattle.sets.proofs.Opens.{Opens, open_is}
use Rattle.sets.proofs.Trace.{child_valid, joined_values, start_valid, trace_finds, trace_counts}
use Rattle.sets.proofs.Steps.{after, before, raise_at, lower_at, raise_sweeps, lower_sweeps, topped-settled}

-- a list made by index
each_with : (ℕ → ℕ → ℕ) → ℕ → List ℕ → List ℕ
each_with g k [] = []
each_with g k (x ∷ s) = g k x ∷ each_with g (k + 1) s

-- a list made by looking its parts up by index is made from them in turn
by_index : (g : ℕ → ℕ → ℕ) (k : ℕ) (p s : List ℕ) → length p + 1 ≡ k → map (λ j. g j (get_or (p ++ s) (j - 1) 0)) (range_with_len k (length s)) ≡ each_with g k s
unfolding each_with
by_index g k p [] e = refl
by_index g k p (x ∷ s) e =
    let here : get_or (p ++ x ∷ s) (k - 1) 0 ≡ x = get_or_at p x s 0 (k - 1) (omega arith) in
    let rest : map (λ j. g j (get_or ((p ++ x ∷ []) ++ s) (j - 1) 0)) (range_with_len (k + 1) (length s)) ≡ each_with g (k + 1) s = by_index g (k + 1) (p ++ x ∷ []) s (omega (arith, length_push p x)) in
    ap₂ (λ z zs. z ∷ zs) (ap (g k) here) (ap (λ t. map (λ j. g j (get_or t (j - 1) 0)) (range_with_len (k + 1) (length s))) (sym (append_assoc p (x ∷ []) s)) ∙ rest)

each_same : (g h : ℕ → ℕ → ℕ) (k : ℕ) (s : List ℕ) → ((j x : ℕ) → k ≤ j → g j x ≡ h j x) → each_with g k s ≡ each_with h k s
unfolding each_with
each_same g h k [] f = refl
each_same g h k (x ∷ s) f = cc (f k x (omega arith), each_same g h (k + 1) s (λ j y l. f j y (omega arith)))

each_id : (k : ℕ) (s : List ℕ) → each_with (λ j x. x) k s ≡ s
unfolding each_with
each_id k [] = refl
each_id k (x ∷ s) = cc (each_id (k + 1) s)

-- the place of position j in the highest set with position i at v, x being its highest place
raised_one : ℕ → ℕ → ℕ → ℕ → ℕ
raised_one i v j x = cond (ltb j i) (min (v - (i - j)) x) (cond (eqb j i) v x)

raised_each : (i v k d : ℕ) (s : List ℕ) → k + d ≡ i → each_with (raised_one i v) k s ≡ topped s d v
unfolding each_with raised_one
raised_each i v k d [] e = refl
raised_each i v k zero (x ∷ s) e =
    let past : each_with (raised_one i v) (k + 1) s ≡ s = each_same (raised_one i v) (λ j y. y) (k + 1) s (λ j y l. grind (arith, nat_tests)) ∙ each_id (k + 1) s in
    grind (arith, nat_tests, past)
raised_each i v k (suc d) (x ∷ s) e = grind (arith, nat_tests, raised_each i v (k + 1) d s (omega arith))

-- the place of position j in the lowest set with position i at v, x being its lowest place
lowered_one : ℕ → ℕ → ℕ → ℕ → ℕ
lowered_one i v j x = cond (ltb j i) x (cond (eqb j i) v (max (v + (j - i)) x))

above_loose : (u x : ℕ) (s : List ℕ) → Rising x s → above (suc u) s ≡ above (max (suc u) x) s
above_loose u x s r = grind (arith, above_same (suc u) s, rising_weaker x (suc u) s, above_same x s r)

lowered_past : (i v k u b : ℕ) (s : List ℕ) → i < k → v + (k - i) ≡ suc u → Rising b s → each_with (lowered_one i v) k s ≡ above u s
unfolding each_with lowered_one
lowered_past i v k u b [] l e r = refl
lowered_past i v k u b (x ∷ s) l e r = grind (arith, nat_tests, lowered_past i v (k + 1) (suc u) x s (omega arith) (omega arith) r.1, above_loose u x s r.1)

lowered_each : (i v k d b : ℕ) (s : List ℕ) → k + d ≡ i → Rising b s → each_with (lowered_one i v) k s ≡ lifted s d v
unfolding each_with lowered_one
lowered_each i v k d b [] e r = refl
lowered_each i v k zero b (x ∷ s) e r = grind (arith, nat_tests, lowered_past i v (k + 1) v x s (omega arith) (omega arith) r.1)
lowered_each i v k (suc d) b (x ∷ s) e r = grind (arith, nat_tests, lowered_each i v (k + 1) d x s (omega arith) r.1)

least_same : (f : ℕ → Bool) (v n : ℕ) → Spaces.least f v n ≡ least f v n
least_same f v zero = refl
least_same f v (suc n) = ap (cond (f v) (Some v)) (ap (λ w. Spaces.least f w n) (add-one v) ∙ least_same f (suc v) n)

greatest_same : (f : ℕ → Bool) (v l n : ℕ) → (0 < n → l + n ≡ suc v) → Spaces.greatest f v n ≡ greatest f l n
greatest_same f v l zero h = refl
greatest_same f v l (suc n) h =
    let e : v ≡ l + n = omega (arith, h (omega arith)) in
    ap₂ (λ w q. cond (f w) (Some w) q) e (greatest_same f (v - 1) l n (λ k. omega arith))

before_is : (hi : List ℕ) (i : ℕ) → i < length hi → cond (ltb (suc i) (length hi)) (min (get_or hi i 0) (get_or hi (suc i) 0 - 1)) (get_or hi i 0) ≡ before hi i
before_is [] i l = absurd (omega arith)
before_is (h ∷ []) zero l = refl
before_is (h ∷ []) (suc i) l = absurd (omega arith)
before_is (h ∷ k ∷ hi) zero l = grind (arith, nat_tests)
before_is (h ∷ k ∷ hi) (suc i) l = grind (arith, nat_tests, before_is (k ∷ hi) i (omega arith))

-- `concat_map` is the library's `flat_map`
concat_is : {A B : Type 0} (f : A → List B) (ys : List A) → Trace.concat_map f ys ≡ flat_map f ys
concat_is f [] = refl
concat_is f (y ∷ ys) = ap (λ t. f y ++ t) (concat_is f ys)

-- of a space, the widths added up are the difference of the sums
widths_add : (lo hi : List ℕ) → Below lo hi → sum lo + widths lo hi ≡ sum hi
widths_add [] [] b = refl
widths_add [] (h ∷ hi) b = absurd b
widths_add (l ∷ lo) [] b = absurd b
widths_add (l ∷ lo) (h ∷ hi) b = omega (arith, sum_by-cons (λ x. x) l lo, sum_by-cons (λ x. x) h hi, widths_add lo hi b.1, b.0)

widths_same : (lo hi : List ℕ) → Below lo hi → Spaces.widths lo hi ≡ widths lo hi
widths_same lo hi b = omega (arith, widths_add lo hi b)

open_shift : (i : ℕ) (q : Option ℕ) → option_and_then (λ j. Some (i + 1 + j)) q ≡ option_and_then (λ j. Some (i + j)) (option_and_then (λ j. Some (suc j)) q)
open_shift i None = refl
open_shift i (Some j) = ap Some (let z : i + 1 + j ≡ i + suc j = omega arith in z)

open_same : (i : ℕ) (lo hi : List ℕ) → Spaces.open_at i lo hi ≡ option_and_then (λ j. Some (i + j)) (open_at lo hi)
open_same i [] hi = refl
open_same i (l ∷ lo) [] = refl
open_same i (l ∷ lo) (h ∷ hi) = grind (arith, open_same (i + 1) lo hi, open_shift i (open_at lo hi))

raised_same : (hi : List ℕ) (i v : ℕ) → Spaces.raised hi (suc i) v ≡ topped hi i v
unfolding raised_one
raised_same hi i v = by_index (raised_one (suc i) v) 1 [] hi refl ∙ raised_each (suc i) v 1 i hi (omega arith)

lowered_same : (b : ℕ) (lo : List ℕ) (i v : ℕ) → Rising b lo → Spaces.lowered lo (suc i) v ≡ lifted lo i v
unfolding lowered_one
lowered_same b lo i v r = by_index (lowered_one (suc i) v) 1 [] lo refl ∙ lowered_each (suc i) v 1 i b lo (omega arith) r

-- the places that position suc i and its neighbour have
at_same : (s : List ℕ) (i : ℕ) → Spaces.at s (suc i) ≡ at s i
at_same s i = ap (λ k. get_or s k 0) (let z : suc i - 1 ≡ i = omega arith in z)

from_same : (lo : List ℕ) (i : ℕ) → 1 ≤ at lo 0 → Spaces.from lo (suc i) ≡ max (at lo i) (after lo i)
from_same lo zero h = omega arith
from_same lo (suc i) h = grind (arith, nat_tests)

upto_same : (hi : List ℕ) (i : ℕ) → i < length hi → Spaces.upto hi (suc i) ≡ before hi i
upto_same hi i l =
    ap₂ (λ j k. cond (ltb (suc i) (length hi)) (min (get_or hi j 0) (get_or hi k 0 - 1)) (get_or hi j 0)) (let z : suc i - 1 ≡ i = omega arith in z) (let z : suc i + 1 - 1 ≡ suc i = omega arith in z)
    ∙ before_is hi i l

module _ (a : Algebra) (xs : List Row) (low high : Row) where
  raise_same : (lo hi : List ℕ) (i : ℕ) → 1 ≤ at lo 0 →
      Spaces.raise a xs low lo hi (suc i) ≡ least (λ v. a.not_above low (total a xs (topped hi i v))) (max (at lo i) (after lo i)) (suc (at hi i) - max (at lo i) (after lo i))
  raise_same lo hi i h =
      least_same (Spaces.reaches a xs low hi (suc i)) (Spaces.from lo (suc i)) (Spaces.at hi (suc i) + 1 - Spaces.from lo (suc i))
      ∙ ap (λ g. least g (Spaces.from lo (suc i)) (Spaces.at hi (suc i) + 1 - Spaces.from lo (suc i))) (fun_ext (λ v. ap (λ t. a.not_above low (total a xs t)) (raised_same hi i v)))
      ∙ ap₂ (λ w n. least f w n) up (ap₂ (λ k w. k + 1 - w) (at_same hi i) up ∙ (let z : at hi i + 1 - u ≡ suc (at hi i) - u = omega arith in z))
    where
      f : ℕ → Bool
      f v = a.not_above low (total a xs (topped hi i v))

      u : ℕ
      u = max (at lo i) (after lo i)

      up : Spaces.from lo (suc i) ≡ u
      up = from_same lo i h

  lower_same : (lo hi : List ℕ) (i b : ℕ) → Rising b lo → i < length hi →
      Spaces.lower a xs high lo hi (suc i) ≡ greatest (λ v. a.not_above (total a xs (lifted lo i v)) high) (at lo i) (suc (before hi i) - at lo i)
  lower_same lo hi i b r l =
      greatest_same (Spaces.stays a xs high lo (suc i)) w (at lo i) (w + 1 - Spaces.at lo (suc i)) (λ k. omega (arith, at_same lo i))
      ∙ ap (λ g. greatest g (at lo i) (w + 1 - Spaces.at lo (suc i))) (fun_ext (λ v. ap (λ t. a.not_above (total a xs t) high) (lowered_same b lo i v r)))
      ∙ ap (greatest f (at lo i)) (ap₂ (λ w k. w + 1 - k) (upto_same hi i l) (at_same lo i) ∙ (let z : before hi i + 1 - at lo i ≡ suc (before hi i) - at lo i = omega arith in z))
    where
      f : ℕ → Bool
      f v = a.not_above (total a xs (lifted lo i v)) high

      w : ℕ
      w = Spaces.upto hi (suc i)

  after_pos : (lo : List ℕ) (i : ℕ) → 1 ≤ after lo i
  after_pos lo zero = omega arith
  after_pos lo (suc i) = omega arith

  set_first : (lo : List ℕ) (k v : ℕ) → 1 ≤ at lo 0 → 1 ≤ v → 1 ≤ at (set lo k v) 0
  set_first [] k v h l = h
  set_first (x ∷ lo) zero v h l = l
  set_first (x ∷ lo) (suc k) v h l = h

  -- a list of lowest places as a space
  abbrev with_hi : List ℕ → Option (List ℕ) → Option Space
  with_hi hi q = option_and_then (λ l. Some (space l hi)) q

  -- a list of highest places as a space
  abbrev with_lo : List ℕ → Option (List ℕ) → Option Space
  with_lo lo q = option_and_then (λ h. Some (space lo h)) q

  -- raising from position j on
  raises_same : (n k j : ℕ) (lo hi : List ℕ) → j ≡ suc k → 1 ≤ at lo 0 → with_hi hi (Spaces.raise_from a xs low hi j n lo) ≡ sweep (raise_at a xs low high) (count_from k n) (space lo hi)
  raises_same zero k j lo hi e h = refl
  raises_same (suc n) k j lo hi e h =
      ap (λ i. with_hi hi (Spaces.raise_from a xs low hi i (suc n) lo)) e
      ∙ ap (λ q. with_hi hi (elim q as (λ _. Option (List ℕ)) [ None ↦ None | Some v ↦ Spaces.raise_from a xs low hi (suc k + 1) n (set lo (suc k - 1) v) ])) (raise_same lo hi k h)
      ∙ go (least f u (suc (at hi k) - u)) (least_is f u (suc (at hi k) - u)) (λ v l. raises_same n (suc k) (suc k + 1) (set lo k v) hi (omega arith) (set_first lo k v h l))
    where
      f : ℕ → Bool
      f v = a.not_above low (total a xs (topped hi k v))

      u : ℕ
      u = max (at lo k) (after lo k)

      go : (q : Option ℕ) → Least f u (suc (at hi k) - u) q → ((v : ℕ) → 1 ≤ v → with_hi hi (Spaces.raise_from a xs low hi (suc k + 1) n (set lo k v)) ≡ sweep (raise_at a xs low high) (count_from (suc k) n) (space (set lo k v) hi)) →
          with_hi hi (elim q as (λ _. Option (List ℕ)) [ None ↦ None | Some v ↦ Spaces.raise_from a xs low hi (suc k + 1) n (set lo (suc k - 1) v) ])
          ≡ option_and_then (sweep (raise_at a xs low high) (count_from (suc k) n)) (option_and_then (λ v. Some (space (set lo k v) hi)) q)
      go None h ih = refl
      go (Some v) h ih = ap (λ i. with_hi hi (Spaces.raise_from a xs low hi (suc k + 1) n (set lo i v))) (let z : suc k - 1 ≡ k = omega arith in z) ∙ ih v (omega (arith, h.0, after_pos lo k))

  -- lowering from position n down
  lowers_same : (n b : ℕ) (lo hi : List ℕ) → Rising b lo → n ≤ length hi → with_lo lo (Spaces.lower_from a xs high lo n hi) ≡ sweep (lower_at a xs low high) (count_down n) (space lo hi)
  lowers_same zero b lo hi r l = refl
  lowers_same (suc n) b lo hi r l =
      ap (λ q. with_lo lo (elim q as (λ _. Option (List ℕ)) [ None ↦ None | Some v ↦ Spaces.lower_from a xs high lo n (set hi n v) ])) (lower_same lo hi n b r (omega arith))
      ∙ go (greatest (λ v. a.not_above (total a xs (lifted lo n v)) high) (at lo n) (suc (before hi n) - at lo n)) (λ v. lowers_same n b lo (set hi n v) r (omega (arith, length-set hi n v)))
    where
      go : (q : Option ℕ) → ((v : ℕ) → with_lo lo (Spaces.lower_from a xs high lo n (set hi n v)) ≡ sweep (lower_at a xs low high) (count_down n) (space lo (set hi n v))) →
          with_lo lo (elim q as (λ _. Option (List ℕ)) [ None ↦ None | Some v ↦ Spaces.lower_from a xs high lo n (set hi n v) ])
          ≡ option_and_then (sweep (lower_at a xs low high) (count_down n)) (option_and_then (λ v. Some (space lo (set hi n v))) q)
      go None ih = refl
      go (Some v) ih = ih v

-- the lowest place of position j in the child with position i at v, x being its lowest place before
child_one : ℕ → ℕ → ℕ → ℕ → ℕ
child_one i v j x = cond (ltb j i) x (max x (v + (j - i)))

child_each : (i v k d b : ℕ) (s : List ℕ) → k + d ≡ i → Rising b s → at s d ≤ v → each_with (child_one i v) k s ≡ lifted s d v
unfolding each_with child_one lowered_one
child_each i v k d b [] e r h = refl
child_each i v k zero b (x ∷ s) e r h =
    let past : each_with (child_one i v) (k + 1) s ≡ above v s = each_same (child_one i v) (lowered_one i v) (k + 1) s (λ j y l. grind (arith, nat_tests)) ∙ lowered_past i v (k + 1) v x s (omega arith) (omega arith) r.1 in
    grind (arith, nat_tests, past)
child_each i v k (suc d) b (x ∷ s) e r h = grind (arith, nat_tests, child_each i v (k + 1) d x s (omega arith) r.1 h)

module _ (a : Algebra) (laws : Laws a) (xs : List Row) (rows : Rows a xs) (low high : Row) (low_own : Own a low) (high_own : Own a high) (m : ℕ) (pos : 0 < m) where
  -- a child at the first open position
  pub child_same : (t : Space) (i v : ℕ) → Valid (length xs) m t → Opens t.lo t.hi (Some i) → at t.lo i ≤ v → Spaces.child t (1 + i) v ≡ child t i v
  unfolding child_one
  child_same t i v w o h =
      ap (λ k. Spaces.child t k v) (let z : 1 + i ≡ suc i = omega arith in z)
      ∙ ap₂ space (by_index (child_one (suc i) v) 1 [] t.lo refl ∙ child_each (suc i) v 1 i 0 t.lo (omega arith) w.rising_lo h)
      (ap (λ k. set t.hi k v) (let z : suc i - 1 ≡ i = omega arith in z) ∙ sym (topped-settled 0 t.lo t.hi i v w.rising_lo w.between o.0 o.2 h))

  -- lowers all positions of a space
  abbrev lowered_all : Space → Option Space
  lowered_all t = with_lo a xs low high t.lo (Spaces.lower_from a xs high t.lo (length t.lo) t.hi)

  pub pass_same : (s : Space) → Valid (length xs) m s → Spaces.pass a xs low high s ≡ pass a xs low high s
  pass_same s v =
      parts (Spaces.raise_from a xs low s.hi 1 (length s.hi) s.lo)
      ∙ ap (λ n. option_and_then lowered_all (with_hi a xs low high s.hi (Spaces.raise_from a xs low s.hi 1 n s.lo))) (sym (below_length s.lo s.hi v.between))
      ∙ ap (λ q. option_and_then lowered_all q) (raises_same a xs low high (length s.lo) 0 1 s.lo s.hi refl first ∙ raise_sweeps a xs low high m s v)
      ∙ go (sweep (raise a xs low high) (count_from 0 (length s.lo)) s) (raises_tight a laws xs rows low high low_own high_own m s (length s.lo) v.size v)
    where
      first : 1 ≤ at s.lo 0
      first = let l : 0 < length s.lo = omega (arith, v.size) in omega (arith, rising_at 0 s.lo 0 l v.rising_lo)

      joins : (l : List ℕ) (q : Option (List ℕ)) → (elim q as (λ _. Option Space) [ None ↦ None | Some h ↦ Some (space l h) ]) ≡ with_lo a xs low high l q
      joins l None = refl
      joins l (Some h) = refl

      parts : (q : Option (List ℕ)) →
          (elim q as (λ _. Option Space) [ None ↦ None | Some l ↦ elim (Spaces.lower_from a xs high l (length l) s.hi) as (λ _. Option Space) [ None ↦ None | Some h ↦ Some (space l h) ] ])
          ≡ option_and_then lowered_all (with_hi a xs low high s.hi q)
      parts None = refl
      parts (Some l) = joins l (Spaces.lower_from a xs high l (length l) s.hi)

      go : (q : Option Space) → Tight (Solves a xs low high) (length xs) m s q → option_and_then lowered_all q ≡ option_and_then (sweep (lower a xs low high) (count_down (length s.lo))) q
      go None h = refl
      go (Some t) h =
          lowers_same a xs low high (length t.lo) 0 t.lo t.hi h.valid.rising_lo (omega (arith, below_length t.lo t.hi h.valid.between))
          ∙ ap (λ n. sweep (lower_at a xs low high) (count_down n) t) (h.valid.size ∙ sym v.size)
          ∙ lower_sweeps a xs low high m t (length s.lo) v.size h.valid

  pub squeeze_same : (n : ℕ) (s : Space) → Valid (length xs) m s → Spaces.squeeze a xs low high n s ≡ squeeze a xs low high n s
  squeeze_same zero s v = pass_same s v
  squeeze_same (suc n) s v =
      ap (λ q. elim q as (λ _. Option Space) [ None ↦ None | Some t ↦ cond (same s.lo t.lo && same s.hi t.hi) (Some t) (Spaces.squeeze a xs low high n t) ]) (pass_same s v)
      ∙ go (pass a xs low high s) (pass_tight a laws xs rows low high low_own high_own m s v) (squeeze_same n)
    where
      go : (q : Option Space) → Tight (Solves a xs low high) (length xs) m s q → ((t : Space) → Valid (length xs) m t → Spaces.squeeze a xs low high n t ≡ squeeze a xs low high n t) →
          (elim q as (λ _. Option Space) [ None ↦ None | Some t ↦ cond (same s.lo t.lo && same s.hi t.hi) (Some t) (Spaces.squeeze a xs low high n t) ])
          ≡ option_and_then (λ t. cond (same s.lo t.lo && same s.hi t.hi) (Some t) (squeeze a xs low high n t)) q
      go None h ih = refl
      go (Some t) h ih = ap (cond (same s.lo t.lo && same s.hi t.hi) (Some t)) (ih t h.valid)

  -- squeezing with the widths for a bound on the passes
  pub squeezed_same : (s : Space) → Valid (length xs) m s → Spaces.squeeze a xs low high (Spaces.widths s.lo s.hi) s ≡ squeezed a xs low high s
  squeezed_same s v = ap (λ n. Spaces.squeeze a xs low high n s) (widths_same s.lo s.hi v.between) ∙ squeeze_same (widths s.lo s.hi) s v

  -- the items of a squeezed space, given its first open position, which counts from 1
  abbrev split_from_1 : ℕ → Space → Option ℕ → Trace.Trace
  split_from_1 d t q = elim q as (λ _. Trace.Trace) [ None ↦ Some t.lo ∷ [] | Some i ↦ None ∷ Trace.children (Trace.explore a xs low high d) t i (Spaces.at t.lo i) ]

  -- the items of a space, given what squeezing leaves of it
  abbrev examined_from_1 : ℕ → Option Space → Trace.Trace
  examined_from_1 d q = elim q as (λ _. Trace.Trace) [ None ↦ None ∷ [] | Some t ↦ split_from_1 d t (Spaces.open_at 1 t.lo t.hi) ]

  pub explore_same : (d : ℕ) (s : Space) → Valid (length xs) m s → Trace.explore a xs low high d s ≡ explore a xs low high d s
  explore_same zero s v = refl
  explore_same (suc d) s v =
      ap (examined_from_1 d) (squeezed_same s v)
      ∙ go (squeezed a xs low high s) (squeeze_tight a laws xs rows low high low_own high_own m (widths s.lo s.hi) s v) (explore_same d)
    where
      go : (q : Option Space) → Tight (Solves a xs low high) (length xs) m s q → ((t : Space) → Valid (length xs) m t → Trace.explore a xs low high d t ≡ explore a xs low high d t) → examined_from_1 d q ≡ examined (explore a xs low high d) q
      go None h ih = refl
      go (Some t) h ih = ap (split_from_1 d t) (open_same 1 t.lo t.hi) ∙ part (open_at t.lo t.hi) (open_is t.lo t.hi h.valid.between)
        where
          part : (q : Option ℕ) → Opens t.lo t.hi q → split_from_1 d t (option_and_then (λ j. Some (1 + j)) q) ≡ split (explore a xs low high d) t q
          part None o = refl
          part (Some i) o =
              let il : i < m = omega (arith, o.0, h.valid.size) in
              let k : 1 + i - 1 ≡ i = omega arith in
              let f : ℕ → Trace.Trace = λ v. Trace.explore a xs low high d (Spaces.child t (1 + i) v) in
              let vs : List ℕ = count_from (at t.lo i) (choices t i) in
              ap (λ ys. None ∷ ys)
              (concat_is f (range_with_len (Spaces.at t.lo (1 + i)) (Spaces.at t.hi (1 + i) + 1 - Spaces.at t.lo (1 + i)))
              ∙ ap (flat_map f) (ap (λ j. range_with_len (get_or t.lo j 0) (get_or t.hi j 0 + 1 - get_or t.lo j 0)) k ∙ counting_is (at t.lo i) (at t.hi i + 1 - at t.lo i) ∙ ap (count_from (at t.lo i)) (let z : at t.hi i + 1 - at t.lo i ≡ suc (at t.hi i) - at t.lo i = omega arith in z))
              ∙ joined_values t i f (λ v. explore a xs low high d (child t i v)) o.1
              (λ v l k. ap (Trace.explore a xs low high d) (child_same t i v h.valid o l) ∙ ih (child t i v) (child_valid (length xs) m t i v h.valid il l k)))

  -- the two forms have one trace
  pub trace_same : m ≤ length xs → Trace.trace a xs low high m ≡ trace a xs low high m
  trace_same l =
      ap₂ (λ d s. Trace.explore a xs low high d s) (add-one m) (ap₂ space (counting_is 1 m) (ap (λ k. range_with_len k m) (add-one (length xs - m)) ∙ counting_is (suc (length xs - m)) m))
      ∙ explore_same (suc m) (space (count_from 1 m) (count_from (suc (length xs - m)) m)) (start_valid a laws xs rows low high low_own high_own m l)

  -- the sets of a trace are the solutions, each once and in order
  pub finds : m ≤ length xs → somes (Trace.trace a xs low high m) ≡ solutions a xs m low high
  finds l = ap somes (trace_same l) ∙ trace_finds a laws xs rows low high low_own high_own m pos l

  -- a trace is shorter than twice the number of sets
  pub counts : m ≤ length xs → length (Trace.trace a xs low high m) ≤ 2 * length (sets 1 (length xs) m) - 1
  counts l = omega (arith, ap length (trace_same l), trace_counts a laws xs rows low high low_own high_own m l)
