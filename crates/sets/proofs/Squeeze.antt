-- Squeezing loses no set of the band, keeps a space a space, and ends where a settled space is in the band.
use Rattle.std.proofs.Common.{◌≡◌, ℕ, zero, suc, ◌+◌, ◌<◌, ◌≤◌, Bool, true, cond, ◌&&◌, List, [], ◌∷◌, length, Some, None, Option, option_and_then, sym, refl, ap, ◌∙◌, subst, inl, inr, arith}
use Rattle.std.specs.List.{AllByRecursion}
use Rattle.std.specs.Cmp.Lexicographic.{bytes_decides}
use Rattle.std.proofs.lemmas.Bool.{cond_both, cases_lt, both_ways, and_parts, and_from}
use Rattle.measure.specs.Algebra.{Algebra, Row, Laws, Own, NotAbove}
use Rattle.sets.specs.Sets.{Rows, total, in_band}
use Rattle.sets.specs.Spaces.{Space, same}
use Rattle.sets.proofs.Forms.{at, lifted, topped, count_from, count_down, least, greatest, widths, sweep, choices, raise, lower, pass, squeeze}
use Rattle.sets.proofs.Vectors.{Below, Rising, Upto, below_refl, below_trans, below_antisym, below_at, below_length, below_upto, rising_at, lifted-rising, lifted-least, lifted_more, lifted_same, at_lifted, topped-rising, topped_most, topped_less, topped_same, at_topped}
use Rattle.sets.proofs.Totals.{total-own, total-climbs}
use Rattle.sets.proofs.Choices.{Least, least_is, Greatest, greatest_is, count_from_below, count_down_below, widths_level}

-- a space of sets of m of n places
pub record Valid (n m : ℕ) (s : Space) : Type 0 where
  pub rising_lo : Rising 0 s.lo
  pub rising_hi : Rising 0 s.hi
  pub between : Below s.lo s.hi
  pub upto : Upto n s.hi
  pub size : length s.lo ≡ m

-- x lies between the two ends of the space
abbrev pub Inside : Space → List ℕ → Type 0
Inside s x = (Below s.lo x) × (Below x s.hi)

-- t is a space within s, with all that solves in s
pub record Tighter (S : List ℕ → Type 0) (n m : ℕ) (s t : Space) : Type 0 where
  pub valid : Valid n m t
  pub up : Below s.lo t.lo
  pub down : Below t.hi s.hi
  pub keeps : (x : List ℕ) → Rising 0 x → Inside s x → S x → Inside t x

-- what squeezing may leave of s: nothing, where s has no solution, or a space within s that has them all
abbrev pub Tight : (List ℕ → Type 0) → ℕ → ℕ → Space → Option Space → Type 0
Tight S n m s None = (x : List ℕ) → Rising 0 x → Inside s x → S x → ⊥
Tight S n m s (Some t) = Tighter S n m s t

pub space_same : (s t : Space) → s.lo ≡ t.lo → s.hi ≡ t.hi → s ≡ t
space_same s t p q = λ i. record { lo = p i; hi = q i }

module _ (S : List ℕ → Type 0) (n m : ℕ) where
  tighter_self : (s : Space) → Valid n m s → Tighter S n m s s
  tighter_self s v = record { valid = v; up = below_refl s.lo; down = below_refl s.hi; keeps = λ x r i z. i }

  tight_from : (s t : Space) (q : Option Space) → Tighter S n m s t → Tight S n m t q → Tight S n m s q
  tight_from s t None h k = λ x r i z. k x r (h.keeps x r i z) z
  tight_from s t (Some u) h k = record {
    valid = k.valid;
    up = below_trans s.lo t.lo u.lo h.up k.up;
    down = below_trans u.hi t.hi s.hi k.down h.down;
    keeps = λ x r i z. k.keeps x r (h.keeps x r i z) z;
  }

  tight_then : (s : Space) (q : Option Space) (f : Space → Option Space) → Tight S n m s q → ((t : Space) → Valid n m t → Tight S n m t (f t)) → Tight S n m s (option_and_then f q)
  tight_then s None f h k = h
  tight_then s (Some t) f h k = tight_from s t (f t) h (k t h.valid)

  tight_sweep : (step : Space → ℕ → Option Space) → ((s : Space) (i : ℕ) → Valid n m s → i < m → Tight S n m s (step s i)) → (is : List ℕ) → AllByRecursion (λ i. i < m) is → (s : Space) → Valid n m s → Tight S n m s (sweep step is s)
  tight_sweep step ok [] b s v = tighter_self s v
  tight_sweep step ok (i ∷ is) b s v = tight_then s (step s i) (sweep step is) (ok s i v b.0) (tight_sweep step ok is b.1)

  both_tighter : (s t : Space) → Tighter S n m s t → Tighter S n m t s → t ≡ s
  both_tighter s t h k = space_same t s (below_antisym t.lo s.lo k.up h.up) (below_antisym t.hi s.hi h.down k.down)

  -- where the second step comes back, neither moves
  then_fixed : (s : Space) (q : Option Space) (f : Space → Option Space) → Tight S n m s q → ((t : Space) → Valid n m t → Tight S n m t (f t)) → option_and_then f q ≡ Some s → (q ≡ Some s) × (f s ≡ Some s)
  then_fixed s None f h k e = cc
  then_fixed s (Some t) f h k e =
      let back : Tighter S n m t s = subst (Tight S n m t) e (k t h.valid) in
      let p : t ≡ s = both_tighter s t h back in
      (ap Some p, subst (λ u. f u ≡ Some s) p e)

-- the total of x lies in the band
abbrev pub Solves : Algebra → List Row → Row → Row → List ℕ → Type 0
Solves a xs low high x = in_band a low high (total a xs x) ≡ true

-- a pass leaves it as it is
abbrev pub Fixed : Algebra → List Row → Row → Row → Option Space → Type 0
Fixed a xs low high None = Unit {0}
Fixed a xs low high (Some t) = pass a xs low high t ≡ Some t

module _ (a : Algebra) (laws : Laws a) (xs : List Row) (rows : Rows a xs) (low high : Row) (low_own : Own a low) (high_own : Own a high) (m : ℕ) where
  -- the same, in this band
  abbrev Solved : List ℕ → Type 0
  Solved = Solves a xs low high

  -- low can be reached with position i at v
  reaches : Space → ℕ → ℕ → Bool
  reaches s i v = a.not_above low (total a xs (topped s.hi i v))

  -- high need not be passed with position i at v
  stays : Space → ℕ → ℕ → Bool
  stays s i v = a.not_above (total a xs (lifted s.lo i v)) high

  at_below : (s : Space) (i : ℕ) → Valid (length xs) m s → at s.lo i ≤ at s.hi i
  at_below s i v = below_at s.lo s.hi i v.between

  -- the value of a solution at position i passes both tests
  reaches_at : (s : Space) (i : ℕ) → Valid (length xs) m s → i < m → (x : List ℕ) → Rising 0 x → Inside s x → Solved x → reaches s i (at x i) ≡ true
  unfolding reaches
  reaches_at s i v l x r ins z =
      let t : List ℕ = topped s.hi i (at x i) in
      let lx : i < length x = omega (arith, below_length s.lo x ins.0, v.size) in
      let rt : Rising 0 t = topped-rising 0 s.hi i (at x i) v.rising_hi (rising_at 0 x i lx r) (below_at x s.hi i ins.1) in
      let ux : Upto (length xs) x = below_upto (length xs) x s.hi ins.1 v.upto in
      let ut : Upto (length xs) t = below_upto (length xs) t s.hi (topped_less s.hi i (at x i) (below_at x s.hi i ins.1)) v.upto in
      let le : at x i ≤ at x i = omega arith in
      laws.transitive low (total a xs x) (total a xs t) low_own (total-own a laws xs rows 0 x r ux) (total-own a laws xs rows 0 t rt ut)
      (and_parts (a.not_above low (total a xs x)) (a.not_above (total a xs x) high) z).0
      (total-climbs a laws xs rows 0 0 x t r rt ux ut (topped_most 0 x s.hi i (at x i) ins.1 r lx le))

  stays_at : (s : Space) (i : ℕ) → Valid (length xs) m s → i < m → (x : List ℕ) → Rising 0 x → Inside s x → Solved x → stays s i (at x i) ≡ true
  unfolding stays
  stays_at s i v l x r ins z =
      let t : List ℕ = lifted s.lo i (at x i) in
      let rt : Rising 0 t = lifted-rising 0 s.lo i (at x i) v.rising_lo (below_at s.lo x i ins.0) in
      let ux : Upto (length xs) x = below_upto (length xs) x s.hi ins.1 v.upto in
      let le : at x i ≤ at x i = omega arith in
      let tx : Below t x = lifted-least 0 s.lo i (at x i) x ins.0 r le in
      let ut : Upto (length xs) t = below_upto (length xs) t x tx ux in
      laws.transitive (total a xs t) (total a xs x) high (total-own a laws xs rows 0 t rt ut) (total-own a laws xs rows 0 x r ux) high_own
      (total-climbs a laws xs rows 0 0 t x rt r ut ux tx)
      (and_parts (a.not_above low (total a xs x)) (a.not_above (total a xs x) high) z).1

  raise_tight : (s : Space) (i : ℕ) → Valid (length xs) m s → i < m → Tight Solved (length xs) m s (raise a xs low high s i)
  unfolding reaches
  raise_tight s i v l = go (least (reaches s i) (at s.lo i) (choices s i)) (least_is (reaches s i) (at s.lo i) (choices s i))
    where
      go : (q : Option ℕ) → Least (reaches s i) (at s.lo i) (choices s i) q → Tight Solved (length xs) m s (option_and_then (λ w. Some (record { lo = lifted s.lo i w; hi = s.hi })) q)
      go None h = λ x r ins z. h (at x i) (below_at s.lo x i ins.0) (omega (arith, below_at x s.hi i ins.1, at_below s i v)) (reaches_at s i v l x r ins z)
      go (Some w) h =
          let le : at s.lo i ≤ w = h.0 in
          let ge : w ≤ at s.hi i = omega (arith, at_below s i v) in
          record {
            valid = record {
              rising_lo = lifted-rising 0 s.lo i w v.rising_lo le;
              rising_hi = v.rising_hi;
              between = lifted-least 0 s.lo i w s.hi v.between v.rising_hi ge;
              upto = v.upto;
              size = sym (below_length s.lo (lifted s.lo i w) (lifted_more s.lo i w le)) ∙ v.size;
            };
            up = lifted_more s.lo i w le;
            down = below_refl s.hi;
            keeps = λ x r ins z. (lifted-least 0 s.lo i w x ins.0 r (h.3 (at x i) (below_at s.lo x i ins.0) (omega (arith, below_at x s.hi i ins.1, at_below s i v)) (reaches_at s i v l x r ins z)), ins.1);
          }

  lower_tight : (s : Space) (i : ℕ) → Valid (length xs) m s → i < m → Tight Solved (length xs) m s (lower a xs low high s i)
  unfolding stays
  lower_tight s i v l = go (greatest (stays s i) (at s.lo i) (choices s i)) (greatest_is (stays s i) (at s.lo i) (choices s i))
    where
      go : (q : Option ℕ) → Greatest (stays s i) (at s.lo i) (choices s i) q → Tight Solved (length xs) m s (option_and_then (λ w. Some (record { lo = s.lo; hi = topped s.hi i w })) q)
      go None h = λ x r ins z. h (at x i) (below_at s.lo x i ins.0) (omega (arith, below_at x s.hi i ins.1, at_below s i v)) (stays_at s i v l x r ins z)
      go (Some w) h =
          let le : at s.lo i ≤ w = h.0 in
          let ge : w ≤ at s.hi i = omega (arith, at_below s i v) in
          let ll : i < length s.lo = omega (arith, v.size) in
          record {
            valid = record {
              rising_lo = v.rising_lo;
              rising_hi = topped-rising 0 s.hi i w v.rising_hi (omega (arith, rising_at 0 s.lo i ll v.rising_lo)) ge;
              between = topped_most 0 s.lo s.hi i w v.between v.rising_lo ll le;
              upto = below_upto (length xs) (topped s.hi i w) s.hi (topped_less s.hi i w ge) v.upto;
              size = v.size;
            };
            up = below_refl s.lo;
            down = topped_less s.hi i w ge;
            keeps = λ x r ins z.
                let lx : i < length x = omega (arith, below_length s.lo x ins.0, v.size) in
                (ins.0, topped_most 0 x s.hi i w ins.1 r lx (h.3 (at x i) (below_at s.lo x i ins.0) (omega (arith, below_at x s.hi i ins.1, at_below s i v)) (stays_at s i v l x r ins z)));
          }

  pub raises_tight : (s : Space) (k : ℕ) → k ≡ m → Valid (length xs) m s → Tight Solved (length xs) m s (sweep (raise a xs low high) (count_from 0 k) s)
  raises_tight s k e v =
      tight_sweep Solved (length xs) m (raise a xs low high) raise_tight (count_from 0 k) (subst (λ j. AllByRecursion (λ i. i < j) (count_from 0 k)) (let p : 0 + k ≡ m = omega arith in p) (count_from_below 0 k)) s v

  pub lowers_tight : (s : Space) (k : ℕ) → k ≡ m → Valid (length xs) m s → Tight Solved (length xs) m s (sweep (lower a xs low high) (count_down k) s)
  lowers_tight s k e v = tight_sweep Solved (length xs) m (lower a xs low high) lower_tight (count_down k) (subst (λ j. AllByRecursion (λ i. i < j) (count_down k)) e (count_down_below k)) s v

  pub pass_tight : (s : Space) → Valid (length xs) m s → Tight Solved (length xs) m s (pass a xs low high s)
  pass_tight s v =
      tight_then Solved (length xs) m s (sweep (raise a xs low high) (count_from 0 (length s.lo)) s) (sweep (lower a xs low high) (count_down (length s.lo)))
      (raises_tight s (length s.lo) v.size v) (λ t w. lowers_tight t (length s.lo) v.size w)

  pub squeeze_tight : (n : ℕ) (s : Space) → Valid (length xs) m s → Tight Solved (length xs) m s (squeeze a xs low high n s)
  squeeze_tight zero s v = pass_tight s v
  squeeze_tight (suc n) s v =
      tight_then Solved (length xs) m s (pass a xs low high s) (λ t. cond (same s.lo t.lo && same s.hi t.hi) (Some t) (squeeze a xs low high n t)) (pass_tight s v)
      (λ t w. cond_both (same s.lo t.lo && same s.hi t.hi) (Some t) (squeeze a xs low high n t) (Tight Solved (length xs) m t) (λ _. tighter_self Solved (length xs) m t w) (λ _. squeeze_tight n t w))

  fixed_level : (s t : Space) → Valid (length xs) m s → Tighter Solved (length xs) m s t → pass a xs low high s ≡ Some t → widths s.lo s.hi ≤ widths t.lo t.hi → s ≡ t
  fixed_level s t v h e l =
      let b = widths_level s.lo t.lo t.hi s.hi h.up h.valid.between h.down l in
      space_same s t (below_antisym s.lo t.lo h.up b.0) (below_antisym s.hi t.hi b.1 h.down)

  pub squeeze_fixed : (n : ℕ) (s : Space) → Valid (length xs) m s → widths s.lo s.hi ≤ n → Fixed a xs low high (squeeze a xs low high n s)
  squeeze_fixed zero s v l = go (pass a xs low high s) refl (pass_tight s v)
    where
      go : (q : Option Space) → pass a xs low high s ≡ q → Tight Solved (length xs) m s q → Fixed a xs low high q
      go None e h = tt
      go (Some t) e h = subst (λ u. pass a xs low high u ≡ Some t) (fixed_level s t v h e (omega arith)) e
  squeeze_fixed (suc n) s v l = go (pass a xs low high s) refl (pass_tight s v) (squeeze_fixed n)
    where
      go : (q : Option Space) → pass a xs low high s ≡ q → Tight Solved (length xs) m s q → ((t : Space) → Valid (length xs) m t → widths t.lo t.hi ≤ n → Fixed a xs low high (squeeze a xs low high n t)) → Fixed a xs low high (option_and_then (λ t. cond (same s.lo t.lo && same s.hi t.hi) (Some t) (squeeze a xs low high n t)) q)
      go None e h ih = tt
      go (Some t) e h ih =
          cond_both (same s.lo t.lo && same s.hi t.hi) (Some t) (squeeze a xs low high n t) (Fixed a xs low high)
          (λ f. let p = and_parts (same s.lo t.lo) (same s.hi t.hi) f in subst (λ u. pass a xs low high u ≡ Some t) (space_same s t ((bytes_decides s.lo t.lo).0 p.0) ((bytes_decides s.hi t.hi).0 p.1)) e)
          (λ f. elim (cases_lt (widths t.lo t.hi) (widths s.lo s.hi)) [
            | inl k ↦ ih t h.valid (omega arith)
            | inr k ↦ absurd (both_ways (same s.lo t.lo && same s.hi t.hi) f
                (subst (λ u. (same s.lo u.lo && same s.hi u.hi) ≡ true) (fixed_level s t v h e k) (and_from (same s.lo s.lo) (same s.hi s.hi) ((bytes_decides s.lo s.lo).1 refl) ((bytes_decides s.hi s.hi).1 refl))))
          ])

  raise_fixed : (s : Space) (i : ℕ) → Valid (length xs) m s → i < m → raise a xs low high s i ≡ Some s → reaches s i (at s.lo i) ≡ true
  unfolding reaches
  raise_fixed s i v l e = go (least (reaches s i) (at s.lo i) (choices s i)) (least_is (reaches s i) (at s.lo i) (choices s i)) e
    where
      go : (q : Option ℕ) → Least (reaches s i) (at s.lo i) (choices s i) q → ◌≡◌ {A = Option Space} (option_and_then (λ w. Some (record { lo = lifted s.lo i w; hi = s.hi })) q) (Some s) → reaches s i (at s.lo i) ≡ true
      go None h f = cc
      go (Some w) h f =
          let p : lifted s.lo i w ≡ s.lo = cc in
          let q : w ≡ at s.lo i = sym (at_lifted s.lo i w (omega (arith, v.size))) ∙ ap (λ t. at t i) p in
          subst (λ u. reaches s i u ≡ true) q h.2

  lower_fixed : (s : Space) (i : ℕ) → Valid (length xs) m s → i < m → lower a xs low high s i ≡ Some s → stays s i (at s.hi i) ≡ true
  unfolding stays
  lower_fixed s i v l e = go (greatest (stays s i) (at s.lo i) (choices s i)) (greatest_is (stays s i) (at s.lo i) (choices s i)) e
    where
      go : (q : Option ℕ) → Greatest (stays s i) (at s.lo i) (choices s i) q → ◌≡◌ {A = Option Space} (option_and_then (λ w. Some (record { lo = s.lo; hi = topped s.hi i w })) q) (Some s) → stays s i (at s.hi i) ≡ true
      go None h f = cc
      go (Some w) h f =
          let p : topped s.hi i w ≡ s.hi = cc in
          let q : w ≡ at s.hi i = sym (at_topped s.hi i w (omega (arith, v.size, below_length s.lo s.hi v.between))) ∙ ap (λ t. at t i) p in
          subst (λ u. stays s i u ≡ true) q h.2

  -- a space that a pass leaves as it is, with nothing open, is a set in the band
  pub settled_solves : (s : Space) → Valid (length xs) m s → 0 < m → pass a xs low high s ≡ Some s → s.lo ≡ s.hi → Solved s.lo
  unfolding reaches stays
  settled_solves s v pos e same = go (length s.lo) v.size fixed.0 fixed.1
    where
      fixed : (sweep (raise a xs low high) (count_from 0 (length s.lo)) s ≡ Some s) × (sweep (lower a xs low high) (count_down (length s.lo)) s ≡ Some s)
      fixed = then_fixed Solved (length xs) m s (sweep (raise a xs low high) (count_from 0 (length s.lo)) s) (sweep (lower a xs low high) (count_down (length s.lo)))
          (raises_tight s (length s.lo) v.size v) (λ t w. lowers_tight t (length s.lo) v.size w) e

      from_reach : reaches s 0 (at s.lo 0) ≡ true → NotAbove a low (total a xs s.lo)
      from_reach h = subst (λ t. NotAbove a low (total a xs t)) (ap (λ t. topped s.hi 0 (at t 0)) same ∙ topped_same 0 s.hi 0 v.rising_hi (omega (arith, v.size, below_length s.lo s.hi v.between)) ∙ sym same) h

      from_stay : (i : ℕ) → stays s i (at s.hi i) ≡ true → NotAbove a (total a xs s.lo) high
      from_stay i h = subst (λ t. NotAbove a (total a xs t) high) (ap (λ t. lifted s.lo i (at t i)) (sym same) ∙ lifted_same 0 s.lo i v.rising_lo) h

      go : (k : ℕ) → k ≡ m → sweep (raise a xs low high) (count_from 0 k) s ≡ Some s → sweep (lower a xs low high) (count_down k) s ≡ Some s → Solved s.lo
      go zero p f g = absurd (omega arith)
      go (suc k) p f g =
          let under : AllByRecursion (λ i. i < m) (count_from 1 k) = subst (λ j. AllByRecursion (λ i. i < j) (count_from 1 k)) (let z : 1 + k ≡ m = omega arith in z) (count_from_below 1 k) in
          let under' : AllByRecursion (λ i. i < m) (count_down (suc k)) = subst (λ j. AllByRecursion (λ i. i < j) (count_down (suc k))) p (count_down_below (suc k)) in
          let r = then_fixed Solved (length xs) m s (raise a xs low high s 0) (sweep (raise a xs low high) (count_from 1 k)) (raise_tight s 0 v pos) (tight_sweep Solved (length xs) m (raise a xs low high) raise_tight (count_from 1 k) under) f in
          let l = then_fixed Solved (length xs) m s (lower a xs low high s k) (sweep (lower a xs low high) (count_down k)) (lower_tight s k v under'.0) (tight_sweep Solved (length xs) m (lower a xs low high) lower_tight (count_down k) under'.1) g in
          and_from (a.not_above low (total a xs s.lo)) (a.not_above (total a xs s.lo) high)
          (from_reach (raise_fixed s 0 v pos r.0))
          (from_stay k (lower_fixed s k v under'.0 l.0))
