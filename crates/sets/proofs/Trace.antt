-- A trace tells the solutions, in order, and is less than twice as long as there are sets.
use Rattle.std.proofs.Common.{◌≡◌, ℕ, zero, suc, ◌+◌, ◌-◌, ◌*◌, ◌<◌, ◌≤◌, Bool, true, false, ◌&&◌, eqb, leb, List, [], ◌∷◌, ◌++◌, length, Some, None, filter, Option, sym, refl, ap, ◌∙◌, subst, arith}
use Rattle.std.specs.Cmp.Lexicographic.{pointwise}
use Rattle.std.specs.List.{flat_map, AllByRecursion}
use Rattle.std.proofs.ByRecursion.{All-weaker}
use Rattle.std.proofs.lemmas.List.Sums.{length-filter, count_by-le-length}
use Rattle.std.proofs.lemmas.Bool.Decides.{nat_tests}
use Rattle.std.proofs.lemmas.Bool.{false_from_ne_true, and_from, and_parts, eq-eqb, eqb-true}
use Rattle.measure.specs.Algebra.{Algebra, Row, Laws, Own}
use Rattle.sets.specs.Sets.{Rows, sets, total, in_band, solutions}
use Rattle.sets.specs.Spaces.{Space}
use Rattle.sets.specs.Trace.{Trace, somes}
use Rattle.sets.proofs.Forms.{at, lifted, topped, child, choices, count_from, widths, open_at, squeezed, split, examined, explore, trace, pass}
use Rattle.sets.proofs.Vectors.{Below, Rising, Upto, below_refl, below_trans, below_antisym, below_at, below_length, below_upto, rising_weaker, rising_at, lifted-rising, lifted-least, lifted_more, at_lifted, topped-rising, topped_most, topped_less, at_topped}
use Rattle.sets.proofs.Members.{Among, sets_among, sets_all, In, Lex, lex_irreflexive, sets_sorted}
use Rattle.sets.proofs.Squeeze.{Valid, Inside, Tighter, Tight, Solves, Fixed, squeeze_tight, squeeze_fixed, settled_solves}
use Rattle.sets.proofs.Opens.{Settled, Opens, open_is, settled_open, settled_within, settled_more, lex_at}
use Rattle.sets.proofs.Kept.{bool_same, kept_same, kept_none, kept_one, kept_fewer, joined_same, joined_twice, kept_split}
use Rattle.sets.proofs.Listed.{in_some, kept_in}

-- the test of Below
abbrev leqs : List ℕ → List ℕ → Bool
leqs s t = pointwise leb s t

leqs_true : (s t : List ℕ) → leqs s t ≡ true → Below s t
leqs_true [] [] e = tt
leqs_true [] (y ∷ t) e = cc
leqs_true (x ∷ s) [] e = cc
leqs_true (x ∷ s) (y ∷ t) e = grind (arith, nat_tests, leqs_true s t)

leqs_from : (s t : List ℕ) → Below s t → leqs s t ≡ true
leqs_from [] [] h = refl
leqs_from [] (y ∷ t) h = absurd h
leqs_from (x ∷ s) [] h = absurd h
leqs_from (x ∷ s) (y ∷ t) h = grind (arith, nat_tests, leqs_from s t h.1, h.0)

-- inside, and good
within : (List ℕ → Bool) → Space → List ℕ → Bool
within good s x = (leqs s.lo x && leqs x s.hi) && good x

within_parts : (good : List ℕ → Bool) (s : Space) (x : List ℕ) → within good s x ≡ true → (Inside s x) × (good x ≡ true)
unfolding within
within_parts good s x e = grind (arith, leqs_true s.lo x, leqs_true x s.hi)

within_from : (good : List ℕ → Bool) (s : Space) (x : List ℕ) → Inside s x → good x ≡ true → within good s x ≡ true
unfolding within
within_from good s x i g = cc (leqs_from s.lo x i.0, leqs_from x s.hi i.1)

pub child_valid : (n m : ℕ) (t : Space) (i v : ℕ) → Valid n m t → i < m → at t.lo i ≤ v → v ≤ at t.hi i → Valid n m (child t i v)
child_valid n m t i v w l f g =
    let ll : i < length t.lo = omega (arith, w.size) in
    let lh : i < length t.hi = omega (arith, ll, below_length t.lo t.hi w.between) in
    let rh : Rising 0 (topped t.hi i v) = topped-rising 0 t.hi i v w.rising_hi (omega (arith, rising_at 0 t.lo i ll w.rising_lo)) g in
    record {
      rising_lo = lifted-rising 0 t.lo i v w.rising_lo f;
      rising_hi = rh;
      between = lifted-least 0 t.lo i v (topped t.hi i v) (topped_most 0 t.lo t.hi i v w.between w.rising_lo ll f) rh (omega (arith, at_topped t.hi i v lh));
      upto = below_upto n (topped t.hi i v) t.hi (topped_less t.hi i v g) w.upto;
      size = sym (below_length t.lo (lifted t.lo i v) (lifted_more t.lo i v f)) ∙ w.size;
    }

child-settled : (n m : ℕ) (t : Space) (i v : ℕ) → Valid n m t → i < m → at t.lo i ≤ v → v ≤ at t.hi i → Settled i t.lo t.hi → Settled (suc i) (child t i v).lo (child t i v).hi
child-settled n m t i v w l f g s =
    let c : Valid n m (child t i v) = child_valid n m t i v w l f g in
    let ll : i < length t.lo = omega (arith, w.size) in
    let lh : i < length t.hi = omega (arith, ll, below_length t.lo t.hi w.between) in
    settled_more i (lifted t.lo i v) (topped t.hi i v) c.between
    (settled_within i t.lo (lifted t.lo i v) (topped t.hi i v) t.hi (lifted_more t.lo i v f) c.between (topped_less t.hi i v g) s)
    (at_lifted t.lo i v ll ∙ sym (at_topped t.hi i v lh))

-- inside the child: inside, with v at position i
child_within : (good : List ℕ → Bool) (n m : ℕ) (t : Space) (i v : ℕ) → Valid n m t → i < m → at t.lo i ≤ v → v ≤ at t.hi i → (x : List ℕ) → Among 0 n m x → within good (child t i v) x ≡ (within good t x && eqb (at x i) v)
child_within good n m t i v w l f g x am = bool_same (within good (child t i v) x) (within good t x && eqb (at x i) v) down back
  where
    ll : i < length t.lo
    ll = omega (arith, w.size)

    lh : i < length t.hi
    lh = omega (arith, ll, below_length t.lo t.hi w.between)

    lx : i < length x
    lx = omega (arith, am.size)

    down : within good (child t i v) x ≡ true → (within good t x && eqb (at x i) v) ≡ true
    down e =
        let p = within_parts good (child t i v) x e in
        let a1 : v ≤ at x i = omega (arith, at_lifted t.lo i v ll, below_at (lifted t.lo i v) x i p.0.0) in
        let a2 : at x i ≤ v = omega (arith, at_topped t.hi i v lh, below_at x (topped t.hi i v) i p.0.1) in
        and_from (within good t x) (eqb (at x i) v)
        (within_from good t x (below_trans t.lo (lifted t.lo i v) x (lifted_more t.lo i v f) p.0.0, below_trans x (topped t.hi i v) t.hi p.0.1 (topped_less t.hi i v g)) p.1)
        (eq-eqb (at x i) v (omega arith))

    back : (within good t x && eqb (at x i) v) ≡ true → within good (child t i v) x ≡ true
    back e =
        let q = and_parts (within good t x) (eqb (at x i) v) e in
        let p = within_parts good t x q.0 in
        let k : at x i ≡ v = eqb-true (at x i) v q.1 in
        within_from good (child t i v) x
        (lifted-least 0 t.lo i v x p.0.0 am.rising (omega arith), topped_most 0 x t.hi i v p.0.1 am.rising lx (omega arith)) p.1

-- the values at an open position
pub values : (t : Space) (i : ℕ) → at t.lo i < at t.hi i → AllByRecursion (λ v. (at t.lo i ≤ v) × (v ≤ at t.hi i)) (count_from (at t.lo i) (choices t i))
values t i l = from (at t.lo i) (choices t i) (omega arith) (omega arith)
  where
    from : (a n : ℕ) → at t.lo i ≤ a → a + n ≤ suc (at t.hi i) → AllByRecursion (λ v. (at t.lo i ≤ v) × (v ≤ at t.hi i)) (count_from a n)
    from a zero f g = tt
    from a (suc n) f g = ((f, omega arith), from (suc a) n (omega arith) (omega arith))

-- two lists made from these values alike
pub joined_values : {Y : Type 0} (t : Space) (i : ℕ) (f g : ℕ → List Y) → at t.lo i < at t.hi i → ((v : ℕ) → at t.lo i ≤ v → v ≤ at t.hi i → f v ≡ g v) → flat_map f (count_from (at t.lo i) (choices t i)) ≡ flat_map g (count_from (at t.lo i) (choices t i))
joined_values t i f g o h = joined_same f g (λ v. (at t.lo i ≤ v) × (v ≤ at t.hi i)) (λ v b. h v b.0 b.1) (count_from (at t.lo i) (choices t i)) (values t i o)

pub count_rising : (b m : ℕ) → Rising b (count_from (suc b) m)
count_rising b zero = tt
count_rising b (suc m) = (omega arith, count_rising (suc b) m)

count_below : (b c m : ℕ) → b ≤ c → Below (count_from b m) (count_from c m)
count_below b c zero l = tt
count_below b c (suc m) l = (l, count_below (suc b) (suc c) m (omega arith))

pub count_upto : (c m n : ℕ) → c + m ≤ n → Upto n (count_from (suc c) m)
count_upto c zero n l = tt
count_upto c (suc m) n l = (omega arith, count_upto (suc c) m n (omega arith))

pub count_least : (b : ℕ) (s : List ℕ) → Rising b s → Below (count_from (suc b) (length s)) s
count_least b [] r = tt
count_least b (x ∷ s) r = (r.0, count_least (suc b) s (rising_weaker x (suc b) s r.0 r.1))

pub rising-room : (n b : ℕ) (s : List ℕ) → b ≤ n → Rising b s → Upto n s → b + length s ≤ n
rising-room n b [] l r u = omega arith
rising-room n b (x ∷ s) l r u = omega (arith, rising-room n x s u.0 r.1 u.1)

pub count_most : (n c b : ℕ) (s : List ℕ) → c + length s ≡ n → Rising b s → Upto n s → Below s (count_from (suc c) (length s))
count_most n c b [] e r u = tt
count_most n c b (x ∷ s) e r u = (omega (arith, rising-room n x s u.0 r.1 u.1), count_most n (suc c) x s (omega arith) r.1 u.1)

pub length-count_from : (a n : ℕ) → length (count_from a n) ≡ n
length-count_from a zero = refl
length-count_from a (suc n) = ap suc (length-count_from (suc a) n)

somes-append : (rs qs : Trace) → somes (rs ++ qs) ≡ somes rs ++ somes qs
somes-append [] qs = refl
somes-append (None ∷ rs) qs = somes-append rs qs
somes-append (Some s ∷ rs) qs = ap (λ ys. s ∷ ys) (somes-append rs qs)

pub somes-flat_map : (f : ℕ → Trace) (vs : List ℕ) → somes (flat_map f vs) ≡ flat_map (λ v. somes (f v)) vs
somes-flat_map f [] = refl
somes-flat_map f (v ∷ vs) = somes-append (f v) (flat_map f vs) ∙ ap (λ ys. somes (f v) ++ ys) (somes-flat_map f vs)

pub members : (n m : ℕ) → AllByRecursion (Among 0 n m) (sets 1 n m)
members n m = subst (λ k. AllByRecursion (Among 0 k m) (sets 1 n m)) (let e : 0 + n ≡ n = omega arith in e) (sets_among 0 n m)

-- what holds of all sets of m of n places, in their list
pub of_sets : (n m : ℕ) (P : List ℕ → Type 0) → ((x : List ℕ) → Among 0 n m x → P x) → AllByRecursion P (sets 1 n m)
of_sets n m P f = All-weaker (Among 0 n m) P f (sets 1 n m) (members n m)

pub is_member : (n m : ℕ) (x : List ℕ) → Among 0 n m x → In x (sets 1 n m)
is_member n m x h = sets_all 0 n m x (subst (λ k. Among 0 k m x) (let e : n ≡ 0 + n = omega arith in e) h)

lo_among : (n m : ℕ) (t : Space) → Valid n m t → Among 0 n m t.lo
lo_among n m t v = record { rising = v.rising_lo; upto = below_upto n t.lo t.hi v.between v.upto; size = v.size }

-- the sets in a space, by the place at its first open position
children : (good : List ℕ → Bool) (n m : ℕ) (t : Space) (i : ℕ) → Valid n m t → Opens t.lo t.hi (Some i) →
    filter (within good t) (sets 1 n m) ≡ flat_map (λ v. filter (within good (child t i v)) (sets 1 n m)) (count_from (at t.lo i) (choices t i))
children good n m t i w o =
    kept_split Lex (within good t) (λ x. at x i) mono (at t.lo i) (choices t i) (sets 1 n m) (sets_sorted 0 n m) (of_sets n m (λ x. within good t x ≡ true → (at t.lo i ≤ at x i) × (at x i < at t.lo i + choices t i)) range)
    ∙ joined_values t i (λ v. filter (λ x. within good t x && eqb (at x i) v) (sets 1 n m)) (λ v. filter (within good (child t i v)) (sets 1 n m)) o.1 each
  where
    l : i < m
    l = omega (arith, o.0, w.size)

    mono : (x y : List ℕ) → Lex x y → within good t x ≡ true → within good t y ≡ true → at x i ≤ at y i
    mono x y r e f =
        let p = (within_parts good t x e).0 in
        let q = (within_parts good t y f).0 in
        lex_at i t.lo t.hi x y o.2 p.0 p.1 q.0 q.1 r

    range : (x : List ℕ) → Among 0 n m x → within good t x ≡ true → (at t.lo i ≤ at x i) × (at x i < at t.lo i + choices t i)
    range x am e =
        let p = (within_parts good t x e).0 in
        let f : at t.lo i ≤ at x i = below_at t.lo x i p.0 in
        let g : at x i ≤ at t.hi i = below_at x t.hi i p.1 in
        (f, omega (arith, o.1))

    each : (v : ℕ) → at t.lo i ≤ v → v ≤ at t.hi i → filter (λ x. within good t x && eqb (at x i) v) (sets 1 n m) ≡ filter (within good (child t i v)) (sets 1 n m)
    each v f g = kept_same (λ x. within good t x && eqb (at x i) v) (within good (child t i v)) (sets 1 n m) (of_sets n m (λ x. (within good t x && eqb (at x i) v) ≡ within good (child t i v) x) (λ x am. sym (child_within good n m t i v w l f g x am)))

module _ (a : Algebra) (laws : Laws a) (xs : List Row) (rows : Rows a xs) (low high : Row) (low_own : Own a low) (high_own : Own a high) (m : ℕ) where
  -- the total of x lies in the band
  good : List ℕ → Bool
  good x = in_band a low high (total a xs x)

  squeezed_tight : (s : Space) → Valid (length xs) m s → Tight (Solves a xs low high) (length xs) m s (squeezed a xs low high s)
  squeezed_tight s v = squeeze_tight a laws xs rows low high low_own high_own m (widths s.lo s.hi) s v

  squeezed_fixed : (s : Space) → Valid (length xs) m s → Fixed a xs low high (squeezed a xs low high s)
  squeezed_fixed s v = squeeze_fixed a laws xs rows low high low_own high_own m (widths s.lo s.hi) s v (omega arith)

  squeezed_none : (s : Space) → Valid (length xs) m s → Tight (Solves a xs low high) (length xs) m s None → filter (within good s) (sets 1 (length xs) m) ≡ []
  unfolding good
  squeezed_none s v h = kept_none (within good s) (sets 1 (length xs) m) (of_sets (length xs) m (λ x. within good s x ≡ false) (λ x am. false_from_ne_true (within good s x) (λ e. let p = within_parts good s x e in h x am.rising p.0 p.1)))

  squeezed_some : (s t : Space) → Valid (length xs) m s → Tighter (Solves a xs low high) (length xs) m s t → filter (within good s) (sets 1 (length xs) m) ≡ filter (within good t) (sets 1 (length xs) m)
  unfolding good
  squeezed_some s t v h = kept_same (within good s) (within good t) (sets 1 (length xs) m) (of_sets (length xs) m (λ x. within good s x ≡ within good t x)
      (λ x am. bool_same (within good s x) (within good t x)
      (λ e. let p = within_parts good s x e in within_from good t x (h.keeps x am.rising p.0 p.1) p.1)
      (λ e. let p = within_parts good t x e in within_from good s x (below_trans s.lo t.lo x h.up p.0.0, below_trans x t.hi s.hi p.0.1 h.down) p.1)))

  settled_one : (t : Space) → Valid (length xs) m t → 0 < m → pass a xs low high t ≡ Some t → t.lo ≡ t.hi → filter (within good t) (sets 1 (length xs) m) ≡ t.lo ∷ []
  unfolding good
  settled_one t v pos f e = kept_one Lex lex_irreflexive (within good t) t.lo
      (within_from good t t.lo (below_refl t.lo, v.between) (settled_solves a laws xs rows low high low_own high_own m t v pos f e))
      (λ y h. let p = (within_parts good t y h).0 in below_antisym y t.lo (subst (Below y) (sym e) p.1) p.0)
      (sets 1 (length xs) m) (sets_sorted 0 (length xs) m) (is_member (length xs) m t.lo (lo_among (length xs) m t v))

  explore_finds : (d k : ℕ) (s : Space) → 0 < m → Valid (length xs) m s → Settled k s.lo s.hi → k ≤ m → m < k + d → somes (explore a xs low high d s) ≡ filter (within good s) (sets 1 (length xs) m)
  explore_finds zero k s pos v z l r = absurd (omega arith)
  explore_finds (suc d) k s pos v z l r = go (squeezed a xs low high s) (squeezed_tight s v) (squeezed_fixed s v) (explore_finds d)
    where
      go : (q : Option Space) → Tight (Solves a xs low high) (length xs) m s q → Fixed a xs low high q →
          ((k : ℕ) (s : Space) → 0 < m → Valid (length xs) m s → Settled k s.lo s.hi → k ≤ m → m < k + d → somes (explore a xs low high d s) ≡ filter (within good s) (sets 1 (length xs) m)) →
          somes (examined (explore a xs low high d) q) ≡ filter (within good s) (sets 1 (length xs) m)
      go None h f ih = sym (squeezed_none s v h)
      go (Some t) h f ih = part (open_at t.lo t.hi) (open_is t.lo t.hi h.valid.between) ∙ sym (squeezed_some s t v h)
        where
          part : (q : Option ℕ) → Opens t.lo t.hi q → somes (split (explore a xs low high d) t q) ≡ filter (within good t) (sets 1 (length xs) m)
          part None o = sym (settled_one t h.valid pos f o)
          part (Some i) o =
              let il : i < m = omega (arith, o.0, h.valid.size) in
              let zt : Settled k t.lo t.hi = settled_within k s.lo t.lo t.hi s.hi h.up h.valid.between h.down z in
              let ki : k ≤ i = settled_open k t.lo t.hi i zt o.0 o.1 in
              somes-flat_map (λ v. explore a xs low high d (child t i v)) (count_from (at t.lo i) (choices t i))
              ∙ joined_values t i (λ w. somes (explore a xs low high d (child t i w))) (λ w. filter (within good (child t i w)) (sets 1 (length xs) m)) o.1
              (λ w f g. ih (suc i) (child t i w) pos (child_valid (length xs) m t i w h.valid il f g) (child-settled (length xs) m t i w h.valid il f g o.2) il (omega arith))
              ∙ sym (children good (length xs) m t i h.valid o)

  -- every set passes
  yes : List ℕ → Bool
  yes x = true

  holds-lo : (t : Space) → Valid (length xs) m t → 1 ≤ length (filter (within yes t) (sets 1 (length xs) m))
  unfolding yes
  holds-lo t v = in_some t.lo (filter (within yes t) (sets 1 (length xs) m)) (kept_in (within yes t) t.lo (sets 1 (length xs) m) (is_member (length xs) m t.lo (lo_among (length xs) m t v)) (within_from yes t t.lo (below_refl t.lo, v.between) refl))

  fewer : (s t : Space) → Tighter (Solves a xs low high) (length xs) m s t → length (filter (within yes t) (sets 1 (length xs) m)) ≤ length (filter (within yes s) (sets 1 (length xs) m))
  fewer s t h = kept_fewer (within yes t) (within yes s) (sets 1 (length xs) m) (of_sets (length xs) m (λ x. within yes t x ≡ true → within yes s x ≡ true)
      (λ x am e. let p = within_parts yes t x e in within_from yes s x (below_trans s.lo t.lo x h.up p.0.0, below_trans x t.hi s.hi p.0.1 h.down) p.1))

  -- fewer spaces than twice the sets of places in the first
  explore_counts : (d : ℕ) (s : Space) → Valid (length xs) m s → suc (length (explore a xs low high d s)) ≤ 2 * length (filter (within yes s) (sets 1 (length xs) m))
  explore_counts zero s v = omega (arith, holds-lo s v)
  explore_counts (suc d) s v = go (squeezed a xs low high s) (squeezed_tight s v) (explore_counts d)
    where
      go : (q : Option Space) → Tight (Solves a xs low high) (length xs) m s q →
          ((s : Space) → Valid (length xs) m s → suc (length (explore a xs low high d s)) ≤ 2 * length (filter (within yes s) (sets 1 (length xs) m))) →
          suc (length (examined (explore a xs low high d) q)) ≤ 2 * length (filter (within yes s) (sets 1 (length xs) m))
      go None h ih = omega (arith, holds-lo s v)
      go (Some t) h ih = omega (arith, fewer s t h, part (open_at t.lo t.hi) (open_is t.lo t.hi h.valid.between))
        where
          part : (q : Option ℕ) → Opens t.lo t.hi q → suc (length (split (explore a xs low high d) t q)) ≤ 2 * length (filter (within yes t) (sets 1 (length xs) m))
          part None o = omega (arith, holds-lo t h.valid)
          part (Some i) o =
              let il : i < m = omega (arith, o.0, h.valid.size) in
              let vs : List ℕ = count_from (at t.lo i) (choices t i) in
              let twice = joined_twice (λ w. explore a xs low high d (child t i w)) (λ w. filter (within yes (child t i w)) (sets 1 (length xs) m)) (λ w. (at t.lo i ≤ w) × (w ≤ at t.hi i))
              (λ w b. ih (child t i w) (child_valid (length xs) m t i w h.valid il b.0 b.1)) vs (values t i o.1) in
              let many : 2 ≤ length vs = omega (arith, length-count_from (at t.lo i) (choices t i), o.1) in
              omega (arith, twice, many, ap length (children yes (length xs) m t i h.valid o))

  -- the first space of a search
  abbrev start : Space
  start = record { lo = count_from 1 m; hi = count_from (suc (length xs - m)) m }

  pub start_valid : m ≤ length xs → Valid (length xs) m start
  start_valid l = record {
    rising_lo = count_rising 0 m;
    rising_hi = rising_weaker (length xs - m) 0 (count_from (suc (length xs - m)) m) (omega arith) (count_rising (length xs - m) m);
    between = count_below 1 (suc (length xs - m)) m (omega arith);
    upto = count_upto (length xs - m) m (length xs) (omega arith);
    size = length-count_from 1 m;
  }

  start_all : (x : List ℕ) → m ≤ length xs → Among 0 (length xs) m x → Inside start x
  start_all x l h = (
    subst (λ k. Below (count_from 1 k) x) h.size (count_least 0 x h.rising),
    subst (λ k. Below x (count_from (suc (length xs - m)) k)) h.size (count_most (length xs) (length xs - m) 0 x (omega (arith, h.size)) h.rising h.upto),
  )

  -- the trace tells the solutions, each once and in order
  pub trace_finds : 0 < m → m ≤ length xs → somes (trace a xs low high m) ≡ solutions a xs m low high
  unfolding good
  trace_finds pos l =
      explore_finds (suc m) 0 start pos (start_valid l) tt (omega arith) (omega arith)
      ∙ kept_same (within good start) good (sets 1 (length xs) m) (of_sets (length xs) m (λ x. within good start x ≡ good x)
      (λ x am. bool_same (within good start x) (good x) (λ e. (within_parts good start x e).1) (λ e. within_from good start x (start_all x l am) e)))

  -- and is shorter than twice the number of sets
  pub trace_counts : m ≤ length xs → length (trace a xs low high m) ≤ 2 * length (sets 1 (length xs) m) - 1
  trace_counts l = omega (arith, explore_counts (suc m) start (start_valid l), length-filter (within yes start) (sets 1 (length xs) m), count_by-le-length (within yes start) (sets 1 (length xs) m))
