-- A sweep that writes one position at a time comes to the same as one that pushes the others along.
use Rattle.std.proofs.Common.{◌≡◌, ℕ, zero, suc, ◌+◌, ◌-◌, ◌<◌, ◌≤◌, min, max, Bool, List, [], ◌∷◌, ◌++◌, length, get_or, set, take, Some, None, Option, option_and_then, sym, refl, ap, ◌∙◌, subst, ap₂, arith}
use Rattle.std.proofs.lemmas.List.{append_assoc, append-nil, set_at, get_or_at, length_push, take_all, take_more, length-take-le}
use Rattle.std.proofs.ByRecursion.{All-get_or, All-take}
use Rattle.measure.specs.Algebra.{Algebra, Row}
use Rattle.sets.specs.Sets.{total}
use Rattle.sets.specs.Spaces.{Space, space}
use Rattle.sets.proofs.Forms.{at, above, lifted, topped, count_from, count_down, least, greatest, sweep, raise, lower}
use Rattle.sets.proofs.Vectors.{Below, Rising, Upto, below_length, rising_at, above_same}
use Rattle.sets.proofs.Choices.{Least, least_is, Greatest, greatest_is}
use Rattle.sets.proofs.Squeeze.{Valid}
use Rattle.sets.proofs.Opens.{Settled}
use Rattle.sets.proofs.Trace.{rising-room}

-- the first place that the position before i leaves
abbrev pub after : List ℕ → ℕ → ℕ
after lo zero = 1
after lo (suc i) = suc (at lo i)

-- the last place of position i below the next
abbrev pub before : List ℕ → ℕ → ℕ
before [] i = 0
before (h ∷ []) zero = h
before (h ∷ k ∷ hi) zero = min h (k - 1)
before (h ∷ hi) (suc i) = before hi i

module _ (a : Algebra) (xs : List Row) (low high : Row) where
  -- raises position i, and writes it alone
  abbrev pub raise_at : Space → ℕ → Option Space
  raise_at s i =
      let from : ℕ = max (at s.lo i) (after s.lo i) in
      option_and_then (λ v. Some (space (set s.lo i v) s.hi)) (least (λ v. a.not_above low (total a xs (topped s.hi i v))) from (suc (at s.hi i) - from))

  -- lowers position i, and writes it alone
  abbrev pub lower_at : Space → ℕ → Option Space
  lower_at s i =
      option_and_then (λ v. Some (space s.lo (set s.hi i v))) (greatest (λ v. a.not_above (total a xs (lifted s.lo i v)) high) (at s.lo i) (suc (before s.hi i) - at s.lo i))

-- the greater of two bounds decides
above-above : (w v : ℕ) (s : List ℕ) → w ≤ v → above v (above w s) ≡ above v s
above-above w v [] l = refl
above-above w v (x ∷ s) l =
    let e : max (suc v) (max (suc w) x) ≡ max (suc v) x = omega arith in
    ap (λ u. u ∷ above u (above (max (suc w) x) s)) e ∙ ap (λ t. max (suc v) x ∷ t) (above-above (max (suc w) x) (max (suc v) x) s (omega arith))

lifted_at : (p : List ℕ) (y : ℕ) (ys : List ℕ) (k v : ℕ) → length p ≡ k → lifted (p ++ y ∷ ys) k v ≡ p ++ v ∷ above v ys
lifted_at [] y ys zero v e = refl
lifted_at [] y ys (suc k) v e = absurd (omega arith)
lifted_at (x ∷ p) y ys zero v e = absurd (omega arith)
lifted_at (x ∷ p) y ys (suc k) v e = ap (λ t. x ∷ t) (lifted_at p y ys k v (omega arith))

-- each at most v less its distance from the end
under : List ℕ → ℕ → List ℕ
under [] v = []
under (h ∷ p) v = min (v - suc (length p)) h ∷ under p v

under_length : (p : List ℕ) (v : ℕ) → length (under p v) ≡ length p
unfolding under
under_length [] v = refl
under_length (h ∷ p) v = ap suc (under_length p v)

topped_at : (p : List ℕ) (y : ℕ) (ys : List ℕ) (k v : ℕ) → length p ≡ k → topped (p ++ y ∷ ys) k v ≡ under p v ++ v ∷ ys
unfolding under
topped_at [] y ys zero v e = refl
topped_at [] y ys (suc k) v e = absurd (omega arith)
topped_at (x ∷ p) y ys zero v e = absurd (omega arith)
topped_at (x ∷ p) y ys (suc k) v e =
    let f : min (v - suc k) x ≡ min (v - suc (length p)) x = ap (λ n. min (v - suc n) x) (let g : k ≡ length p = omega arith in g) in
    ap₂ (λ z zs. z ∷ zs) f (topped_at p y ys k v (omega arith))

under_under : (p : List ℕ) (c v : ℕ) → v ≤ c → under (under p c) v ≡ under p v
unfolding under
under_under [] c v l = refl
under_under (h ∷ p) c v l =
    let e : min (v - suc (length (under p c))) (min (c - suc (length p)) h) ≡ min (v - suc (length p)) h = omega (arith, under_length p c) in
    ap₂ (λ z zs. z ∷ zs) e (under_under p c v l)

under_push : (q : List ℕ) (h c : ℕ) → under (q ++ h ∷ []) c ≡ under q (c - 1) ++ min (c - 1) h ∷ []
unfolding under
under_push [] h c = refl
under_push (x ∷ q) h c =
    let e : min (c - suc (length (q ++ h ∷ []))) x ≡ min (c - 1 - suc (length q)) x = omega (arith, length_push q h) in
    ap₂ (λ z zs. z ∷ zs) e (under_push q h c)

under_all : (n b : ℕ) (p : List ℕ) → Rising b p → Upto n p → under p (suc n) ≡ p
unfolding under
under_all n b [] r u = refl
under_all n b (h ∷ p) r u =
    let e : min (suc n - suc (length p)) h ≡ h = omega (arith, rising-room n h p u.0 r.1 u.1) in
    ap₂ (λ z zs. z ∷ zs) e (under_all n h p r.1 u.1)

before_at : (q : List ℕ) (h : ℕ) (s : List ℕ) (k : ℕ) → length q ≡ k → before (q ++ h ∷ s) k ≡ before (h ∷ s) 0
before_at [] h s zero e = refl
before_at [] h s (suc k) e = absurd (omega arith)
before_at (x ∷ q) h s zero e = absurd (omega arith)
before_at (x ∷ q) h s (suc k) e = before_at q h s k (omega arith)

-- two steps that go on alike from each value come to the same
then_same : {A B C : Type 0} (q : Option A) (g h : A → B) (f f' : B → Option C) → ((v : A) → q ≡ Some v → f (g v) ≡ f' (h v)) → option_and_then f (option_and_then (λ v. Some (g v)) q) ≡ option_and_then f' (option_and_then (λ v. Some (h v)) q)
then_same None g h f f' e = refl
then_same (Some v) g h f f' e = e v refl

module _ (a : Algebra) (xs : List Row) (low high : Row) where
  -- low can be reached with position i at v
  reach : List ℕ → ℕ → ℕ → Bool
  reach hi i v = a.not_above low (total a xs (topped hi i v))

  -- high need not be passed with position i at v
  stay : List ℕ → ℕ → ℕ → Bool
  stay lo i v = a.not_above (total a xs (lifted lo i v)) high

  -- n positions from k on, those before as they are: raising them one by one, or from a list that is already pushed up
  raises_same : (n k b : ℕ) (p s hi : List ℕ) → length p ≡ k → length s ≡ n → ((t : List ℕ) → after (p ++ t) k ≡ suc b) →
      sweep (raise_at a xs low high) (count_from k n) (space (p ++ s) hi) ≡ sweep (raise a xs low high) (count_from k n) (space (p ++ above b s) hi)
  unfolding reach
  raises_same zero k b p [] hi e f g = refl
  raises_same zero k b p (x ∷ s) hi e f g = absurd (omega arith)
  raises_same (suc n) k b p [] hi e f g = absurd (omega arith)
  raises_same (suc n) k b p (x ∷ s) hi e f g =
      ap (λ u. option_and_then (sweep (raise_at a xs low high) (count_from (suc k) n)) (option_and_then (λ v. Some (space (set (p ++ x ∷ s) k v) hi)) (least (reach hi k) u (suc (at hi k) - u)))) from_old
      ∙ then_same (least (reach hi k) w (suc (at hi k) - w)) (λ v. space (set (p ++ x ∷ s) k v) hi) (λ v. space (lifted (p ++ above b (x ∷ s)) k v) hi) (sweep (raise_at a xs low high) (count_from (suc k) n)) (sweep (raise a xs low high) (count_from (suc k) n))
      (λ v q.
      ap (λ t. sweep (raise_at a xs low high) (count_from (suc k) n) (space t hi)) (set_at p x s v k e ∙ sym (append_assoc p (v ∷ []) s))
      ∙ raises_same n (suc k) v (p ++ v ∷ []) s hi (omega (arith, length_push p v)) (omega arith) (λ t. ap suc (ap (λ y. at y k) (append_assoc p (v ∷ []) t) ∙ get_or_at p v t 0 k e))
      ∙ ap (λ t. sweep (raise a xs low high) (count_from (suc k) n) (space t hi)) (append_assoc p (v ∷ []) (above v s) ∙ ap (λ t. p ++ v ∷ t) (sym (above-above w v s (subst (Least (reach hi k) w (suc (at hi k) - w)) q (least_is (reach hi k) w (suc (at hi k) - w))).0)) ∙ sym (lifted_at p w (above w s) k v e)))
      ∙ sym (ap (λ u. option_and_then (sweep (raise a xs low high) (count_from (suc k) n)) (option_and_then (λ v. Some (space (lifted (p ++ above b (x ∷ s)) k v) hi)) (least (reach hi k) u (suc (at hi k) - u)))) from_new)
    where
      w : ℕ
      w = max (suc b) x

      from_old : max (at (p ++ x ∷ s) k) (after (p ++ x ∷ s) k) ≡ w
      from_old = ap₂ max (get_or_at p x s 0 k e) (g (x ∷ s)) ∙ (let z : max x (suc b) ≡ max (suc b) x = omega arith in z)

      from_new : at (p ++ above b (x ∷ s)) k ≡ w
      from_new = get_or_at p (max (suc b) x) (above (max (suc b) x) s) 0 k e

  -- the first n positions, those after as they are: lowering them one by one, or from a list that is already pushed down
  lowers_same : (n c : ℕ) (lo p s : List ℕ) → length p ≡ n → Upto (length xs) p → ((h : ℕ) → h ≤ length xs → before (h ∷ s) 0 ≡ min (c - 1) h) →
      sweep (lower_at a xs low high) (count_down n) (space lo (p ++ s)) ≡ sweep (lower a xs low high) (count_down n) (space lo (under p c ++ s))
  unfolding stay under
  lowers_same zero c lo [] s e u g = refl
  lowers_same zero c lo (x ∷ p) s e u g = absurd (omega arith)
  lowers_same (suc n) c lo p s e u g =
      ap (λ t. sweep (lower_at a xs low high) (count_down (suc n)) (space lo t)) hi_old
      ∙ ap (λ z. option_and_then (sweep (lower_at a xs low high) (count_down n)) (option_and_then (λ v. Some (space lo (set (q ++ h ∷ s) n v))) (greatest (stay lo n) (at lo n) (suc z - at lo n)))) (before_at q h s n lq ∙ g h uq.1)
      ∙ then_same (greatest (stay lo n) (at lo n) (suc w - at lo n)) (λ v. space lo (set (q ++ h ∷ s) n v)) (λ v. space lo (topped (under q (c - 1) ++ w ∷ s) n v)) (sweep (lower_at a xs low high) (count_down n)) (sweep (lower a xs low high) (count_down n))
      (λ v r.
      let k = subst (Greatest (stay lo n) (at lo n) (suc w - at lo n)) r (greatest_is (stay lo n) (at lo n) (suc w - at lo n)) in
      ap (λ t. sweep (lower_at a xs low high) (count_down n) (space lo t)) (set_at q h s v n lq)
      ∙ lowers_same n v lo q (v ∷ s) lq uq.0 (λ y _. let z : min y (v - 1) ≡ min (v - 1) y = omega arith in z)
      ∙ ap (λ t. sweep (lower a xs low high) (count_down n) (space lo t)) (ap (λ t. t ++ v ∷ s) (sym (under_under q (c - 1) v (omega (arith, k.1)))) ∙ sym (topped_at (under q (c - 1)) w s n v lu)))
      ∙ sym (ap (λ z. option_and_then (sweep (lower a xs low high) (count_down n)) (option_and_then (λ v. Some (space lo (topped (under q (c - 1) ++ w ∷ s) n v))) (greatest (stay lo n) (at lo n) (suc z - at lo n)))) (get_or_at (under q (c - 1)) w s 0 n lu))
      ∙ sym (ap (λ t. sweep (lower a xs low high) (count_down (suc n)) (space lo t)) hi_new)
    where
      q : List ℕ
      q = take n p

      h : ℕ
      h = get_or p n 0

      is : p ≡ q ++ h ∷ []
      is = sym (take_all (n + 1) p (omega arith)) ∙ take_more p n 0 (omega arith)

      lq : length q ≡ n
      lq = length-take-le n p (omega arith)

      uq : (Upto (length xs) q) × (h ≤ length xs)
      uq = (All-take (λ x. x ≤ length xs) n p u, All-get_or (λ x. x ≤ length xs) p n 0 (omega arith) u)

      w : ℕ
      w = min (c - 1) h

      lu : length (under q (c - 1)) ≡ n
      lu = under_length q (c - 1) ∙ lq

      hi_old : p ++ s ≡ q ++ h ∷ s
      hi_old = ap (λ t. t ++ s) is ∙ append_assoc q (h ∷ []) s

      hi_new : under p c ++ s ≡ under q (c - 1) ++ w ∷ s
      hi_new = ap (λ t. under t c ++ s) is ∙ ap (λ t. t ++ s) (under_push q h c) ∙ append_assoc (under q (c - 1)) (w ∷ []) s

-- where all before position i is settled, no more than position i is written
pub topped-settled : (b : ℕ) (lo hi : List ℕ) (i v : ℕ) → Rising b lo → Below lo hi → i < length lo → Settled i lo hi → at lo i ≤ v → topped hi i v ≡ set hi i v
topped-settled b [] hi i v r w l s f = absurd (omega arith)
topped-settled b (x ∷ lo) [] i v r w l s f = absurd w
topped-settled b (x ∷ lo) (y ∷ hi) zero v r w l s f = refl
topped-settled b (x ∷ lo) (y ∷ hi) (suc i) v r w l s f =
    let j : i < length lo = omega arith in
    let e : min (v - suc i) y ≡ y = omega (arith, rising_at x lo i j r.1, s.0) in
    ap₂ (λ z zs. z ∷ zs) e (topped-settled x lo hi i v r.1 w.1 j s.1 f)

module _ (a : Algebra) (xs : List Row) (low high : Row) (m : ℕ) where
  -- all positions of a space raised
  pub raise_sweeps : (s : Space) → Valid (length xs) m s → sweep (raise_at a xs low high) (count_from 0 (length s.lo)) s ≡ sweep (raise a xs low high) (count_from 0 (length s.lo)) s
  raise_sweeps s v =
      raises_same a xs low high (length s.lo) 0 0 [] s.lo s.hi refl refl (λ t. refl)
      ∙ ap (λ t. sweep (raise a xs low high) (count_from 0 (length s.lo)) (space t s.hi)) (above_same 0 s.lo v.rising_lo)

  -- all positions of a space lowered
  pub lower_sweeps : (s : Space) (k : ℕ) → k ≡ m → Valid (length xs) m s → sweep (lower_at a xs low high) (count_down k) s ≡ sweep (lower a xs low high) (count_down k) s
  lower_sweeps s k e v =
      ap (λ t. sweep (lower_at a xs low high) (count_down k) (space s.lo t)) (sym (append-nil s.hi))
      ∙ lowers_same a xs low high k (suc (length xs)) s.lo s.hi [] (omega (arith, v.size, below_length s.lo s.hi v.between)) v.upto (λ h l. omega arith)
      ∙ ap (λ t. sweep (lower a xs low high) (count_down k) (space s.lo t)) (append-nil (under s.hi (suc (length xs))) ∙ under_all (length xs) 0 s.hi v.rising_hi v.upto)
