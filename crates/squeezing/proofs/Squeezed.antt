-- A pass over a space, and passes until none moves.
use Rattle.std.proofs.Common.{◌≡◌, ℕ, zero, suc, ◌+◌, ◌-◌, ◌<◌, ◌≤◌, Bool, true, false, cond, ◌&&◌, ◌||◌, eqb, List, [], ◌∷◌, length, get_or, Some, None, sum, Option, sym, refl, ap, ◌∙◌, ⊎_elim, arith}
use Rattle.std.proofs.lemmas.List.Sums.{sum_by-cons}
use Rattle.std.proofs.lemmas.Bool.{true≢false, cond-true, cond-false, cases_Bool, and_parts, and_from, eq-eqb, eqb-true, or_parts}
use Rattle.measure.specs.Algebra.{Algebra, Row}
use Rattle.sets.specs.Spaces.{Space, space, same, widths, raise_from, lower_from, pass, squeeze}
use Rattle.squeezing.specs.Standing.{Places, Higher, Fair}
use Rattle.squeezing.proofs.LoweringPass.{Fell, Sunk}
use Rattle.squeezing.proofs.RaisingPass.{Rose, Swept}
use Rattle.squeezing.proofs.Splits.{rises}

-- places that rise leave room for those after them
pub places-higher : (n : ℕ) (hi : List ℕ) → Places n hi → Higher n hi
places-higher n hi p = record {
  least = λ j h. omega (arith, p.least j h);
  most = λ j h.
      let e : j + (length hi - 1 - j) ≡ length hi - 1 = omega arith in
      omega (arith, rises n hi p j (length hi - 1 - j) (omega arith), p.most (length hi - 1) (omega arith), ap (λ q. get_or hi q 0) e);
}

pub swept_places : (H : Type 0) (n : ℕ) (hi was is : List ℕ) (answer : Option (List ℕ)) (moved : Bool) → Swept H n hi was is answer moved → Places n is
swept_places H n hi was is answer moved s = record {
  least = s.lower.least;
  most = s.lower.most;
  rising = λ j h. s.settled.rising j (omega (arith, s.same));
}

pub sunk_places : (H : Type 0) (n : ℕ) (lo was is : List ℕ) (answer : Option (List ℕ)) (moved : Bool) → Places n lo → Sunk H n lo was is answer moved → Places n is
sunk_places H n lo was is answer moved p s = record {
  least = λ j h. omega (arith, p.least j (omega (arith, s.same)), s.lowered.above j (omega arith) h);
  most = λ j h. omega (arith, s.higher.most j h);
  rising = λ j h. s.lowered.rising j (omega arith) h;
}

pub sunk_fair : (H : Type 0) (n : ℕ) (lo was is : List ℕ) (answer : Option (List ℕ)) (moved : Bool) → Places n lo → Sunk H n lo was is answer moved → Fair n lo is
sunk_fair H n lo was is answer moved p s = record {
  same = sym s.same;
  lows = p;
  highs = sunk_places H n lo was is answer moved p s;
  ordered = λ j h. s.lowered.above j (omega arith) h;
}

sum_le : (xs ys : List ℕ) → length xs ≡ length ys → ((j : ℕ) → j < length ys → get_or xs j 0 ≤ get_or ys j 0) → sum xs ≤ sum ys
sum_le [] [] e h = omega arith
sum_le [] (y ∷ ys) e h = absurd (omega arith)
sum_le (x ∷ xs) [] e h = absurd (omega arith)
sum_le (x ∷ xs) (y ∷ ys) e h =
    omega (arith, sum_by-cons (λ z. z) x xs, sum_by-cons (λ z. z) y ys, h 0 (omega arith), sum_le xs ys (omega arith) (λ j l. h (suc j) (omega arith)))

pub fair_sums : (n : ℕ) (lo hi : List ℕ) → Fair n lo hi → sum lo ≤ sum hi
fair_sums n lo hi f = sum_le lo hi f.same f.ordered

same_self : (xs : List ℕ) → same xs xs ≡ true
same_self [] = refl
same_self (x ∷ xs) = and_from (eqb x x) (same xs xs) (eq-eqb x x refl) (same_self xs)

same_eq : (xs ys : List ℕ) → same xs ys ≡ true → xs ≡ ys
same_eq [] [] e = refl
same_eq [] (y ∷ ys) e = absurd (true≢false (sym e))
same_eq (x ∷ xs) [] e = absurd (true≢false (sym e))
same_eq (x ∷ xs) (y ∷ ys) e =
    let parts = and_parts (eqb x y) (same xs ys) e in
    let heads : x ≡ y = eqb-true x y parts.0 in
    let tails = same_eq xs ys parts.1 in
    ap (λ z. z ∷ xs) heads ∙ ap (λ zs. y ∷ zs) tails

-- nothing moved
pub still_same : (rose fell : Bool) (lo lo' hi hi' : List ℕ) → (rose || fell) ≡ false → Rose rose lo lo' → Fell fell hi hi' → (same lo lo' && same hi hi') ≡ true
still_same rose fell lo lo' hi hi' e r f =
    let none = or_parts rose fell e in
    and_from (same lo lo') (same hi hi')
    (ap (same lo) (r.still none.0) ∙ same_self lo)
    (ap (same hi) (f.still none.1) ∙ same_self hi)

-- what moved made the widths less
narrower : (rose fell : Bool) (a b c d : ℕ) → (rose || fell) ≡ true → a + cond rose 1 0 ≤ b → d + cond fell 1 0 ≤ c → a + d < b + c
narrower true true a b c d e h l = omega arith
narrower true false a b c d e h l = omega arith
narrower false true a b c d e h l = omega arith
narrower false false a b c d e h l = absurd (true≢false (sym e))

pub moved_less : (n : ℕ) (rose fell : Bool) (lo lo' hi hi' : List ℕ) → (rose || fell) ≡ true → Rose rose lo lo' → Fell fell hi hi' → Fair n lo' hi' → widths lo' hi' < widths lo hi
moved_less n rose fell lo lo' hi hi' e r f fair =
    omega (arith, narrower rose fell (sum lo) (sum lo') (sum hi) (sum hi') e r.rose f.fell, fair_sums n lo' hi' fair, r.rose, f.fell)

pub moved_other : (rose fell : Bool) (lo lo' hi hi' : List ℕ) → (rose || fell) ≡ true → Rose rose lo lo' → Fell fell hi hi' → (same lo lo' && same hi hi') ≡ false
moved_other rose fell lo lo' hi hi' e r f =
    ⊎_elim
    (λ t.
    let parts = and_parts (same lo lo') (same hi hi') t in
    let l = ap sum (same_eq lo lo' parts.0) in
    let h = ap sum (same_eq hi hi' parts.1) in
    absurd (omega (arith, l, h, narrower rose fell (sum lo) (sum lo') (sum hi) (sum hi') e r.rose f.fell)))
    (λ t. t)
    (cases_Bool (same lo lo' && same hi hi'))

module _ (a : Algebra) (xs : List Row) (low high : Row) (lo hi : List ℕ) where
  pub pass_no_rise : raise_from a xs low hi 1 (length hi) lo ≡ None → pass a xs low high (space lo hi) ≡ None
  pass_no_rise e = ap (λ (o : Option (List ℕ)). elim o [ None ↦ None | Some l ↦ elim (lower_from a xs high l (length l) hi) [ None ↦ None | Some h ↦ Some (space l h) ] ]) e

  pub pass_rise : (l : List ℕ) → raise_from a xs low hi 1 (length hi) lo ≡ Some l → pass a xs low high (space lo hi) ≡ elim (lower_from a xs high l (length l) hi) [ None ↦ None | Some h ↦ Some (space l h) ]
  pass_rise l e = ap (λ (o : Option (List ℕ)). elim o [ None ↦ None | Some l ↦ elim (lower_from a xs high l (length l) hi) [ None ↦ None | Some h ↦ Some (space l h) ] ]) e

  pub pass_no_fall : (l : List ℕ) → raise_from a xs low hi 1 (length hi) lo ≡ Some l → lower_from a xs high l (length l) hi ≡ None → pass a xs low high (space lo hi) ≡ None
  pass_no_fall l e f = pass_rise l e ∙ ap (λ (o : Option (List ℕ)). elim o [ None ↦ None | Some h ↦ Some (space l h) ]) f

  pub pass_both : (l h : List ℕ) → raise_from a xs low hi 1 (length hi) lo ≡ Some l → lower_from a xs high l (length l) hi ≡ Some h → pass a xs low high (space lo hi) ≡ Some (space l h)
  pass_both l h e f = pass_rise l e ∙ ap (λ (o : Option (List ℕ)). elim o [ None ↦ None | Some h ↦ Some (space l h) ]) f

module _ (a : Algebra) (xs : List Row) (low high : Row) where
  abbrev next : ℕ → Space → Option Space → Option Space
  next f s o = elim o [ None ↦ None | Some t ↦ cond (same s.lo t.lo && same s.hi t.hi) (Some t) (squeeze a xs low high f t) ]

  pub squeeze_none : (f : ℕ) (s : Space) → pass a xs low high s ≡ None → squeeze a xs low high f s ≡ None
  squeeze_none zero s e = e
  squeeze_none (suc f) s e = ap (next f s) e

  pub squeeze_still : (f : ℕ) (s t : Space) → pass a xs low high s ≡ Some t → (same s.lo t.lo && same s.hi t.hi) ≡ true → squeeze a xs low high f s ≡ Some t
  squeeze_still zero s t e h = e
  squeeze_still (suc f) s t e h = ap (next f s) e ∙ cond-true _ _ _ h

  pub squeeze_moved : (f : ℕ) (s t : Space) → pass a xs low high s ≡ Some t → (same s.lo t.lo && same s.hi t.hi) ≡ false → squeeze a xs low high (suc f) s ≡ squeeze a xs low high f t
  squeeze_moved f s t e h = ap (next f s) e ∙ cond-false _ _ _ h

  -- one turn more: some fuel is left for the narrower space
  pub squeeze_more : (H : Type 0) (f : ℕ) (whole : Option Space) (s t : Space) → widths s.lo s.hi ≤ f → widths t.lo t.hi < widths s.lo s.hi → (H → whole ≡ squeeze a xs low high f s) → (H → pass a xs low high s ≡ Some t) → (same s.lo t.lo && same s.hi t.hi) ≡ false → (k : ℕ) × (widths t.lo t.hi ≤ k) × (H → whole ≡ squeeze a xs low high k t)
  squeeze_more H zero whole s t enough less e p h = absurd (omega arith)
  squeeze_more H (suc f) whole s t enough less e p h = (f, omega arith, λ held. e held ∙ squeeze_moved f s t (p held) h)

-- what a pass that comes to its end leaves
pub passed : (a : Algebra) (xs : List Row) (low high : Row) (H : Type 0) (n : ℕ) (lo hi lo' hi' : List ℕ) (rose fell : Bool) → Swept H n hi lo lo' (raise_from a xs low hi 1 (length hi) lo) rose → Sunk H n lo' hi hi' (lower_from a xs high lo' (length lo') hi) fell → (H → pass a xs low high (space lo hi) ≡ Some (space lo' hi')) × Fair n lo' hi'
passed a xs low high H n lo hi lo' hi' rose fell s t = (
  λ held. pass_both a xs low high lo hi lo' hi' (s.found held) (t.found held),
  sunk_fair H n lo' hi hi' _ fell (swept_places H n hi lo lo' _ rose s) t,
)
