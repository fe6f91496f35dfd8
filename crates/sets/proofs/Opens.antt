-- The first open position, and what is settled before it.
use Rattle.std.proofs.Common.{◌≡◌, ℕ, zero, suc, ◌<◌, ◌≤◌, ltb, List, [], ◌∷◌, length, Some, None, Option, option_and_then, refl, ap₂, inl, inr, arith}
use Rattle.std.proofs.lemmas.Bool.{cond_both, ltb-true, ltb-false}
use Rattle.sets.proofs.Forms.{at, open_at}
use Rattle.sets.proofs.Vectors.{Below}
use Rattle.sets.proofs.Members.{Lex}

-- the first i positions have one place each
abbrev pub Settled : ℕ → List ℕ → List ℕ → Type 0
Settled zero lo hi = Unit {0}
Settled (suc i) [] hi = Unit {0}
Settled (suc i) (l ∷ lo) [] = Unit {0}
Settled (suc i) (l ∷ lo) (h ∷ hi) = (l ≡ h) × Settled i lo hi

-- what `open_at` tells: all is settled, or i is the first position that is not
abbrev pub Opens : List ℕ → List ℕ → Option ℕ → Type 0
Opens lo hi None = lo ≡ hi
Opens lo hi (Some i) = (i < length lo) × (at lo i < at hi i) × Settled i lo hi

opens_later : (l h : ℕ) (lo hi : List ℕ) (q : Option ℕ) → l ≡ h → Opens lo hi q → Opens (l ∷ lo) (h ∷ hi) (option_and_then (λ i. Some (suc i)) q)
opens_later l h lo hi None e k = ap₂ (λ z zs. z ∷ zs) e k
opens_later l h lo hi (Some i) e k = (omega arith, k.1, (e, k.2))

-- `open_at` tells so
pub open_is : (lo hi : List ℕ) → Below lo hi → Opens lo hi (open_at lo hi)
open_is [] [] b = refl
open_is [] (h ∷ hi) b = absurd b
open_is (l ∷ lo) [] b = absurd b
open_is (l ∷ lo) (h ∷ hi) b =
    cond_both (ltb l h) (Some 0) (option_and_then (λ i. Some (suc i)) (open_at lo hi)) (Opens (l ∷ lo) (h ∷ hi)) (λ e. (omega arith, ltb-true l h e, tt))
    (λ e. let p : l ≡ h = omega (arith, ltb-false l h e) in opens_later l h lo hi (open_at lo hi) p (open_is lo hi b.1))

pub settled_open : (k : ℕ) (lo hi : List ℕ) (i : ℕ) → Settled k lo hi → i < length lo → at lo i < at hi i → k ≤ i
settled_open zero lo hi i s l o = omega arith
settled_open (suc k) [] hi i s l o = absurd (omega arith)
settled_open (suc k) (x ∷ lo) [] i s l o = absurd (omega arith)
settled_open (suc k) (x ∷ lo) (y ∷ hi) zero s l o = absurd (omega arith)
settled_open (suc k) (x ∷ lo) (y ∷ hi) (suc i) s l o = omega (arith, settled_open k lo hi i s.1 (omega arith) o)

pub settled_within : (k : ℕ) (lo lo' hi' hi : List ℕ) → Below lo lo' → Below lo' hi' → Below hi' hi → Settled k lo hi → Settled k lo' hi'
settled_within zero lo lo' hi' hi f g h s = tt
settled_within (suc k) lo [] hi' hi f g h s = tt
settled_within (suc k) lo (x ∷ lo') [] hi f g h s = tt
settled_within (suc k) [] (x ∷ lo') (y ∷ hi') hi f g h s = absurd f
settled_within (suc k) (l ∷ lo) (x ∷ lo') (y ∷ hi') [] f g h s = absurd h
settled_within (suc k) (l ∷ lo) (x ∷ lo') (y ∷ hi') (z ∷ hi) f g h s = (omega arith, settled_within k lo lo' hi' hi f.1 g.1 h.1 s.1)

pub settled_more : (i : ℕ) (lo hi : List ℕ) → Below lo hi → Settled i lo hi → at lo i ≡ at hi i → Settled (suc i) lo hi
settled_more i [] hi b s e = tt
settled_more i (x ∷ lo) [] b s e = tt
settled_more zero (x ∷ lo) (y ∷ hi) b s e = (e, tt)
settled_more (suc i) (x ∷ lo) (y ∷ hi) b s e = (s.0, settled_more i lo hi b.1 s.1 e)

-- of two sets between, the one before has no greater place at the first open position
pub lex_at : (i : ℕ) (lo hi x y : List ℕ) → Settled i lo hi → Below lo x → Below x hi → Below lo y → Below y hi → Lex x y → at x i ≤ at y i
lex_at i lo hi [] y s f g h k e = absurd e
lex_at i lo hi (u ∷ x) [] s f g h k e = absurd e
lex_at zero lo hi (u ∷ x) (v ∷ y) s f g h k (inl e) = omega arith
lex_at zero lo hi (u ∷ x) (v ∷ y) s f g h k (inr e) = omega arith
lex_at (suc i) [] hi (u ∷ x) (v ∷ y) s f g h k e = absurd f
lex_at (suc i) (l ∷ lo) [] (u ∷ x) (v ∷ y) s f g h k e = absurd g
lex_at (suc i) (l ∷ lo) (z ∷ hi) (u ∷ x) (v ∷ y) s f g h k (inl e) = absurd (omega arith)
lex_at (suc i) (l ∷ lo) (z ∷ hi) (u ∷ x) (v ∷ y) s f g h k (inr e) = lex_at i lo hi x y s.1 f.1 g.1 h.1 k.1 e.1
