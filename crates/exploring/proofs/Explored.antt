-- The first space to be examined gives the first item.
use Rattle.std.proofs.Common.{◌≡◌, ℕ, zero, suc, ◌+◌, ◌<◌, List, [], ◌∷◌, length, get_or, Some, None, Option, refl, ap, ◌∙◌, arith}
use Rattle.std.proofs.lemmas.Bool.{cond-true, cond-false, lt-ltb, le-ltb}
use Rattle.measure.specs.Algebra.{Algebra, Row}
use Rattle.sets.specs.Spaces.{Space, at, open_at, squeeze, widths}
use Rattle.sets.specs.Trace.{Trace, children, explore}

pub open_none : (i : ℕ) (lo hi : List ℕ) → ((j : ℕ) → j < length lo → get_or lo j 0 ≡ get_or hi j 0) → open_at i lo hi ≡ None
open_none i [] hi h = refl
open_none i (l ∷ lo) [] h = refl
open_none i (l ∷ lo) (k ∷ hi) h =
    let same : l ≡ k = h 0 (omega arith) in
    cond-false _ _ _ (le-ltb l k (omega arith)) ∙ open_none (i + 1) lo hi (λ j b. h (suc j) (omega arith))

pub open_some : (i k : ℕ) (lo hi : List ℕ) → k < length lo → k < length hi → get_or lo k 0 < get_or hi k 0 → ((j : ℕ) → j < k → get_or lo j 0 ≡ get_or hi j 0) → open_at i lo hi ≡ Some (i + k)
open_some i k [] hi a b l h = absurd (omega arith)
open_some i k (x ∷ lo) [] a b l h = absurd (omega arith)
open_some i zero (x ∷ lo) (y ∷ hi) a b l h =
    let e : i ≡ i + 0 = omega arith in
    cond-true _ _ _ (lt-ltb x y l) ∙ ap (λ n. Some n) e
open_some i (suc k) (x ∷ lo) (y ∷ hi) a b l h =
    let same : x ≡ y = h 0 (omega arith) in
    let e : i + 1 + k ≡ i + suc k = omega arith in
    cond-false _ _ _ (le-ltb x y (omega arith)) ∙ open_some (i + 1) k lo hi (omega arith) (omega arith) l (λ j c. h (suc j) (omega arith)) ∙ ap (λ n. Some n) e

module _ (a : Algebra) (xs : List Row) (low high : Row) where
  -- the items of a squeezed space, by its first open position
  abbrev pub opened : ℕ → Space → Option ℕ → Trace
  opened d t o = elim o [ None ↦ Some t.lo ∷ [] | Some i ↦ None ∷ children (explore a xs low high d) t i (at t.lo i) ]

  -- the items of a space, by what squeezing leaves of it
  abbrev pub examined : ℕ → Option Space → Trace
  examined d o = elim o [ None ↦ None ∷ [] | Some t ↦ opened d t (open_at 1 t.lo t.hi) ]

  pub explore_none : (d : ℕ) (s : Space) → squeeze a xs low high (widths s.lo s.hi) s ≡ None → explore a xs low high (suc d) s ≡ None ∷ []
  explore_none d s e = ap (examined d) e

  pub explore-set : (d : ℕ) (s t : Space) → squeeze a xs low high (widths s.lo s.hi) s ≡ Some t → open_at 1 t.lo t.hi ≡ None → explore a xs low high (suc d) s ≡ Some t.lo ∷ []
  explore-set d s t e o = ap (examined d) e ∙ ap (opened d t) o

  pub explore_open : (d : ℕ) (s t : Space) (i : ℕ) → squeeze a xs low high (widths s.lo s.hi) s ≡ Some t → open_at 1 t.lo t.hi ≡ Some i → explore a xs low high (suc d) s ≡ None ∷ children (explore a xs low high d) t i (at t.lo i)
  explore_open d s t i e o = ap (examined d) e ∙ ap (opened d t) o
