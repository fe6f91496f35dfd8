-- The first open position of a space, found along its lower and its upper places.
use Rattle.std.proofs.Common.{◌≡◌, ℕ, List, ◌<◌, ◌≤◌, length, get_or, take, None, Some, Option, ap, ◌∙◌, arith, MatchOption}
use Rattle.std.proofs.lemmas.List.{length-take-le, get_or-take}
use Rattle.std.proofs.lemmas.Slice.Zip.{get_or-zip, length-zip}
use Rattle.std.specs.List.{zip, AllWithin, HoldsAt}
use Rattle.squeezing.specs.declared.frame.Frame.{Frame}
use Rattle.exploring.specs.Settled.{SettledBelow, OpensAt}

module _ (f : Frame) (long : length f.lo ≡ 120) (high : length f.hi ≡ 120) where
  abbrev pairs : List (ℕ × ℕ)
  pairs = zip (take f.m f.lo) (take f.m f.hi)

  many : length pairs ≡ f.m
  many = omega (arith, length-zip (take f.m f.lo) (take f.m f.hi), length-take-le f.m f.lo (omega (arith, f.small)), length-take-le f.m f.hi (omega (arith, f.small)))

  pair_at : (j : ℕ) → j < f.m → get_or pairs j (0, 0) ≡ (get_or f.lo j 0, get_or f.hi j 0)
  pair_at j h =
      get_or-zip (take f.m f.lo) (take f.m f.hi) j (0, 0) (omega (arith, length-take-le f.m f.lo (omega (arith, f.small)))) (omega (arith, length-take-le f.m f.hi (omega (arith, f.small))))
      ∙ ap (λ x. (x, get_or (take f.m f.hi) j 0)) (get_or-take f.m f.lo j 0 h)
      ∙ ap (λ y. (get_or f.lo j 0, y)) (get_or-take f.m f.hi j 0 h)

  settled_to : (i : ℕ) → i ≤ f.m → AllWithin (λ (p : ℕ × ℕ). p.1 ≤ p.0) pairs 0 i → SettledBelow f i
  settled_to i h all j l = let e = pair_at j (omega arith) in let k = all j (0, 0) (omega arith) l in omega (arith, ap (λ (p : ℕ × ℕ). p.0) e, ap (λ (p : ℕ × ℕ). p.1) e, f.under j (omega arith))

  pub first_opens : (o : Option ℕ) → MatchOption o (AllWithin (λ (p : ℕ × ℕ). p.1 ≤ p.0) pairs 0 (length pairs)) (λ i. (i < length pairs) × HoldsAt (λ (p : ℕ × ℕ). p.0 < p.1) pairs i × AllWithin (λ (p : ℕ × ℕ). p.1 ≤ p.0) pairs 0 i) → MatchOption o (SettledBelow f f.m) (OpensAt f)
  first_opens None all = settled_to f.m (omega arith) (λ j d l h. all j d l (omega (arith, many)))
  first_opens (Some i) found =
      let e = pair_at i (omega (arith, found.0, many)) in (
        omega (arith, found.0, many),
        omega (arith, found.1 (0, 0), ap (λ (p : ℕ × ℕ). p.0) e, ap (λ (p : ℕ × ℕ). p.1) e),
        settled_to i (omega (arith, found.0, many)) found.2,
      )
