-- A run over one trace and then another, and the rank totals that are left.
use Rattle.std.proofs.Common.{◌≡◌, ℕ, zero, suc, ◌+◌, ◌-◌, ◌<◌, ◌≤◌, [], ◌∷◌, ◌++◌, Some, None, sym, refl, ap, ◌∙◌, add-zero, arith}
use Rattle.std.specs.List.{range_with_len, flat_map}
use Rattle.sets.specs.Trace.{Trace}
use Rattle.sets.specs.Advance.{End, set, spent, finished, Run, run}
use Rattle.exploring.specs.Meaning.{told_of}
use Rattle.exploring.specs.declared.state.Told.TheVariants.{Finished}

-- how a run goes on over ys after n steps over the trace before, with so many steps allowed in all and others counted already
abbrev goes_on : Trace → ℕ → ℕ → End → ℕ → Trace → Run
goes_on ys all steps (set ps) n rest = record { end = set ps; steps = steps + n; rest = rest ++ ys }
goes_on ys all steps spent n rest = record { end = spent; steps = steps + n; rest = rest ++ ys }
goes_on ys all steps finished n rest = run ys (all - n) (steps + n)

chained : (xs ys : Trace) (left k steps : ℕ) → run (xs ++ ys) left (steps + k) ≡ goes_on ys (left + k) steps (run xs left k).end (run xs left k).steps (run xs left k).rest
chained [] ys left k steps = let l : left ≡ left + k - k = omega arith in ap (λ q. run ys q (steps + k)) l
chained (None ∷ xs) ys zero k steps = refl
chained (Some ps ∷ xs) ys zero k steps = refl
chained (None ∷ xs) ys (suc left) k steps =
    let one : steps + k + 1 ≡ steps + (k + 1) = omega arith in
    let all : left + (k + 1) ≡ suc left + k = omega arith in
    ap (run (xs ++ ys) left) one ∙ chained xs ys left (k + 1) steps ∙ ap (λ q. goes_on ys q steps (run xs left (k + 1)).end (run xs left (k + 1)).steps (run xs left (k + 1)).rest) all
chained (Some ps ∷ xs) ys (suc left) k steps =
    let one : steps + k + 1 ≡ steps + (k + 1) = omega arith in
    ap (λ q. record { end = set ps; steps = q; rest = xs ++ ys }) one

chained_from : (xs ys : Trace) (left steps : ℕ) → run (xs ++ ys) left steps ≡ goes_on ys left steps (run xs left 0).end (run xs left 0).steps (run xs left 0).rest
chained_from xs ys left steps =
    ap (run (xs ++ ys) left) (sym (add-zero steps)) ∙ chained xs ys left 0 steps
    ∙ ap (λ q. goes_on ys q steps (run xs left 0).end (run xs left 0).steps (run xs left 0).rest) (add-zero left)

ended : (ys : Trace) (all steps : ℕ) (e : End) (n : ℕ) (rest : Trace) → (told_of e ≡ Finished → ⊥) → goes_on ys all steps e n rest ≡ record { end = e; steps = steps + n; rest = rest ++ ys }
ended ys all steps (set ps) n rest h = refl
ended ys all steps spent n rest h = refl
ended ys all steps finished n rest h = absurd (h refl)

passed : (ys : Trace) (all steps : ℕ) (e : End) (n : ℕ) (rest : Trace) → told_of e ≡ Finished → goes_on ys all steps e n rest ≡ run ys (all - n) (steps + n)
passed ys all steps (set ps) n rest h = cc
passed ys all steps spent n rest h = cc
passed ys all steps finished n rest h = refl

-- a run that ends within the first trace
pub run_ends : (xs ys : Trace) (left steps : ℕ) → (told_of (run xs left 0).end ≡ Finished → ⊥) → run (xs ++ ys) left steps ≡ record { end = (run xs left 0).end; steps = steps + (run xs left 0).steps; rest = (run xs left 0).rest ++ ys }
run_ends xs ys left steps h = chained_from xs ys left steps ∙ ended ys left steps (run xs left 0).end (run xs left 0).steps (run xs left 0).rest h

-- a run that goes on over the second
pub run_passes : (xs ys : Trace) (left steps : ℕ) → told_of (run xs left 0).end ≡ Finished → run (xs ++ ys) left steps ≡ run ys (left - (run xs left 0).steps) (steps + (run xs left 0).steps)
run_passes xs ys left steps h = chained_from xs ys left steps ∙ passed ys left steps (run xs left 0).end (run xs left 0).steps (run xs left 0).rest h

-- a run that finished has nothing left
pub run-over : (xs : Trace) (left k : ℕ) → told_of (run xs left k).end ≡ Finished → (run xs left k).rest ≡ []
run-over [] left k h = refl
run-over (None ∷ xs) zero k h = cc
run-over (Some ps ∷ xs) zero k h = cc
run-over (None ∷ xs) (suc left) k h = run-over xs left (k + 1) h
run-over (Some ps ∷ xs) (suc left) k h = cc

-- the first of the rank totals that are left, and the others
pub flat_map_next : (f : ℕ → Trace) (r last : ℕ) → r < last → flat_map f (range_with_len (r + 1) (last - r)) ≡ f (r + 1) ++ flat_map f (range_with_len (r + 1 + 1) (last - (r + 1)))
flat_map_next f r last h =
    let k : last - r ≡ suc (last - (r + 1)) = omega arith in
    ap (λ q. flat_map f (range_with_len (r + 1) q)) k

-- none is left after the last
pub joined_none : (f : ℕ → Trace) (r last : ℕ) → last ≤ r → flat_map f (range_with_len (r + 1) (last - r)) ≡ []
joined_none f r last h =
    let k : last - r ≡ 0 = omega arith in
    ap (λ q. flat_map f (range_with_len (r + 1) q)) k
