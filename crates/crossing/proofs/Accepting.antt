-- What an accepted question and the entries of a roll are known to be.
use Rattle.std.proofs.Common.{◌≡◌, ℕ, zero, suc, ◌≤◌, Bool, true, ◌&&◌, ltb, leb, List, [], ◌∷◌, take, drop, ℤ, pos, ◌≤ℤ◌, Ok, arith}
use lib.Signed.{le_z}
use Rattle.std.specs.List.{AllByRecursion, list_all, zip}
use Rattle.std.specs.Ordering.{int_eq}
use Rattle.std.proofs.ByRecursion.{All-weaker}
use Rattle.std.proofs.lemmas.Bool.{and_parts, ltb-true, leb-true}
use Rattle.std.proofs.lemmas.Int.{ints}
use Rattle.measure.specs.declared.Band.{Band}
use Rattle.question.specs.Asking.{size_fits, table_size}
use Rattle.question.specs.declared.asking.Side.TheVariants.{Paid}
use Rattle.question.proofs.Asked.{passed}
use Rattle.crossed.specs.declared.asked.Question.{Question}
use Rattle.crossed.specs.declared.entries.Amounts.{Amounts}
use Rattle.crossed.specs.declared.entries.Columns.{Columns}
use Rattle.crossed.specs.declared.rolls.Roll.{Roll}
use Rattle.crossed.specs.Entries.{count_of, row_of, within, in_range, past_zero}
use Rattle.crossed.specs.Reachable.{Admitted}
use Rattle.crossed.specs.Rolls.{standing}
use Rattle.crossed.proofs.Kept.{well_formed}
use Rattle.crossing.specs.Asking.{end_within, band_fits, bands_fit, asking}
use Rattle.crossing.specs.Ranks.{Small, Bounded, Each, Ranged}
use Rattle.crossing.specs.Beginning.{Banded, Fits}

-- the two ends in one column
record Column (l h : ℤ) : Type 0 where
  low : Bounded l
  high : Bounded h
  order : l ≤ℤ h

bounded : (z : ℤ) → end_within z ≡ true → Bounded z
bounded z h = record { least = grind (arith, ints); most = grind (arith, ints) }

fitting : (l h : ℤ) → band_fits l h ≡ true → Column l h
fitting l h t =
    let p = and_parts (le_z l h && end_within l) (end_within h) t in
    let q = and_parts (le_z l h) (end_within l) p.0 in
    record { low = bounded l q.1; high = bounded h p.1; order = grind (arith, ints, q.0) }

abbrev is_zero : ℤ → Bool
is_zero z = int_eq z (pos 0)

zeros : (l h : ℤ) → is_zero l ≡ true → is_zero h ≡ true → Column l h
zeros l h p q = record {
  low = record { least = grind (arith, ints); most = grind (arith, ints) };
  high = record { least = grind (arith, ints); most = grind (arith, ints) };
  order = grind (arith, ints);
}

-- the first n columns fit, and the others are zero
all_fit : (n : ℕ) (xs ys : List ℤ) → list_all (λ p. band_fits p.0 p.1) (take n (zip xs ys)) ≡ true → list_all is_zero (drop n xs) ≡ true → list_all is_zero (drop n ys) ≡ true → AllByRecursion (λ p. Column p.0 p.1) (zip xs ys)
all_fit n [] ys t p q = tt
all_fit n (x ∷ xs) [] t p q = tt
all_fit zero (x ∷ xs) (y ∷ ys) t p q =
    let p2 = and_parts (is_zero x) (list_all is_zero xs) p in
    let q2 = and_parts (is_zero y) (list_all is_zero ys) q in
    (zeros x y p2.0 q2.0, all_fit zero xs ys t p2.1 q2.1)
all_fit (suc n) (x ∷ xs) (y ∷ ys) t p q =
    let t2 = and_parts (band_fits x y) (list_all (λ p. band_fits p.0 p.1) (take n (zip xs ys))) t in
    (fitting x y t2.0, all_fit n xs ys t2.1 p q)

banded : (d : Columns) (b : Band Amounts) → bands_fit d b ≡ true → past_zero d b.low ≡ true → past_zero d b.high ≡ true → Banded b
banded d b t p q =
    let c = all_fit (count_of d) (row_of b.low) (row_of b.high) t p q in
    record {
      lows = record { first = c.0.low; second = c.1.0.low; third = c.1.1.0.low; fourth = c.1.1.1.0.low };
      highs = record { first = c.0.high; second = c.1.0.high; third = c.1.1.0.high; fourth = c.1.1.1.0.high };
      order = record { first = c.0.order; second = c.1.0.order; third = c.1.1.0.order; fourth = c.1.1.1.0.order };
    }

-- what an accepted question is known to be
pub accepted_fits : (d : Columns) (n : ℕ) (q : Question) (room : ℕ) → n ≤ 120 → asking d n q room ≡ Ok tt → Fits n q room
accepted_fits d n q room few h =
    let sized = passed (size_fits Paid n q.size) _ _ h in
    let fit = passed (bands_fit d q.band) _ _ sized.1 in
    let roomy = passed (leb (table_size n q.size) room) _ _ fit.1 in
    let zero = passed (past_zero d q.band.low && past_zero d q.band.high) _ _ roomy.1 in
    let size = and_parts (ltb 0 q.size) (leb q.size n) sized.0 in
    let ends = and_parts (past_zero d q.band.low) (past_zero d q.band.high) zero.0 in
    record {
      some = ltb-true 0 q.size size.0;
      most = leb-true q.size n size.1;
      few = few;
      band = banded d q.band fit.0 ends.0 ends.1;
      table = leb-true (table_size n q.size) room roomy.0;
    }

small : (z : ℤ) → within z ≡ true → Small z
small z h = record { least = grind (arith, ints); most = grind (arith, ints) }

zero-small : (z : ℤ) → is_zero z ≡ true → Small z
zero-small z h = record { least = grind (arith, ints); most = grind (arith, ints) }

-- the first n amounts are in range, and the others are zero
all_small : (n : ℕ) (xs : List ℤ) → list_all within (take n xs) ≡ true → list_all is_zero (drop n xs) ≡ true → AllByRecursion Small xs
all_small n [] r p = tt
all_small zero (x ∷ xs) r p = let p2 = and_parts (is_zero x) (list_all is_zero xs) p in (zero-small x p2.0, all_small zero xs r p2.1)
all_small (suc n) (x ∷ xs) r p = let r2 = and_parts (within x) (list_all within (take n xs)) r in (small x r2.0, all_small n xs r2.1 p)

small_columns : (d : Columns) (a : Amounts) → in_range d a ≡ true → past_zero d a ≡ true → Each Small a
small_columns d a r p = let s = all_small (count_of d) (row_of a) r p in record { first = s.0; second = s.1.0; third = s.1.1.0; fourth = s.1.1.1.0 }

-- the amounts of what stands on a roll are in range
pub ranged : (r : Roll) → Ranged (standing r)
ranged r = All-weaker (Admitted r.columns) (λ e. Each Small e.value) (λ e h. small_columns r.columns e.value h.1 h.2) (standing r) (well_formed r).1
