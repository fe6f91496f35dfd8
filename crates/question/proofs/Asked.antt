-- What is known of an accepted question, and of the ends of its sought band.
use Rattle.std.proofs.Common.{◌≡◌, ℕ, ◌+◌, ◌≤◌, Bool, true, false, cond, ltb, leb, List, length, Ok, Err, Result, sym, refl, ap, ◌∙◌, arith}
use Rattle.std.specs.List.{range_with_len}
use Rattle.std.proofs.lemmas.List.{length-map}
use Rattle.std.proofs.lemmas.Bool.{and_parts, ltb-true, leb-true}
use Rattle.measure.specs.Algebra.{Algebra, Row}
use Rattle.sets.specs.Sets.{total}
use Rattle.roll.specs.declared.entry.Entry.{Entry}
use Rattle.roll.specs.declared.refusal.Refusal.{Refusal}
use Rattle.roll.specs.Totals.{rows_of, Few, Totals}
use Rattle.question.specs.declared.asking.Side.{Side}
use Rattle.question.specs.declared.asking.Side.TheVariants.{Paid, Left}
use Rattle.question.specs.declared.asking.Question.{Question}
use Rattle.question.specs.Asking.{Needed, sought, size_fits, band_fits, table_size, asking, end, total_of_all}

-- where a test that fails refuses, an accepted answer tells that it held
pub passed : (b : Bool) (x : Result (Unit {0}) Refusal) (e : Refusal) → cond b x (Err e) ≡ Ok tt → (b ≡ true) × (x ≡ Ok tt)
passed true x e h = (refl, h)
passed false x e h = cc

sought_some : (side : Side) (n l : ℕ) → size_fits side n l ≡ true → 1 ≤ sought side n l
sought_some Paid n l h = let p = and_parts (ltb 0 l) (leb l n) h in ltb-true 0 l p.0
sought_some Left n l h = let p = and_parts (ltb 0 l) (ltb l n) h in omega (arith, ltb-true l n p.1)

sought_most : (side : Side) (n l : ℕ) → size_fits side n l ≡ true → sought side n l ≤ n
sought_most Paid n l h = let p = and_parts (ltb 0 l) (leb l n) h in leb-true l n p.1
sought_most Left n l h = omega arith

-- what an accepted question with a table of so many values is known to be
pub record Accepted {M : Type 0} (span : M → ℕ) (n : ℕ) (q : Question M) (cells : ℕ) : Type 0 where
  pub some : 1 ≤ sought q.side n q.size
  pub most : sought q.side n q.size ≤ n
  pub low : span q.band.low ≤ 1
  pub high : span q.band.high ≤ 1
  pub room : table_size n (sought q.side n q.size) ≤ cells

pub accepted : {M : Type 0} (a : Algebra) (row : M → Row) (span : M → ℕ) (n : ℕ) (q : Question M) (cells : ℕ) → asking a row span n q cells ≡ Ok tt → Accepted span n q cells
accepted a row span n q cells h =
    let sized = passed (size_fits q.side n q.size) _ _ h in
    let banded = passed (band_fits a row span q.band) _ _ sized.1 in
    let roomy = passed (leb (table_size n (sought q.side n q.size)) cells) _ _ banded.1 in
    let ends = and_parts _ _ (and_parts (a.not_above (row q.band.low) (row q.band.high)) _ banded.0).1 in
    record {
      some = sought_some q.side n q.size sized.0;
      most = sought_most q.side n q.size sized.0;
      low = leb-true (span q.band.low) 1 ends.0;
      high = leb-true (span q.band.high) 1 ends.1;
      room = leb-true _ cells roomy.0;
    }

-- what holds is there for the side that needs it
pub needed : (side : Side) {T : Type 0} → T → Needed side T
needed Paid t = tt
needed Left t = t

-- an end of the band of the paid side is as asked
pub end_paid : (a : Algebra) (side : Side) (T : Type 0) (all this other x : Row) → side ≡ Paid → (Needed side T → x ≡ end a side all this other) → x ≡ this
end_paid a Paid T all this other x e h = h tt
end_paid a Left T all this other x e h = cc

-- an end of the sought band, worked out from what all entries come to
pub end_is : {M : Type 0} (a : Algebra) (row : M → Row) (span : M → ℕ) (xs : List (Entry M)) (all : M) (side : Side) (this other r : M) → Few span xs → Needed side (Totals a row span xs all) → span other ≤ 1 → (Needed side (span all + span other ≤ 240) → row r ≡ end a side (row all) (row this) (row other)) → row r ≡ end a side (total_of_all a (rows_of row xs)) (row this) (row other)
end_is a row span xs all Paid this other r few totals small exact = exact tt
end_is a row span xs all Left this other r few totals small exact =
    let many : length (rows_of row xs) ≡ length xs = length-map xs (λ e. row e.value) in
    exact (omega (arith, totals.small, few.count)) ∙ ap (λ z. end a Left z (row this) (row other)) (totals.exact ∙ ap (λ k. total a (rows_of row xs) (range_with_len 1 k)) (sym many))
