-- What calls keep gives totals and searches what they ask.
use Rattle.std.proofs.Common.{◌≡◌, ℕ, ◌≤◌, true, leb, List, [], ◌∷◌}
use Rattle.std.specs.List.{AllByRecursion}
use Rattle.std.proofs.ByRecursion.{All-weaker}
use Rattle.std.proofs.lemmas.Bool.{leb-true, and_parts}
use Rattle.measure.specs.Algebra.{Algebra, Row, Own}
use Rattle.sets.specs.Sets.{Climbs}
use Rattle.roll.specs.Books.{Ordered, Kept}
use Rattle.roll.specs.Books.{kind}
use Rattle.roll.specs.Totals.{rows_of, Few, Ready}
use Rattle.roll.specs.declared.entry.Entry.{Entry}

module _ {M : Type 0} (a : Algebra) (row : M → Row) (span : M → ℕ) where
  pub kept_few : (xs : List (Entry M)) → Kept (kind a row span) xs → Few span xs
  kept_few xs h = record {
    count = h.few;
    each = All-weaker (λ x. leb (span x.value) 1 ≡ true) (λ x. span x.value ≤ 1) (λ x q. leb-true (span x.value) 1 q) xs h.admitted;
  }

  climbs : (xs : List (Entry M)) → Ordered (kind a row span) xs → Climbs a (rows_of row xs)
  climbs [] h = tt
  climbs (x ∷ []) h = tt
  climbs (x ∷ y ∷ xs) h = ((and_parts (a.not_above (row x.value) (row y.value)) _ h.0.0).0, climbs (y ∷ xs) h.1)

  own_rows : ((v : M) → Own a (row v)) → (xs : List (Entry M)) → AllByRecursion (Own a) (rows_of row xs)
  own_rows o [] = tt
  own_rows o (x ∷ xs) = (o x.value, own_rows o xs)

  pub ready : ((v : M) → Own a (row v)) → Ready a row span
  ready o xs h = (kept_few xs h, record { own = own_rows o xs; climbs = climbs xs h.ordered })
