-- The sets of an accepted question have as many places as it names.
use Rattle.std.proofs.Common.{◌≡◌, ◌≤◌, List, [], ◌∷◌, length, sym, refl, subst, inl, inr, arith}
use Rattle.std.specs.List.{AllByRecursion}
use Rattle.std.proofs.lemmas.List.{length-map}
use Rattle.sets.specs.Orders.{In}
use Rattle.sets.specs.Trace.{somes}
use Rattle.sets.specs.Crossings.{Crosses}
use Rattle.sets.proofs.Crossed.{crossed_sound}
use Rattle.exploring.specs.Meaning.{size_of}
use Rattle.crossed.specs.declared.asked.Question.{Question}
use Rattle.crossed.specs.Entries.{Entry, row_of}
use Rattle.crossing.specs.Ranks.{Rank, rows_of}
use Rattle.crossing.specs.Meaning.{to_come}
use Rattle.crossing.specs.Beginning.{Starts}
use Rattle.crossing.specs.declared.state.Search.{Search}
use Rattle.listing.specs.Listing.{coming}

all_from_in : {X : Type 0} (P : X → Type 0) (xs : List X) → ((x : X) → In x xs → P x) → AllByRecursion P xs
all_from_in P [] h = tt
all_from_in P (x ∷ xs) h = (h x (inl refl), all_from_in P xs (λ y i. h y (inr i)))

four-columns : (xs : List Entry) → AllByRecursion (λ x. length x ≡ 4) (rows_of xs)
four-columns [] = tt
four-columns (x ∷ xs) = (refl, four-columns xs)

coming_sized : (xs : List Entry) (q : Question) → 1 ≤ q.size → q.size ≤ length xs → AllByRecursion (λ s. length s ≡ q.size) (somes (coming xs q))
coming_sized xs q some most =
    let crosses : Crosses 3 (rows_of xs) (row_of q.band.low) (row_of q.band.high) q.size = record {
      entries = four-columns xs;
      low_columns = refl;
      high_columns = refl;
      some = omega arith;
      room = omega (arith, length-map xs (λ e. row_of e.value));
    } in
    all_from_in (λ s. length s ≡ q.size) (somes (coming xs q)) (λ s i. (crossed_sound 3 (rows_of xs) (row_of q.band.low) (row_of q.band.high) q.size crosses s i).places.size)

-- those that its search has to come
pub starts_sized : (xs : List Entry) (q : Question) (was : List Rank) (s : Search) → 1 ≤ q.size → q.size ≤ length xs → Starts xs q was s → AllByRecursion (λ ps. length ps ≡ size_of s.straight) (somes (to_come s))
starts_sized xs q was s some most h =
    subst (λ t. AllByRecursion (λ ps. length ps ≡ size_of s.straight) (somes t)) (sym h.comes)
    (subst (λ m. AllByRecursion (λ ps. length ps ≡ m) (somes (coming xs q))) (sym h.over.size) (coming_sized xs q some most))
