-- The shadows of entries, one after another.
use Rattle.std.proofs.Common.{◌≡◌, ℕ, suc, ◌+◌, ◌<◌, ◌≤◌, List, [], ◌∷◌, ◌++◌, length, get_or, take, set, ℤ, pos, negsuc, ◌+ℤ◌, ◌*ℤ◌, ◌≤ℤ◌, sym, ap, ◌∙◌, subst, ap₂, add-zero, arith}
use Rattle.std.specs.List.{AllByRecursion}
use Rattle.std.proofs.lemmas.List.{take_more, take_more_set, length-map, length-take-le, map-append}
use Rattle.std.proofs.ByRecursion.{All-get_or, All-push}
use Rattle.std.proofs.lemmas.Int.{ints}
use Rattle.measure.specs.Algebra.{Row}
use Rattle.measure.specs.Cents.{span_of}
use Rattle.sets.specs.Crossings.{cell}
use Rattle.sets.specs.Crossed.{shadow, shadows}
use Rattle.roll.specs.declared.entry.Entry.{Entry as Shadow}
use Rattle.roll.specs.Totals.{rows_of as rows_by}
use Rattle.crossed.specs.declared.entries.Amounts.{Amounts}
use Rattle.crossed.specs.Entries.{Entry, row_of}
use Rattle.crossing.specs.Ranks.{Rank, rank_row, rank_span, rows_of, Fallen, Small, Bounded, Each, Ranged}
use Rattle.crossing.specs.Beginning.{Casts}
use Rattle.crossing.proofs.Shadows.{raise}

small_bounded : (z : ℤ) → Small z → Bounded z
small_bounded z s = record { least = omega (arith, ints, s.least); most = omega (arith, ints, s.most) }

each_bounded : (a : Amounts) → Each Small a → Each Bounded a
each_bounded a s = record {
  first = small_bounded a.first s.first;
  second = small_bounded a.second s.second;
  third = small_bounded a.third s.third;
  fourth = small_bounded a.fourth s.fourth;
}

one_span : (z : ℤ) → negsuc 1999999999999999 ≤ℤ z → z ≤ℤ pos 2000000000000000 → span_of z ≤ 1
one_span (pos n) a b = let l : n ≤ 2000000000000000 = omega (arith, ints, b) in omega arith
one_span (negsuc n) a b = let l : n ≤ 1999999999999999 = omega (arith, ints, a) in omega arith

span_column : (amount fall : ℤ) (r : ℕ) → Bounded amount → Fallen fall → r ≤ 7260 → span_of (amount +ℤ fall *ℤ pos r) ≤ 1
span_column amount fall r b f l =
    let up = raise fall r f l in
    one_span (amount +ℤ fall *ℤ pos r) (omega (arith, ints, up.least, b.least)) (omega (arith, ints, up.most, b.most))

span_bounded : (z : ℤ) → Bounded z → span_of z ≤ 1
span_bounded z b = one_span z (omega (arith, ints, b.least)) (omega (arith, ints, b.most))

spans : (v : Rank) (a b c d e : ℤ) → rank_row v ≡ (a ∷ b ∷ c ∷ d ∷ e ∷ []) → span_of a ≤ 1 → span_of b ≤ 1 → span_of c ≤ 1 → span_of d ≤ 1 → span_of e ≤ 1 → rank_span v ≤ 1
spans v a b c d e row p q r s t =
    let at : (n : ℕ) → span_of (cell n (a ∷ b ∷ c ∷ d ∷ e ∷ [])) ≤ 1 → span_of (cell n (rank_row v)) ≤ 1 = λ n. subst (λ x. span_of (cell n x) ≤ 1) (sym row) in
    let first : span_of v.first.value ≤ 1 = at 0 p in
    let second : span_of v.second.first.value ≤ 1 = at 1 q in
    let third : span_of v.second.second.first.value ≤ 1 = at 2 r in
    let fourth : span_of v.second.second.second.first.value ≤ 1 = at 3 s in
    let fifth : span_of v.second.second.second.second.value ≤ 1 = at 4 t in
    omega arith

-- an end with rank 0 has a span of 1 at most
pub end-small : (v : Rank) (a : Amounts) → Each Bounded a → rank_row v ≡ pos 0 ∷ row_of a → rank_span v ≤ 1
end-small v a b e =
    spans v (pos 0) a.first a.second a.third a.fourth e (omega arith) (span_bounded a.first b.first) (span_bounded a.second b.second) (span_bounded a.third b.third) (span_bounded a.fourth b.fourth)

-- and so has a shadow
rank_small : (v : Rank) (falls a : Amounts) (r : ℕ) → Each Fallen falls → Each Bounded a → r ≤ 7260 → rank_row v ≡ shadow (row_of falls) r (row_of a) → rank_span v ≤ 1
rank_small v falls a r f b l e =
    spans v _ _ _ _ _ e (one_span (pos r) (omega (arith, ints)) (omega (arith, ints))) (span_column a.first falls.first r b.first f.first l) (span_column a.second falls.second r b.second f.second l)
    (span_column a.third falls.third r b.third f.third l) (span_column a.fourth falls.fourth r b.fourth f.fourth l)

shadows_more : (α : Row) (p : ℕ) (xs : List Row) (x : Row) → shadows α p (xs ++ (x ∷ [])) ≡ shadows α p xs ++ (shadow α (p + length xs) x ∷ [])
shadows_more α p [] x = ap (λ k. shadow α k x ∷ []) (sym (add-zero p))
shadows_more α p (y ∷ ys) x =
    let k : suc p + length ys ≡ p + length (y ∷ ys) = omega arith in
    ap (λ l. shadow α p y ∷ l) (shadows_more α (suc p) ys x ∙ ap (λ q. shadows α (suc p) ys ++ (shadow α q x ∷ [])) k)

-- the amounts of an entry are bounded
bounded_at : (xs : List Entry) (i : ℕ) (one : Entry) → Ranged xs → i < length xs → one ≡ get_or xs i one → Each Bounded one.value
bounded_at xs i one ranged here at = each_bounded one.value (subst (λ o. Each Small o.value) (sym at) (All-get_or (λ o. Each Small o.value) xs i one here ranged))

-- one shadow more
pub casts_more : (falls : Amounts) (xs : List Entry) (ys : List (Shadow Rank)) (i : ℕ) (one : Entry) (e : Shadow Rank) → Ranged xs → Each Fallen falls → i < length xs → length xs ≤ 120 → i < length ys → one ≡ get_or xs i one → rank_row e.value ≡ shadow (row_of falls) (i + 1) (row_of one.value) → Casts (row_of falls) (take i xs) (take i ys) → Casts (row_of falls) (take (i + 1) xs) (take (i + 1) (set ys i e))
casts_more falls xs ys i one e ranged fallen here few room at row was =
    let α : Row = row_of falls in
    let b = bounded_at xs i one ranged here at in
    let ys_more = take_more_set ys i e room in
    let xs_more : take (i + 1) xs ≡ take i xs ++ (one ∷ []) = take_more xs i one here ∙ ap (λ o. take i xs ++ (o ∷ [])) (sym at) in
    let many : length (rows_of (take i xs)) ≡ i = length-map (take i xs) (λ o. row_of o.value) ∙ length-take-le i xs (omega arith) in
    let place : 1 + length (rows_of (take i xs)) ≡ i + 1 = omega arith in
    record {
      rows =
          ap (rows_by rank_row) ys_more ∙ map-append (λ o. rank_row o.value) (take i ys) (e ∷ [])
          ∙ ap₂ (λ l r. l ++ (r ∷ [])) was.rows row
          ∙ ap (λ k. shadows α 1 (rows_of (take i xs)) ++ (shadow α k (row_of one.value) ∷ [])) (sym place)
          ∙ sym (shadows_more α 1 (rows_of (take i xs)) (row_of one.value))
          ∙ ap (shadows α 1) (sym (map-append (λ o. row_of o.value) (take i xs) (one ∷ [])))
          ∙ ap (λ l. shadows α 1 (rows_of l)) (sym xs_more);
      small = subst (AllByRecursion (λ o. rank_span o.value ≤ 1)) (sym ys_more) (All-push (λ o. rank_span o.value ≤ 1) (take i ys) e was.small (rank_small e.value falls one.value (i + 1) fallen b (omega arith) row));
    }
