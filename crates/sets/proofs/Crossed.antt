-- A crossed search tells the sets whose totals lie in the band in each column, each once and in order, in a bounded number of steps.
use Rattle.std.proofs.Common.{◌≡◌, ℕ, zero, suc, ◌+◌, ◌-◌, ◌*◌, ◌<◌, ◌≤◌, Bool, true, ◌&&◌, eqb, leb, List, [], ◌∷◌, length, get_or, pos, ◌+ℤ◌, ◌-ℤ◌, ◌*ℤ◌, ◌≤ℤ◌, filter, sym, refl, ap, ◌∙◌, subst, ap₂, inl, inr, arith}
use Rattle.std.specs.Int.{int_max}
use Rattle.std.specs.List.{flat_map, AllByRecursion}
use Rattle.std.proofs.ByRecursion.{All-get_or, All-weaker, kept_by_passes}
use mathlib.Core.Bool.{and-true}
use mathlib.Core.Path.{fun_ext}
use Rattle.std.proofs.lemmas.List.Concat.{length-flat_map}
use Rattle.std.proofs.lemmas.List.Sums.{sum_by-le}
use Rattle.std.proofs.lemmas.Bool.Decides.{nat_tests}
use Rattle.std.proofs.lemmas.Bool.{false_from_ne_true, and_from, and_parts, and_right, cases_eq, eq-eqb, eqb-true, ne_eqb, le-leb}
use Rattle.measure.specs.Algebra.{Row, Own, NotAbove}
use Rattle.sets.specs.Sets.{Rows, Climbs, sets, total, at_place, in_band}
use Rattle.sets.specs.Trace.{Trace, trace, somes}
use Rattle.sets.specs.Orders.{Among, In, Sorted, Lex, Distinct}
use Rattle.sets.specs.Crossed.{amounts, falls, shadow, shadows, place_sum, least_total, greatest_total, rank_totals, crossed, crossed_solutions}
use Rattle.sets.specs.Crossings.{cell, column_total, Lies, Before, Crosses, Solves}
use Rattle.sets.proofs.Vectors.{Rising, Upto}
use Rattle.sets.proofs.Members.{all_of, all_in, lex_irreflexive, sets_sorted}
use Rattle.sets.proofs.Kept.{kept_same}
use Rattle.sets.proofs.Trace.{members, of_sets, is_member, somes-flat_map}
use Rattle.sets.proofs.Agreement.{finds, counts}
use Rattle.sets.proofs.Amounts.{raised, Wide, more, own_wide, wide_own, part_wide, nothing_wide, amounts_laws, raised-plus, raised-nothing, raised_order, raised-climbs, steeper, length-own, nothing_column, plus_column, above_column, column_above}
use Rattle.sets.proofs.Listed.{in_kept, kept_in, in_joined, joined_in, sorted_kept, sorted_among, sorted_joined}
use Rattle.sets.proofs.Ranks.{rank_totals_are, in_rank_totals, length-rank_totals}

-- the falls are a row of k + 1 numbers
falls_wide : (k : ℕ) (xs : List Row) → AllByRecursion (Own (amounts k)) xs → Wide k (falls k xs)
falls_wide k [] o = nothing_wide k
falls_wide k (x ∷ []) o = nothing_wide k
falls_wide k (x ∷ y ∷ xs) o = part_wide int_max (part_wide ◌-ℤ◌ (own_wide k x o.0) (own_wide k y o.1.0)) (falls_wide k (y ∷ xs) o.1)

shadows-length : (α : Row) (p : ℕ) (xs : List Row) → length (shadows α p xs) ≡ length xs
shadows-length α p [] = refl
shadows-length α p (x ∷ xs) = ap suc (shadows-length α (suc p) xs)

shadows_at : (α : Row) (p : ℕ) (xs : List Row) (i : ℕ) → i < length xs → get_or (shadows α p xs) i [] ≡ shadow α (p + i) (get_or xs i [])
shadows_at α p [] i l = absurd (omega arith)
shadows_at α p (x ∷ xs) zero l = let e : p ≡ p + 0 = omega arith in ap (λ q. shadow α q x) e
shadows_at α p (x ∷ xs) (suc i) l = let e : suc p + i ≡ p + suc i = omega arith in shadows_at α (suc p) xs i (omega arith) ∙ ap (λ q. shadow α q (get_or xs i [])) e

-- the entry at a place is shadowed by that place
shadow-place : (α : Row) (xs : List Row) (p : ℕ) → 0 < p → p ≤ length xs → at_place (shadows α 1 xs) p ≡ shadow α p (at_place xs p)
shadow-place α xs p l h = let e : 1 + (p - 1) ≡ p = omega arith in shadows_at α 1 xs (p - 1) (omega arith) ∙ ap (λ q. shadow α q (at_place xs p)) e

shadow-own : {k : ℕ} {α x : Row} → Wide k α → Wide k x → (r : ℕ) → Own (amounts (suc k)) (shadow α r x)
shadow-own a b r = wide_own (more (pos r) (part_wide (λ m v. v +ℤ m *ℤ pos r) a b))

shadows-own : (k : ℕ) (α : Row) → Wide k α → (p : ℕ) (xs : List Row) → AllByRecursion (Own (amounts k)) xs → AllByRecursion (Own (amounts (suc k))) (shadows α p xs)
shadows-own k α a p [] o = tt
shadows-own k α a p (x ∷ xs) o = (shadow-own a (own_wide k x o.0) p, shadows-own k α a (suc p) xs o.1)

-- shadowed rows never fall, where no fall is above α
shadows_climb : (k : ℕ) (α : Row) → Wide k α → (p : ℕ) (xs : List Row) → AllByRecursion (Own (amounts k)) xs → NotAbove (amounts k) (falls k xs) α → Climbs (amounts (suc k)) (shadows α p xs)
shadows_climb k α a p [] o h = tt
shadows_climb k α a p (x ∷ []) o h = tt
shadows_climb k α a p (x ∷ y ∷ xs) o h =
    let wx : Wide k x = own_wide k x o.0 in
    let wy : Wide k y = own_wide k y o.1.0 in
    let ws : Wide k (falls k (y ∷ xs)) = falls_wide k (y ∷ xs) o.1 in
    (and_from (leb p (suc p)) ((amounts k).not_above (raised α p x) (raised α (suc p) y)) (le-leb p (suc p) (omega arith)) (raised-climbs a wx wy ws p h), shadows_climb k α a (suc p) (y ∷ xs) o.1 (steeper a (part_wide ◌-ℤ◌ wx wy) ws h))

-- what is searched is what a straight search asks for
shadow_rows : (k : ℕ) (xs : List Row) → AllByRecursion (Own (amounts k)) xs → Rows (amounts (suc k)) (shadows (falls k xs) 1 xs)
shadow_rows k xs o =
    let a : Wide k (falls k xs) = falls_wide k xs o in
    record { own = shadows-own k (falls k xs) a 1 xs o; climbs = shadows_climb k (falls k xs) a 1 xs o ((amounts_laws k).reflexive (falls k xs) (wide_own a)) }

module _ (k : ℕ) (xs : List Row) (o : AllByRecursion (Own (amounts k)) xs) where
  place_wide : (p : ℕ) → 0 < p → p ≤ length xs → Wide k (at_place xs p)
  place_wide p l h = own_wide k (at_place xs p) (All-get_or (Own (amounts k)) xs (p - 1) [] (omega arith) o)

  total_wide : (b : ℕ) (s : List ℕ) → Rising b s → Upto (length xs) s → Wide k (total (amounts k) xs s)
  total_wide b [] r u = nothing_wide k
  total_wide b (p ∷ s) r u = own_wide k (total (amounts k) xs (p ∷ s)) ((amounts_laws k).plus_own (at_place xs p) (total (amounts k) xs s) (wide_own (place_wide p (omega arith) u.0)) (wide_own (total_wide p s r.1 u.1)))

  -- a total column by column
  total_column : (b : ℕ) (s : List ℕ) → Rising b s → Upto (length xs) s → (c : ℕ) → c ≤ k → cell c (total (amounts k) xs s) ≡ column_total c xs s
  total_column b [] r u c l = nothing_column k c
  total_column b (p ∷ s) r u c l = plus_column (place_wide p (omega arith) u.0) (total_wide p s r.1 u.1) c l ∙ ap (λ z. cell c (at_place xs p) +ℤ z) (total_column p s r.1 u.1 c l)

  -- a set's shadowed total is its total, shadowed by the sum of its places
  shadow-total : (α : Row) → Wide k α → (b : ℕ) (s : List ℕ) → Rising b s → Upto (length xs) s → total (amounts (suc k)) (shadows α 1 xs) s ≡ shadow α (place_sum s) (total (amounts k) xs s)
  shadow-total α a b [] r u = ap (λ x. pos 0 ∷ x) (sym (raised-nothing a))
  shadow-total α a b (p ∷ s) r u =
      ap₂ (λ x y. (amounts (suc k)).plus x y) (shadow-place α xs p (omega arith) u.0) (shadow-total α a p s r.1 u.1)
      ∙ ap (λ x. pos (p + place_sum s) ∷ x) (raised-plus a (place_wide p (omega arith) u.0) (total_wide p s r.1 u.1) p (place_sum s))

module _ (k : ℕ) (α low high t : Row) (a : Wide k α) (l : Wide k low) (h : Wide k high) (w : Wide k t) where
  -- with the rank total of the band, a row lies in the shadowed band just if it lies in the band
  band_here : (β : ℕ) → in_band (amounts (suc k)) (shadow α β low) (shadow α β high) (shadow α β t) ≡ in_band (amounts k) low high t
  band_here β = grind (arith, nat_tests, raised_order a l w β, raised_order a w h β)

  -- with another rank total, it does not
  band_same : (β r : ℕ) → in_band (amounts (suc k)) (shadow α β low) (shadow α β high) (shadow α r t) ≡ true → r ≡ β
  band_same β r e = grind (arith, nat_tests)

  band_is : (β r : ℕ) → in_band (amounts (suc k)) (shadow α β low) (shadow α β high) (shadow α r t) ≡ (in_band (amounts k) low high t && eqb r β)
  band_is β r = elim (cases_eq r β) [
    | inl e ↦ ap (λ q. in_band (amounts (suc k)) (shadow α β low) (shadow α β high) (shadow α q t)) e ∙ band_here β ∙ sym (ap (λ b. in_band (amounts k) low high t && b) (eq-eqb r β e) ∙ and-true (in_band (amounts k) low high t))
    | inr e ↦ false_from_ne_true (in_band (amounts (suc k)) (shadow α β low) (shadow α β high) (shadow α r t)) (λ f. e (band_same β r f)) ∙ sym (and_right (in_band (amounts k) low high t) (eqb r β) (ne_eqb r β e))
  ]

before_irreflexive : (s : List ℕ) → Before s s → ⊥
before_irreflexive s (inl l) = omega arith
before_irreflexive s (inr h) = lex_irreflexive s h.1

module _ (k : ℕ) (xs : List Row) (low high : Row) (m : ℕ) (c : Crosses k xs low high m) where
  own-entries : AllByRecursion (Own (amounts k)) xs
  own-entries = All-weaker (λ x. length x ≡ suc k) (Own (amounts k)) (λ x e. length-own k x e) xs c.entries

  own-low : Own (amounts k) low
  own-low = length-own k low c.low_columns

  own-high : Own (amounts k) high
  own-high = length-own k high c.high_columns

  -- the falls of the entries
  α : Row
  α = falls k xs

  wα : Wide k α
  unfolding α
  wα = falls_wide k xs own-entries

  -- the total of the set lies in the band
  good : List ℕ → Bool
  good s = in_band (amounts k) low high (total (amounts k) xs s)

  is_among : (s : List ℕ) → In s (sets 1 (length xs) m) → Among 0 (length xs) m s
  is_among s i = all_in (Among 0 (length xs) m) s (sets 1 (length xs) m) (members (length xs) m) i

  set_wide : (s : List ℕ) → Among 0 (length xs) m s → Wide k (total (amounts k) xs s)
  set_wide s h = total_wide k xs own-entries 0 s h.rising h.upto

  set_band : (β : ℕ) (s : List ℕ) → Among 0 (length xs) m s → in_band (amounts (suc k)) (shadow α β low) (shadow α β high) (total (amounts (suc k)) (shadows α 1 xs) s) ≡ (good s && eqb (place_sum s) β)
  unfolding good
  set_band β s h =
      ap (in_band (amounts (suc k)) (shadow α β low) (shadow α β high)) (shadow-total k xs own-entries α wα 0 s h.rising h.upto)
      ∙ band_is k α low high (total (amounts k) xs s) wα (own_wide k low own-low) (own_wide k high own-high) (set_wide s h) β (place_sum s)

  -- the straight search for one rank total, and what it is to tell
  straight : ℕ → Trace
  straight β = trace (amounts (suc k)) (shadows α 1 xs) (shadow α β low) (shadow α β high) m

  part : ℕ → List (List ℕ)
  part β = filter (λ s. good s && eqb (place_sum s) β) (sets 1 (length xs) m)

  straight_finds : (β : ℕ) → somes (straight β) ≡ part β
  unfolding α straight part
  straight_finds β =
      finds (amounts (suc k)) (amounts_laws (suc k)) (shadows α 1 xs) (shadow_rows k xs own-entries) (shadow α β low) (shadow α β high) (shadow-own wα (own_wide k low own-low) β) (shadow-own wα (own_wide k high own-high) β) m c.some (subst (λ n. m ≤ n) (sym (shadows-length α 1 xs)) c.room)
      ∙ ap (λ n. filter (λ s. in_band (amounts (suc k)) (shadow α β low) (shadow α β high) (total (amounts (suc k)) (shadows α 1 xs) s)) (sets 1 n m)) (shadows-length α 1 xs)
      ∙ kept_same (λ s. in_band (amounts (suc k)) (shadow α β low) (shadow α β high) (total (amounts (suc k)) (shadows α 1 xs) s)) (λ s. good s && eqb (place_sum s) β) (sets 1 (length xs) m)
      (of_sets (length xs) m (λ s. in_band (amounts (suc k)) (shadow α β low) (shadow α β high) (total (amounts (suc k)) (shadows α 1 xs) s) ≡ (good s && eqb (place_sum s) β)) (λ s h. set_band β s h))

  pub crossed_finds : somes (crossed k xs low high m) ≡ crossed_solutions k xs low high m
  unfolding α straight part good
  crossed_finds = somes-flat_map straight (rank_totals (length xs) m) ∙ ap (λ f. flat_map f (rank_totals (length xs) m)) (fun_ext straight_finds)

  -- in the band as a row, and in each column
  lies_from : (s : List ℕ) → Among 0 (length xs) m s → good s ≡ true → Lies k xs low high s
  unfolding good
  lies_from s h e c l =
      let w : Wide k (total (amounts k) xs s) = set_wide s h in
      let b = and_parts ((amounts k).not_above low (total (amounts k) xs s)) ((amounts k).not_above (total (amounts k) xs s) high) e in
      let t : cell c (total (amounts k) xs s) ≡ column_total c xs s = total_column k xs own-entries 0 s h.rising h.upto c l in
      (subst (λ z. cell c low ≤ℤ z) t (above_column (own_wide k low own-low) w b.0 c l), subst (λ z. z ≤ℤ cell c high) t (above_column w (own_wide k high own-high) b.1 c l))

  lies_good : (s : List ℕ) → Among 0 (length xs) m s → Lies k xs low high s → good s ≡ true
  unfolding good
  lies_good s h f =
      let w : Wide k (total (amounts k) xs s) = set_wide s h in
      let t : (c : ℕ) → c ≤ k → column_total c xs s ≡ cell c (total (amounts k) xs s) = λ c l. sym (total_column k xs own-entries 0 s h.rising h.upto c l) in
      and_from ((amounts k).not_above low (total (amounts k) xs s)) ((amounts k).not_above (total (amounts k) xs s) high)
      (column_above (own_wide k low own-low) w (λ c l. subst (λ z. cell c low ≤ℤ z) (t c l) (f c l).0))
      (column_above w (own_wide k high own-high) (λ c l. subst (λ z. z ≤ℤ cell c high) (t c l) (f c l).1))

  pub crossed_sound : (s : List ℕ) → In s (somes (crossed k xs low high m)) → Solves k xs low high m s
  unfolding part good
  crossed_sound s i =
      let j = in_joined part s (rank_totals (length xs) m) (subst (In s) crossed_finds i) in
      let q = in_kept (λ s. good s && eqb (place_sum s) j.0) s (sets 1 (length xs) m) j.1.1 in
      record { places = is_among s q.0; lies = lies_from s (is_among s q.0) (and_parts (good s) (eqb (place_sum s) j.0) q.1).0 }

  pub crossed_complete : (s : List ℕ) → Solves k xs low high m s → In s (somes (crossed k xs low high m))
  unfolding part good
  crossed_complete s h =
      subst (In s) (sym crossed_finds) (joined_in part s (place_sum s) (rank_totals (length xs) m) (in_rank_totals (length xs) m s h.places)
      (kept_in (λ t. good t && eqb (place_sum t) (place_sum s)) s (sets 1 (length xs) m) (is_member (length xs) m s h.places) (and_from (good s) (eqb (place_sum s) (place_sum s)) (lies_good s h.places h.lies) (eq-eqb (place_sum s) (place_sum s) refl))))

  part_keyed : (β : ℕ) → AllByRecursion (λ s. place_sum s ≡ β) (part β)
  unfolding part
  part_keyed β = All-weaker (λ s. (good s && eqb (place_sum s) β) ≡ true) (λ s. place_sum s ≡ β) (λ s e. eqb-true (place_sum s) β (and_parts (good s) (eqb (place_sum s) β) e).1) (part β) (kept_by_passes (λ s. good s && eqb (place_sum s) β) (sets 1 (length xs) m))

  part_sorted : (β : ℕ) → Sorted Before (part β)
  unfolding part
  part_sorted β = sorted_among Lex Before (λ s. place_sum s ≡ β) (λ s t e f l. inr (e ∙ sym f, l)) (part β) (part_keyed β) (sorted_kept Lex (λ s. good s && eqb (place_sum s) β) (sets 1 (length xs) m) (sets_sorted 0 (length xs) m))

  pub crossed_order : Sorted Before (somes (crossed k xs low high m))
  unfolding part good
  crossed_order =
      subst (Sorted Before) (sym crossed_finds) (subst (λ βs. Sorted Before (flat_map part βs)) (sym (rank_totals_are (length xs) m))
      (sorted_joined Before place_sum (λ s t l. inl l) part part_keyed part_sorted (least_total m) (greatest_total (length xs) m + 1 - least_total m)))

  pub crossed_once : Distinct (somes (crossed k xs low high m))
  crossed_once = sorted_among Before (λ s t. s ≡ t → ⊥) (λ s. Unit {0}) (λ s t u v b e. before_irreflexive s (subst (Before s) (sym e) b)) (somes (crossed k xs low high m)) (all_of (λ s. Unit {0}) (λ s. tt) (somes (crossed k xs low high m))) crossed_order

  straight_counts : (β : ℕ) → length (straight β) ≤ 2 * length (sets 1 (length xs) m) - 1
  unfolding α straight
  straight_counts β = subst (λ n. length (straight β) ≤ 2 * length (sets 1 n m) - 1) (shadows-length α 1 xs)
      (counts (amounts (suc k)) (amounts_laws (suc k)) (shadows α 1 xs) (shadow_rows k xs own-entries) (shadow α β low) (shadow α β high) (shadow-own wα (own_wide k low own-low) β) (shadow-own wα (own_wide k high own-high) β) m c.some (subst (λ n. m ≤ n) (sym (shadows-length α 1 xs)) c.room))

  pub crossed_counts : length (crossed k xs low high m) ≤ (m * (length xs - m) + 1) * (2 * length (sets 1 (length xs) m) - 1)
  unfolding α straight
  crossed_counts =
      let βs : List ℕ = rank_totals (length xs) m in
      let most : ℕ = 2 * length (sets 1 (length xs) m) - 1 in
      rw (length-flat_map straight βs) (rw (← length-rank_totals (length xs) m c.room) (sum_by-le (λ β. length (straight β)) most βs (λ i d l. straight_counts (get_or βs i d))))
