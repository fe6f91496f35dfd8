-- A table is written cell by cell: what each cell stands for, and that a table of m columns holds its totals.
use Rattle.std.proofs.Common.{◌≡◌, ℕ, zero, suc, ◌+◌, ◌-◌, ◌<◌, ◌≤◌, List, [], ◌∷◌, ◌++◌, map, length, get_or, take, set, sym, refl, ap, ◌∙◌, subst, ⊎_elim, arith}
use Rattle.std.specs.List.{range_with_len}
use Rattle.std.proofs.lemmas.List.{get_or-set_same, get_or-set_other, get_or-map, get_or-take, length-map, length-set, take-set-le}
use Rattle.std.proofs.ByRecursion.{All-get_or}
use Rattle.std.proofs.lemmas.List.FromFn.{length-range_with_len}
use Rattle.std.proofs.lemmas.Bool.{cases_lt, cases_eq}
use Rattle.measure.specs.Algebra.{Algebra, Laws, Own, Row}
use Rattle.sets.specs.Sets.{total, at_place}
use Rattle.roll.specs.declared.entry.Entry.{Entry}
use Rattle.roll.specs.Totals.{Few, rows_of}
use Rattle.squeezing.specs.Table.{Stood, Holds, entries, offset}
use Rattle.question.specs.Filling.{Laid, values}
use Rattle.squeezing.proofs.Columns.{offset-zero, offset_next, offset_up, offset_fewer}
use Rattle.squeezing.proofs.Sums.{each_own, inside_counting, total-append}

-- a column ends where the next begins
pub cell_before : (n k j p : ℕ) → p + k < n → k < j → offset n k + p < offset n j
cell_before n k j p h l =
    let e : (k + 1) + (j - (k + 1)) ≡ j = omega arith in
    omega (arith, offset_next n k, offset_up n (k + 1) (j - (k + 1)), ap (offset n) e)

-- no two totals have one cell
cell_one : (n k p j q : ℕ) → p + k < n → q + j < n → offset n k + p ≡ offset n j + q → (k ≡ j) × (p ≡ q)
cell_one n k p j q h l e =
    ⊎_elim
    (λ less. absurd (omega (arith, cell_before n k j p h less)))
    (λ more. ⊎_elim
    (λ less. absurd (omega (arith, cell_before n j k q l less)))
    (λ other. let same : k ≡ j = omega arith in (same, omega (arith, ap (offset n) same)))
    (cases_lt j k))
    (cases_lt k j)

-- one place more
counting_push : (p k : ℕ) → range_with_len p k ++ ((p + k) ∷ []) ≡ range_with_len p (k + 1)
counting_push p zero = let e : p + 0 ≡ p = omega arith in ap (λ q. q ∷ []) e
counting_push p (suc k) =
    let e : p + suc k ≡ p + 1 + k = omega arith in
    let s : suc k + 1 ≡ suc (k + 1) = omega arith in
    ap (λ q. p ∷ (range_with_len (p + 1) k ++ (q ∷ []))) e ∙ ap (λ l. p ∷ l) (counting_push (p + 1) k) ∙ sym (ap (range_with_len p) s)

module _ {M : Type 0} (a : Algebra) (row : M → Row) (span : M → ℕ) (xs : List Row) (n : ℕ) (table : List M) where
  -- one cell more
  laid_more : (k p : ℕ) (r : M) → p + k < n → offset n k + p < length table → Laid a row span xs n table (offset n k + p) → Stood a row span xs (range_with_len (p + 1) (k + 1)) r → Laid a row span xs n (set table (offset n k + p) r) (offset n k + p + 1)
  laid_more k p r h within laid here j q d l w =
      ⊎_elim
      (λ same.
      let one = cell_one n j q k p l h same in
      let e : get_or (set table (offset n k + p) r) (offset n j + q) d ≡ r = ap (λ c. get_or (set table (offset n k + p) r) c d) same ∙ get_or-set_same table (offset n k + p) r d within in
      subst (λ x. Stood a row span xs (range_with_len (q + 1) (j + 1)) x) (sym e)
      (subst (λ t. Stood a row span xs (range_with_len (q + 1) (t + 1)) r) (sym one.0)
      (subst (λ t. Stood a row span xs (range_with_len (t + 1) (k + 1)) r) (sym one.1) here)))
      (λ other.
      subst (λ x. Stood a row span xs (range_with_len (q + 1) (j + 1)) x) (sym (get_or-set_other table (offset n k + p) (offset n j + q) r d other)) (laid j q d l (omega arith)))
      (cases_eq (offset n j + q) (offset n k + p))

  pub laid_less : (w v : ℕ) → v ≤ w → Laid a row span xs n table w → Laid a row span xs n table v
  laid_less w v h laid k p d l b = laid k p d l (omega arith)

  -- the same, at a cell that is named otherwise
  pub laid_at : (k p w v : ℕ) (r : M) → w ≡ offset n k + p → v ≤ w + 1 → p + k < n → w < length table → Laid a row span xs n table w → Stood a row span xs (range_with_len (p + 1) (k + 1)) r → Laid a row span xs n (set table w r) v
  laid_at k p w v r e less h within laid here =
      let named : Laid a row span xs n table (offset n k + p) = subst (λ c. Laid a row span xs n table c) e laid in
      let more = laid_more k p r h (omega arith) named here in
      λ j q d l b. subst (λ c. Stood a row span xs (range_with_len (q + 1) (j + 1)) (get_or (set table c r) (offset n j + q) d)) (sym e) (more j q d l (omega arith))

module _ {M : Type 0} (a : Algebra) (laws : Laws a) (row : M → Row) (span : M → ℕ) (own : (x : M) → Own a (row x)) (es : List (Entry M)) (few : Few span es) where
  -- the value of an entry stands for its place
  pub entry_stands : (p : ℕ) (d : Entry M) → p < length es → Stood a row span (rows_of row es) (range_with_len (p + 1) 1) (get_or es p d).value
  entry_stands p d h =
      let next : p + 1 - 1 ≡ p = omega arith in
      let there : at_place (rows_of row es) (p + 1) ≡ row (get_or es p d).value = ap (λ j. get_or (rows_of row es) j []) next ∙ get_or-map (λ e. row e.value) es p d [] h in
      record {
        row_is = sym (laws.plus_nothing _ (own _)) ∙ ap (λ z. a.plus z a.nothing) (sym there);
        span_le = All-get_or (λ e. span e.value ≤ 1) es p d h few.each;
      }

  -- a total of k neighbours and the value of the entry after them
  pub next_stands : (p k : ℕ) (x r : M) (d : Entry M) → p + k < length es → Stood a row span (rows_of row es) (range_with_len (p + 1) k) x → (span x + span (get_or es (p + k) d).value ≤ 240 → row r ≡ a.plus (row x) (row (get_or es (p + k) d).value)) → (span x + span (get_or es (p + k) d).value ≤ 240 → span r ≤ span x + span (get_or es (p + k) d).value) → Stood a row span (rows_of row es) (range_with_len (p + 1) (k + 1)) r
  next_stands p k x r d h sx exact small =
      let many : length (rows_of row es) ≡ length es = length-map es (λ e. row e.value) in
      let e : p + k + 1 ≡ p + 1 + k = omega arith in
      let sy = subst (λ q. Stood a row span (rows_of row es) (range_with_len q 1) (get_or es (p + k) d).value) e (entry_stands (p + k) d h) in
      let counted = length-range_with_len (p + 1) k in
      let fits : span x + span (get_or es (p + k) d).value ≤ 240 = omega (arith, sx.span_le, sy.span_le, few.count) in
      let both = total-append a laws (rows_of row es) (λ q u v. each_own a (λ e. row e.value) (λ e. own e.value) es (q - 1) (omega arith)) (range_with_len (p + 1) k) (range_with_len (p + 1 + k) 1)
      (inside_counting (length (rows_of row es)) (p + 1) k (omega arith) (omega arith))
      (inside_counting (length (rows_of row es)) (p + 1 + k) 1 (omega arith) (omega arith)) in
      record {
        row_is =
            exact fits ∙ ap (λ z. a.plus z (row (get_or es (p + k) d).value)) sx.row_is ∙ ap (a.plus (total a (rows_of row es) (range_with_len (p + 1) k))) sy.row_is
            ∙ sym both ∙ ap (total a (rows_of row es)) (counting_push (p + 1) k);
        span_le = omega (arith, small fits, sx.span_le, sy.span_le, length-range_with_len (p + 1) (k + 1));
      }

  -- once the values of the entries stand in front, the first column is written
  pub laid_first : (table : List M) → take (length es) table ≡ values es → Laid a row span (rows_of row es) (length es) table (offset (length es) 1)
  laid_first table first zero p d l w =
      let one : Entry M = record { number = 0; value = d } in
      let cell : offset (length es) 0 + p ≡ p = omega (arith, offset-zero (length es)) in
      let read : get_or table (offset (length es) 0 + p) d ≡ (get_or es p one).value =
      ap (λ j. get_or table j d) cell ∙ sym (get_or-take (length es) table p d (omega arith)) ∙ ap (λ t. get_or t p d) first ∙ get_or-map (λ e. e.value) es p one d (omega arith) in
      subst (λ x. Stood a row span (rows_of row es) (range_with_len (p + 1) 1) x) (sym read) (entry_stands p one (omega arith))
  laid_first table first (suc k) p d l w = absurd (omega (arith, offset_fewer (length es) 1 (suc k) (omega arith)))

-- the rows of the values of entries
rows_are : {M : Type 0} (row : M → Row) (es : List (Entry M)) → map row (values es) ≡ rows_of row es
rows_are row [] = refl
rows_are row (e ∷ es) = ap (λ l. row e.value ∷ l) (rows_are row es)

-- the first column gives the rows of the entries
pub entries_are : {M : Type 0} (row : M → Row) (es : List (Entry M)) (table : List M) → take (length es) table ≡ values es → entries row (length es) table ≡ rows_of row es
entries_are row es table first = ap (map row) first ∙ rows_are row es

-- a table of m columns holds the totals of its first column
pub laid_holds : {M : Type 0} (a : Algebra) (row : M → Row) (span : M → ℕ) (es : List (Entry M)) (m : ℕ) (table : List M) → length es ≤ length table → take (length es) table ≡ values es → Laid a row span (rows_of row es) (length es) table (offset (length es) m) → Holds a row span (length es) m table
laid_holds a row span es m table enough first laid = record {
  enough = enough;
  holds = λ k p d h few. subst (λ l. Stood a row span l (range_with_len (p + 1) (k + 1)) (get_or table (offset (length es) k + p) d)) (sym (entries_are row es table first)) (laid k p d h (cell_before (length es) k m p h few));
}

-- a write behind the columns leaves them
pub holds-set : {M : Type 0} (a : Algebra) (row : M → Row) (span : M → ℕ) (n m i : ℕ) (x : M) (table : List M) → n ≤ i → offset n m ≤ i → Holds a row span n m table → Holds a row span n m (set table i x)
holds-set a row span n m i x table past behind held = record {
  enough = omega (arith, held.enough, length-set table i x);
  holds = λ k p d h few.
      let cell = cell_before n k m p h few in
      subst (λ t. Stood a row span (map row t) (range_with_len (p + 1) (k + 1)) (get_or (set table i x) (offset n k + p) d)) (sym (take-set-le n table i x past))
      (subst (λ y. Stood a row span (entries row n table) (range_with_len (p + 1) (k + 1)) y) (sym (get_or-set_other table i (offset n k + p) x d (λ e. omega (arith, cell)))) (held.holds k p d h few));
}
