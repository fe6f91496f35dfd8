-- A search that begins has the trace of its entries to come.
use Rattle.std.proofs.lemmas.List.{get_or-set_same, get_or-set_other}
use Rattle.std.proofs.lemmas.Bool.{cases_eq}
use Rattle.std.proofs.Common.{set, ◌≡◌, ℕ, zero, suc, ◌+◌, ◌-◌, ◌<◌, ◌≤◌, true, cond, ◌&&◌, ltb, leb, List, [], ◌++◌, length, get_or, take, sym, refl, ap, ◌∙◌, subst, ⊎_elim, append-nil, arith}
use Rattle.std.specs.List.{range_with_len}
use Rattle.std.proofs.lemmas.List.FromFn.{get_or-range_with_len, length-range_with_len}
use Rattle.std.proofs.lemmas.List.{ext_get_or, length-take-le, get_or-take, get_or_past}
use Rattle.std.proofs.lemmas.Bool.{cases_lt, cases_Bool, cond-true, cond-false, and_parts, and_from, lt-ltb, le-leb, ltb-true, leb-true}
use Rattle.measure.specs.Algebra.{Algebra, Row}
use Rattle.sets.specs.Spaces.{Space, space}
use Rattle.sets.specs.Trace.{Trace}
use Rattle.squeezing.specs.declared.frame.Frame.{Frame}
use Rattle.exploring.specs.declared.level.Level.{Level}
use Rattle.exploring.specs.declared.state.Search.{Search}
use Rattle.squeezing.specs.Table.{offset, entries, Holds}
use Rattle.squeezing.specs.Frames.{space_of}
use Rattle.exploring.specs.Waiting.{stacked, level_items, first_of, explore_of}
use Rattle.squeezing.specs.Table.{fits}
use Rattle.exploring.specs.Meaning.{table_of, count_of, size_of, Sound, planned, Same}
use Rattle.squeezing.proofs.Columns.{offset_past, offset-zero}
use Rattle.squeezing.proofs.Sums.{entries-length}

-- places above 0 stand within their list
long_enough : (a m : ℕ) (xs : List ℕ) → 0 < a → ((k : ℕ) → k < m → get_or xs k 0 ≡ a + k) → m ≤ length xs
long_enough a zero xs some each = omega arith
long_enough a (suc m) xs some each =
    ⊎_elim
    (λ within. omega arith)
    (λ past. absurd (omega (arith, each m (omega arith), get_or_past xs m 0 past)))
    (cases_lt m (length xs))

take_counting : (a m : ℕ) (xs : List ℕ) → 0 < a → ((k : ℕ) → k < m → get_or xs k 0 ≡ a + k) → take m xs ≡ range_with_len a m
take_counting a m xs some each =
    let many = length-take-le m xs (long_enough a m xs some each) in
    ext_get_or 0 (take m xs) (range_with_len a m) (many ∙ sym (length-range_with_len a m)) (λ k l. let b : k < m = omega (arith, many) in get_or-take m xs k 0 b ∙ each k b ∙ sym (get_or-range_with_len a m k 0 b))

-- what is to come where only the first space may wait
pub begins : (e : ℕ → Space → Trace) (r : Frame) (ls : List Level) (n m : ℕ) → ls ≡ [] → r.m ≡ m → ((j : ℕ) → j < m → get_or r.lo j 0 ≡ 1 + j) → ((j : ℕ) → j < m → get_or r.hi j 0 ≡ n - m + 1 + j) → cond (ltb 0 m) (e (r.m + 1) (space_of r)) [] ++ stacked (level_items e) r.m ls ≡ first_of e n m
begins e r ls n m none same lowest highest =
    ap (λ l. cond (ltb 0 m) (e (r.m + 1) (space_of r)) [] ++ stacked (level_items e) r.m l) none
    ∙ append-nil (cond (ltb 0 m) (e (r.m + 1) (space_of r)) [])
    ∙ ap (λ k. cond (ltb 0 m) (e (k + 1) (space (take k r.lo) (take k r.hi))) []) same
    ∙ ap (λ l. cond (ltb 0 m) (e (m + 1) (space l (take m r.hi))) []) (take_counting 1 m r.lo (omega arith) lowest)
    ∙ ap (λ h. cond (ltb 0 m) (e (m + 1) (space (range_with_len 1 m) h)) []) (take_counting (n - m + 1) m r.hi (omega arith) highest)

-- sizes that fit
pub fitting : (n m cells : ℕ) → fits n m cells ≡ true → (0 < m) × (m ≤ n) × (n ≤ 120) × (offset n m ≤ cells)
fitting n m cells e =
    let one = and_parts (ltb 0 m) (leb m n && (leb n 120 && leb (offset n m) cells)) e in
    let two = and_parts (leb m n) (leb n 120 && leb (offset n m) cells) one.1 in
    let three = and_parts (leb n 120) (leb (offset n m) cells) two.1 in
    (ltb-true 0 m one.0, leb-true m n two.0, leb-true n 120 three.0, leb-true (offset n m) cells three.1)

pub fitted : (n m cells : ℕ) → 0 < m → m ≤ n → n ≤ 120 → offset n m ≤ cells → fits n m cells ≡ true
fitted n m cells some few small long =
    and_from (ltb 0 m) _ (lt-ltb 0 m some) (and_from (leb m n) _ (le-leb m n few) (and_from (leb n 120) (leb (offset n m) cells) (le-leb n 120 small) (le-leb (offset n m) cells long)))

-- the columns lie in the table
pub fits_long : (n m cells k l : ℕ) → k ≡ cond (fits n m cells) n 0 → l ≡ cond (fits n m cells) m 0 → offset k l ≤ cells
fits_long n m cells k l ek el =
    ⊎_elim
    (λ t. omega (arith, (fitting n m cells t).3, ap (λ q. offset q l) (ek ∙ cond-true (fits n m cells) n 0 t), ap (offset n) (el ∙ cond-true (fits n m cells) m 0 t)))
    (λ t. omega (arith, offset-zero k, ap (offset k) (el ∙ cond-false (fits n m cells) m 0 t)))
    (cases_Bool (fits n m cells))

-- a table that holds its totals holds them for the search that was begun over it
pub begun_sound : {M : Type 0} (a : Algebra) (row : M → Row) (span : M → ℕ) (n m : ℕ) (table : List M) (k l : ℕ) → k ≡ cond (fits n m (length table)) n 0 → l ≡ cond (fits n m (length table)) m 0 → Holds a row span n m table → Holds a row span k l table
begun_sound a row span n m table k l ek el held =
    ⊎_elim
    (λ t. subst (λ q. Holds a row span k q table) (sym (el ∙ cond-true _ _ _ t)) (subst (λ q. Holds a row span q m table) (sym (ek ∙ cond-true _ _ _ t)) held))
    (λ t. subst (λ q. Holds a row span q l table) (sym (ek ∙ cond-false _ _ _ t)) (record { enough = omega arith; holds = λ i p d h b. absurd (omega arith) }))
    (cases_Bool (fits n m (length table)))

-- and for one that goes on
pub same_sound : {M : Type 0} (a : Algebra) (row : M → Row) (span : M → ℕ) (s s' : Search M) → Same s s' → Sound a row span s → Sound a row span s'
same_sound a row span s s' e held =
    subst (λ t. Holds a row span (count_of s') (size_of s') t) (sym e.table_same)
    (subst (λ q. Holds a row span (count_of s') q (table_of s)) (sym e.size_same)
    (subst (λ q. Holds a row span q (size_of s) (table_of s)) (sym e.count_same) held))

module _ {M : Type 0} (a : Algebra) (row : M → Row) (table : List M) (low high : Row) where
  first_fits : (n m : ℕ) → fits n m (length table) ≡ true → first_of (explore_of a row n table low high) n m ≡ planned a row n m table low high
  first_fits n m t =
      let f = fitting n m (length table) t in
      let many : length (entries row n table) ≡ n = entries-length row n table (omega (arith, f.3, offset_past n m f.0)) in
      cond-true _ _ _ (lt-ltb 0 m f.0)
      ∙ ap (λ k. explore_of a row n table low high (m + 1) (space (range_with_len 1 m) (range_with_len (k - m + 1) m))) (sym many)
      ∙ sym (cond-true _ _ _ t)

  -- where the sizes do not fit, nothing is to come
  pub first-planned : (n m k l : ℕ) → k ≡ cond (fits n m (length table)) n 0 → l ≡ cond (fits n m (length table)) m 0 → first_of (explore_of a row k table low high) k l ≡ planned a row n m table low high
  first-planned n m k l ek el =
      ⊎_elim
      (λ t.
      ap (λ q. first_of (explore_of a row q table low high) q l) (ek ∙ cond-true _ _ _ t)
      ∙ ap (first_of (explore_of a row n table low high) n) (el ∙ cond-true _ _ _ t)
      ∙ first_fits n m t)
      (λ t. ap (first_of (explore_of a row k table low high) k) (el ∙ cond-false _ _ _ t) ∙ sym (cond-false _ _ _ t))
      (cases_Bool (fits n m (length table)))

  -- a search that begins again
  pub first_again : (n m : ℕ) → m ≤ n → n ≤ 120 → offset n m ≤ length table → first_of (explore_of a row n table low high) n m ≡ planned a row n m table low high
  first_again n zero few small long = refl
  first_again n (suc m) few small long = first_fits n (suc m) (fitted n (suc m) (length table) (omega arith) few small long)

-- one place more is written down
pub written : (f : ℕ → ℕ) (xs : List ℕ) (j v : ℕ) → j < length xs → v ≡ f j → ((k : ℕ) → k < j → get_or xs k 0 ≡ f k) → (k : ℕ) → k < j + 1 → get_or (set xs j v) k 0 ≡ f k
written f xs j v h e before k l =
    ⊎_elim
    (λ same. ap (λ q. get_or (set xs j v) q 0) same ∙ get_or-set_same xs j v 0 h ∙ e ∙ ap f (sym same))
    (λ other. get_or-set_other xs j k v 0 other ∙ before k (omega arith))
    (cases_eq k j)
