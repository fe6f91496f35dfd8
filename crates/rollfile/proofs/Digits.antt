-- Numbers and entries as bytes, there and back.
use Rattle.std.proofs.Common.{◌≡◌, ℕ, zero, suc, ◌+◌, ◌^◌, ◌<◌, ◌≤◌, List, [], ◌∷◌, ◌++◌, length, get_or, take, drop, ℤ, pos, negsuc, Ok, sym, refl, ap, ◌∙◌, inl, inr, arith, lit<, w64, SFits, to_z, of_z}
use Rattle.std.specs.List.{AllByRecursion}
use Rattle.std.proofs.lemmas.List.{length-take, length-drop, get_or-take, get_or-drop, get_or_past, drop-drop, take-append-drop, drop_all}
use Rattle.std.proofs.lemmas.Int.{to_z-of_z, of_z-to_z}
use Rattle.std.proofs.lemmas.Nat.{be_bytes_4, be_bytes_8, from_be_bytes-to_be_bytes_4, from_be_bytes-to_be_bytes_8}
use Rattle.std.proofs.lemmas.Bool.Decides.{nat_tests, leb_tells}
use Rattle.crossed.specs.declared.entries.Columns.{Columns}
use Rattle.crossed.specs.declared.entries.Columns.TheVariants.{One, Two, Three, Four}
use Rattle.crossed.specs.Entries.{columns_of, count_of}
use Rattle.rollfile.specs.Laws.{EntriesBack, BodiesBack, ColumnsBack}
use Rattle.crossed.specs.Entries.{Entry}
use Rattle.records.specs.Bytes.{be4, be8, of4, of8, amount_bytes, amount_of}

-- four bytes say the number that they were made of
four : (n : ℕ) → n < 2 ^ 32 → of4 (be4 n) 0 ≡ n
four n h = omega (arith, from_be_bytes-to_be_bytes_4 n h)

-- the bytes of an amount say that amount
amount : (z : ℤ) → SFits w64 z → to_z w64 (of8 (amount_bytes z) 0) ≡ z
amount z f = ap (to_z w64) (omega (arith, from_be_bytes-to_be_bytes_8 (of_z w64 z) (of_z-lt z f))) ∙ to_z-of_z w64 z f
  where
    of_z-lt : (z : ℤ) → SFits w64 z → of_z w64 z < 2 ^ 64
    of_z-lt (pos n) g = omega (arith, g.sfits)
    of_z-lt (negsuc n) g = omega (arith, g.sfits)

-- entries are equal if each part is
same_entry : {n n' : ℕ} {a a' b b' c c' d d' : ℤ} → n ≡ n' → a ≡ a' → b ≡ b' → c ≡ c' → d ≡ d' → ◌≡◌ {A = Entry} (record { number = n; value = record { first = a; second = b; third = c; fourth = d } }) (record { number = n'; value = record { first = a'; second = b'; third = c'; fourth = d' } })
same_entry p q r s t = cc

-- the body of an entry says that entry
pub entries_back : EntriesBack
entries_back e f =
    let a = e.value in
    same_entry (four e.number f.number) (amount a.first f.first) (amount a.second f.second) (amount a.third f.third) (amount a.fourth f.fourth)

-- each byte of a list, and 0 past its end
byte_fits : (bs : List ℕ) → AllByRecursion (λ b. b < 256) bs → (k : ℕ) → get_or bs k 0 < 256
byte_fits [] h k = lit< tt
byte_fits (b ∷ bs) h zero = h.0
byte_fits (b ∷ bs) h (suc k) = byte_fits bs h.1 k

-- so many bytes from a place on
module _ (bs : List ℕ) (fits : (k : ℕ) → get_or bs k 0 < 256) where
  part_long : (n i : ℕ) → i + n ≤ length bs → length (take n (drop i bs)) ≡ n
  part_long n i h = simp (length-take, length-drop) (omega arith)

  part_is : (n i k j : ℕ) → k < n → i + k ≡ j → get_or (take n (drop i bs)) k 0 ≡ get_or bs j 0
  part_is n i k j l e = get_or-take n (drop i bs) k 0 l ∙ get_or-drop i bs k 0 ∙ ap (λ m. get_or bs m 0) e

  part_fits : (n i : ℕ) → i + n ≤ length bs → (k : ℕ) → get_or (take n (drop i bs)) k 0 < 256
  part_fits n i h k =
      elim (leb_tells n k) [
        | inl t ↦ omega (arith, get_or_past (take n (drop i bs)) k 0 (omega (arith, part_long n i h, t.1)))
        | inr t ↦ omega (arith, part_is n i k (i + k) t.1 refl, fits (i + k))
      ]

  number_part : 4 ≤ length bs → be4 (of4 bs 0) ≡ take 4 bs
  number_part h = be_bytes_4 (take 4 bs) (of4 bs 0) (part_long 4 0 h) (part_fits 4 0 h) (omega (arith, part_is 4 0 0 0 (lit< tt) refl, part_is 4 0 1 1 (lit< tt) refl, part_is 4 0 2 2 (lit< tt) refl, part_is 4 0 3 3 (lit< tt) refl))

  amount_part : (i : ℕ) → i + 8 ≤ length bs → amount_bytes (amount_of bs i) ≡ take 8 (drop i bs)
  amount_part i h =
      let p : (k : ℕ) → k < 8 → get_or (take 8 (drop i bs)) k 0 ≡ get_or bs (i + k) 0 = λ k l. part_is 8 i k (i + k) l refl in
      ap be8 (of_z-to_z w64 (of8 bs i) (omega (arith, fits i, fits (i + 1), fits (i + 2), fits (i + 3), fits (i + 4), fits (i + 5), fits (i + 6), fits (i + 7))))
      ∙ be_bytes_8 (take 8 (drop i bs)) (of8 bs i) (part_long 8 i h) (part_fits 8 i h) (omega (arith, part_is 8 i 0 i (lit< tt) (omega arith), p 1 (lit< tt), p 2 (lit< tt), p 3 (lit< tt), p 4 (lit< tt), p 5 (lit< tt), p 6 (lit< tt), p 7 (lit< tt)))

  -- the amount there, before what follows it
  before : (i : ℕ) (rest : List ℕ) → i + 8 ≤ length bs → rest ≡ drop (i + 8) bs → amount_bytes (amount_of bs i) ++ rest ≡ drop i bs
  before i rest h e =
      ap (λ l. l ++ rest) (amount_part i h)
      ∙ ap (λ l. take 8 (drop i bs) ++ l) (e ∙ sym (drop-drop 8 i bs))
      ∙ take-append-drop 8 (drop i bs)

-- a body is that of the entry it says
pub bodies_back : BodiesBack
bodies_back bs l h =
    let f = byte_fits bs h in
    let last = before bs f 28 [] (omega arith) (sym (drop_all 36 bs (omega arith))) in
    let third = before bs f 20 _ (omega arith) last in
    let second = before bs f 12 _ (omega arith) third in
    let first = before bs f 4 _ (omega arith) second in
    ap (λ y. y ++ (amount_bytes (amount_of bs 4) ++ (amount_bytes (amount_of bs 12) ++ (amount_bytes (amount_of bs 20) ++ amount_bytes (amount_of bs 28))))) (number_part bs f (omega arith))
    ∙ ap (λ y. take 4 bs ++ y) first
    ∙ take-append-drop 4 bs

-- the number of the columns says them
columns_count : (d : Columns) → columns_of (count_of d) ≡ Ok d
columns_count One = refl
columns_count Two = refl
columns_count Three = refl
columns_count Four = refl

-- no other number does
count_columns : (n : ℕ) (d : Columns) → columns_of n ≡ Ok d → count_of d ≡ n
count_columns n d q = grind (arith, nat_tests)

-- both
pub columns_back : ColumnsBack
columns_back = (columns_count, count_columns)
