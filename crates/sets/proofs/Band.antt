-- Where a set's total lies in a band, its complement's lies in the band turned about the total of all entries: so the
-- complements of the solutions are the solutions of the turned question, back to front.
use Rattle.std.proofs.Common.{◌≡◌, ℕ, zero, suc, ◌+◌, ◌-◌, ◌≤◌, Bool, eqb, List, [], ◌∷◌, map, reverse, length, filter, sym, refl, ap, ◌∙◌, subst, subst₂, inl, inr, arith}
use mathlib.Core.List.{reverse-cons}
use Rattle.std.specs.List.{range_with_len, AllByRecursion}
use Rattle.std.proofs.ByRecursion.{All-weaker}
use Rattle.std.proofs.lemmas.Grind.{common_steps}
use Rattle.std.proofs.lemmas.Bool.{cases_eq, cond_both, and_from, and_parts}
use Rattle.measure.specs.Algebra.{Algebra, Row, Laws, Own, NotAbove}
use Rattle.sets.specs.Sets.{Rows, sets, complement, total, at_place, in_band, solutions}
use Rattle.sets.proofs.Forms.{count_from}
use Rattle.sets.proofs.Vectors.{Rising, Upto, rising_weaker}
use Rattle.sets.proofs.Members.{Among}
use Rattle.sets.proofs.Complements.{complement_here, complement_past, complements_of_sets}
use Rattle.sets.proofs.Totals.{place-own, total-own}
use Rattle.sets.proofs.Choices.{counting_is}
use Rattle.sets.proofs.Kept.{bool_same}
use Rattle.sets.proofs.Trace.{of_sets, count_rising, count_upto}

complement-rising : (b n : ℕ) (s : List ℕ) → Rising b (complement (suc b) n s)
complement-rising b zero s = tt
complement-rising b (suc n) [] = (omega arith, complement-rising (suc b) n [])
complement-rising b (suc n) (q ∷ s) =
    cond_both (eqb (suc b) q) (complement (suc (suc b)) n s) (suc b ∷ complement (suc (suc b)) n (q ∷ s)) (Rising b)
    (λ e. rising_weaker (suc b) b (complement (suc (suc b)) n s) (omega arith) (complement-rising (suc b) n s))
    (λ e. (omega arith, complement-rising (suc b) n (q ∷ s)))

complement-upto : (k b n : ℕ) (s : List ℕ) → b + n ≤ k → Upto k (complement (suc b) n s)
complement-upto k b zero s l = tt
complement-upto k b (suc n) [] l = (omega arith, complement-upto k (suc b) n [] (omega arith))
complement-upto k b (suc n) (q ∷ s) l =
    cond_both (eqb (suc b) q) (complement (suc (suc b)) n s) (suc b ∷ complement (suc (suc b)) n (q ∷ s)) (Upto k)
    (λ e. complement-upto k (suc b) n s (omega arith))
    (λ e. (omega arith, complement-upto k (suc b) n (q ∷ s) (omega arith)))

map_kept : {X Y : Type 0} (f : X → Y) (p : X → Bool) (q : Y → Bool) (xs : List X) → AllByRecursion (λ x. q (f x) ≡ p x) xs → map f (filter p xs) ≡ filter q (map f xs)
map_kept f p q [] h = refl
map_kept f p q (x ∷ xs) h = grind (arith, map_kept f p q xs h.1, h.0)

kept_reverse : {X : Type 0} (p : X → Bool) (xs : List X) → filter p (reverse xs) ≡ reverse (filter p xs)
kept_reverse p [] = refl
kept_reverse p (x ∷ xs) = grind (arith, common_steps, kept_reverse p xs, reverse-cons x xs, reverse-cons x (filter p xs))

-- x less y
abbrev pub minus : Algebra → Row → Row → Row
minus a x y = a.plus x (a.reverse y)

module _ (a : Algebra) (laws : Laws a) where
  swap : (x y z : Row) → Own a x → Own a y → Own a z → a.plus x (a.plus y z) ≡ a.plus y (a.plus x z)
  swap x y z ox oy oz = cc (laws.plus_assoc x y z ox oy oz, laws.plus_comm x y ox oy, laws.plus_assoc y x z oy ox oz)

  minus-own : (x y : Row) → Own a x → Own a y → Own a (minus a x y)
  minus-own x y ox oy = laws.plus_own x (a.reverse y) ox (laws.reverse_own y oy)

  -- what is taken away and added again
  minus_plus : (x y : Row) → Own a x → Own a y → a.plus (minus a x y) y ≡ x
  minus_plus x y ox oy =
      let ob : Own a (a.reverse y) = laws.reverse_own y oy in
      cc (laws.plus_assoc x (a.reverse y) y ox ob oy, laws.plus_comm (a.reverse y) y ob oy, laws.plus_reverse y oy, laws.plus_nothing x ox)

  rest_is : (x c t : Row) → Own a x → Own a c → a.plus x c ≡ t → c ≡ minus a t x
  rest_is x c t ox oc e =
      let ob : Own a (a.reverse x) = laws.reverse_own x ox in
      cc (laws.plus_nothing c oc, laws.plus_reverse x ox, laws.plus_assoc c x (a.reverse x) oc ox ob, laws.plus_comm c x oc ox)

  minus_minus : (t x : Row) → Own a t → Own a x → minus a t (minus a t x) ≡ x
  minus_minus t x ot ox = sym (rest_is (minus a t x) x t (minus-own t x ot ox) ox (minus_plus t x ot ox))

  minus_swap : (t x y : Row) → Own a t → Own a x → Own a y → minus a (minus a t x) y ≡ minus a (minus a t y) x
  minus_swap t x y ot ox oy =
      let bx : Own a (a.reverse x) = laws.reverse_own x ox in
      let by : Own a (a.reverse y) = laws.reverse_own y oy in
      cc (laws.plus_assoc t (a.reverse x) (a.reverse y) ot bx by, laws.plus_comm (a.reverse x) (a.reverse y) bx by, laws.plus_assoc t (a.reverse y) (a.reverse x) ot by bx)

  minus_flips : (t x y : Row) → Own a t → Own a x → Own a y → NotAbove a x y → NotAbove a (minus a t y) (minus a t x)
  minus_flips t x y ot ox oy h =
      let z : Row = minus a (minus a t y) x in
      let oty : Own a (minus a t y) = minus-own t y ot oy in
      let otx : Own a (minus a t x) = minus-own t x ot ox in
      let oz : Own a z = minus-own (minus a t y) x oty ox in
      let left : a.plus x z ≡ minus a t y = laws.plus_comm x z ox oz ∙ minus_plus (minus a t y) x oty ox in
      let right : a.plus y z ≡ minus a t x = laws.plus_comm y z oy oz ∙ ap (λ w. a.plus w y) (minus_swap t y x ot oy ox) ∙ minus_plus (minus a t x) y otx oy in
      subst₂ (λ u v. NotAbove a u v) left right (laws.plus_keeps x y z ox oy oz h)

  minus_flips_back : (t x y : Row) → Own a t → Own a x → Own a y → NotAbove a (minus a t y) (minus a t x) → NotAbove a x y
  minus_flips_back t x y ot ox oy h =
      subst₂ (λ u v. NotAbove a u v) (minus_minus t x ot ox) (minus_minus t y ot oy) (minus_flips t (minus a t y) (minus a t x) ot (minus-own t y ot oy) (minus-own t x ot ox) h)

  module _ (xs : List Row) (rows : Rows a xs) where
    -- a set and its complement make all
    total_both : (b n : ℕ) (s : List ℕ) → b + n ≤ length xs → Rising b s → Upto (b + n) s → a.plus (total a xs s) (total a xs (complement (suc b) n s)) ≡ total a xs (count_from (suc b) n)
    total_both b zero [] l r u = laws.plus_nothing a.nothing laws.nothing_own
    total_both b zero (q ∷ s) l r u = absurd (omega (arith, r.0, u.0))
    total_both b (suc n) [] l r u =
        let P : Row = at_place xs (suc b) in
        let K : Row = total a xs (complement (suc (suc b)) n []) in
        let oP : Own a P = place-own a laws xs rows (suc b) (omega arith) (omega arith) in
        let oK : Own a K = total-own a laws xs rows (suc b) (complement (suc (suc b)) n []) (complement-rising (suc b) n []) (complement-upto (length xs) (suc b) n [] (omega arith)) in
        swap a.nothing P K laws.nothing_own oP oK ∙ ap (λ w. a.plus P w) (total_both (suc b) n [] (omega arith) tt tt)
    total_both b (suc n) (q ∷ s) l r u =
        let P : Row = at_place xs (suc b) in
        let oP : Own a P = place-own a laws xs rows (suc b) (omega arith) (omega arith) in
        let e : b + suc n ≡ suc b + n = omega arith in
        let up : Upto (suc b + n) (q ∷ s) = subst (λ k. Upto k (q ∷ s)) e u in
        let upx : Upto (length xs) (q ∷ s) = All-weaker (λ x. x ≤ b + suc n) (λ x. x ≤ length xs) (λ x h. omega arith) (q ∷ s) u in
        elim (cases_eq (suc b) q) [
          | inl p ↦
              let rs : Rising (suc b) s = subst (λ x. Rising x s) (sym p) r.1 in
              let S : Row = total a xs s in
              let K : Row = total a xs (complement (suc (suc b)) n s) in
              let oS : Own a S = total-own a laws xs rows (suc b) s rs upx.1 in
              let oK : Own a K = total-own a laws xs rows (suc b) (complement (suc (suc b)) n s) (complement-rising (suc b) n s) (complement-upto (length xs) (suc b) n s (omega arith)) in
              ap (λ x. a.plus (total a xs (x ∷ s)) (total a xs (complement (suc b) (suc n) (x ∷ s)))) (sym p)
              ∙ ap (λ t. a.plus (a.plus P S) (total a xs t)) (complement_here (suc b) n s)
              ∙ laws.plus_assoc P S K oP oS oK ∙ ap (λ w. a.plus P w) (total_both (suc b) n s (omega arith) rs up.1)
          | inr p ↦
              let rs : Rising (suc b) (q ∷ s) = (omega (arith, r.0), r.1) in
              let S : Row = total a xs (q ∷ s) in
              let K : Row = total a xs (complement (suc (suc b)) n (q ∷ s)) in
              let oS : Own a S = total-own a laws xs rows (suc b) (q ∷ s) rs upx in
              let oK : Own a K = total-own a laws xs rows (suc b) (complement (suc (suc b)) n (q ∷ s)) (complement-rising (suc b) n (q ∷ s)) (complement-upto (length xs) (suc b) n (q ∷ s) (omega arith)) in
              ap (λ t. a.plus S (total a xs t)) (complement_past (suc b) n (q ∷ s) rs)
              ∙ swap S P K oS oP oK ∙ ap (λ w. a.plus P w) (total_both (suc b) n (q ∷ s) (omega arith) rs up)
        ]

    -- the total of all entries
    abbrev pub all : Row
    all = total a xs (range_with_len 1 (length xs))

    all_is : total a xs (count_from 1 (length xs)) ≡ all
    all_is = ap (total a xs) (sym (counting_is 1 (length xs)))

    all_own : Own a all
    all_own = subst (Own a) all_is (total-own a laws xs rows 0 (count_from 1 (length xs)) (count_rising 0 (length xs)) (count_upto 0 (length xs) (length xs) (omega arith)))

    module _ (low high : Row) (low_own : Own a low) (high_own : Own a high) where
      -- the complement's total is in the turned band where the set's is in the band
      pub complement_band : (m : ℕ) (s : List ℕ) → Among 0 (length xs) m s → in_band a (minus a all high) (minus a all low) (total a xs (complement 1 (length xs) s)) ≡ in_band a low high (total a xs s)
      complement_band m s h =
          ap (in_band a (minus a all high) (minus a all low)) is
          ∙ bool_same (in_band a (minus a all high) (minus a all low) (minus a all x)) (in_band a low high x)
          (λ e. let p = and_parts (a.not_above (minus a all high) (minus a all x)) (a.not_above (minus a all x) (minus a all low)) e in
          and_from (a.not_above low x) (a.not_above x high) (minus_flips_back all low x all_own low_own ox p.1) (minus_flips_back all x high all_own ox high_own p.0))
          (λ e. let p = and_parts (a.not_above low x) (a.not_above x high) e in
          and_from (a.not_above (minus a all high) (minus a all x)) (a.not_above (minus a all x) (minus a all low)) (minus_flips all x high all_own ox high_own p.1) (minus_flips all low x all_own low_own ox p.0))
        where
          x : Row
          x = total a xs s

          k : Row
          k = total a xs (complement 1 (length xs) s)

          ox : Own a x
          ox = total-own a laws xs rows 0 s h.rising h.upto

          ok : Own a k
          ok = total-own a laws xs rows 0 (complement 1 (length xs) s) (complement-rising 0 (length xs) s) (complement-upto (length xs) 0 (length xs) s (omega arith))

          is : k ≡ minus a all x
          is = rest_is x k all ox ok (total_both 0 (length xs) s (omega arith) h.rising (subst (λ j. Upto j s) (let e : length xs ≡ 0 + length xs = omega arith in e) h.upto) ∙ all_is)

      -- the complements of the solutions solve the turned problem, in the turned order
      pub complement-solutions : (m : ℕ) → m ≤ length xs → map (complement 1 (length xs)) (solutions a xs m low high) ≡ reverse (solutions a xs (length xs - m) (minus a all high) (minus a all low))
      complement-solutions m l =
          map_kept (complement 1 (length xs)) (λ s. in_band a low high (total a xs s)) (λ s. in_band a (minus a all high) (minus a all low) (total a xs s)) (sets 1 (length xs) m)
          (of_sets (length xs) m (λ s. in_band a (minus a all high) (minus a all low) (total a xs (complement 1 (length xs) s)) ≡ in_band a low high (total a xs s)) (complement_band m))
          ∙ ap (filter (λ s. in_band a (minus a all high) (minus a all low) (total a xs s))) (complements_of_sets (length xs) m l)
          ∙ kept_reverse (λ s. in_band a (minus a all high) (minus a all low) (total a xs s)) (sets 1 (length xs) (length xs - m))
