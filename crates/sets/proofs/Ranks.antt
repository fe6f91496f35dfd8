-- Between which numbers the sum of m of n places lies.
use Rattle.std.proofs.Common.{◌≡◌, ℕ, zero, suc, ◌+◌, ◌-◌, ◌*◌, ◌/◌, ◌≤◌, List, [], ◌∷◌, length, sym, ap, ◌∙◌, subst, arith}
use Rattle.sets.specs.Crossed.{place_sum, least_total, greatest_total, rank_totals}
use Rattle.sets.specs.Orders.{In}
use Rattle.sets.proofs.Forms.{count_from}
use Rattle.sets.proofs.Vectors.{Below}
use Rattle.sets.proofs.Members.{Among}
use Rattle.sets.proofs.Choices.{counting_is}
use Rattle.sets.proofs.Trace.{count_least, count_most, rising-room, length-count_from}
use Rattle.sets.proofs.Listed.{in_count_from}

place_sum_below : (s t : List ℕ) → Below s t → place_sum s ≤ place_sum t
place_sum_below [] [] h = omega arith
place_sum_below [] (y ∷ t) h = absurd h
place_sum_below (x ∷ s) [] h = absurd h
place_sum_below (x ∷ s) (y ∷ t) h = omega (arith, place_sum_below s t h.1)

-- twice the sum of n places from suc i on
place_sum_count : (i n : ℕ) → 2 * place_sum (count_from (suc i) n) ≡ n * (2 * i + n + 1)
place_sum_count i zero = omega arith
place_sum_count i (suc n) = omega (arith, place_sum_count (suc i) n)

least_total_is : (m : ℕ) → least_total m ≡ place_sum (count_from 1 m)
least_total_is m = omega (arith, place_sum_count 0 m)

greatest_total_is : (n m : ℕ) → m ≤ n → greatest_total n m ≡ place_sum (count_from (suc (n - m)) m)
greatest_total_is n m l =
    let e : 2 * n - m + 1 ≡ 2 * (n - m) + m + 1 = omega arith in
    ap (λ k. m * k / 2) e ∙ omega (arith, place_sum_count (n - m) m)

-- how far the two ends are apart
totals_apart : (n m : ℕ) → m ≤ n → greatest_total n m ≡ least_total m + m * (n - m)
totals_apart n m l = omega (arith, greatest_total_is n m l, least_total_is m, place_sum_count (n - m) m, place_sum_count 0 m)

-- the rank totals as a list that counts up
pub rank_totals_are : (n m : ℕ) → rank_totals n m ≡ count_from (least_total m) (greatest_total n m + 1 - least_total m)
rank_totals_are n m = counting_is (least_total m) (greatest_total n m + 1 - least_total m)

pub length-rank_totals : (n m : ℕ) → m ≤ n → length (rank_totals n m) ≡ m * (n - m) + 1
length-rank_totals n m l = ap length (rank_totals_are n m) ∙ length-count_from (least_total m) (greatest_total n m + 1 - least_total m) ∙ omega (arith, totals_apart n m l)

place_sum_between : (n m : ℕ) (s : List ℕ) → Among 0 n m s → (least_total m ≤ place_sum s) × (place_sum s ≤ greatest_total n m)
place_sum_between n m s h =
    let room : m ≤ n = omega (arith, rising-room n 0 s (omega arith) h.rising h.upto, h.size) in
    let least : Below (count_from 1 m) s = subst (λ k. Below (count_from 1 k) s) h.size (count_least 0 s h.rising) in
    let most : Below s (count_from (suc (n - m)) m) = subst (λ k. Below s (count_from (suc (n - m)) k)) h.size (count_most n (n - m) 0 s (omega (arith, h.size)) h.rising h.upto) in
    (subst (λ k. k ≤ place_sum s) (sym (least_total_is m)) (place_sum_below (count_from 1 m) s least), subst (λ k. place_sum s ≤ k) (sym (greatest_total_is n m room)) (place_sum_below s (count_from (suc (n - m)) m) most))

-- the sum of the places of every set is one of the rank totals
pub in_rank_totals : (n m : ℕ) (s : List ℕ) → Among 0 n m s → In (place_sum s) (rank_totals n m)
in_rank_totals n m s h =
    let b = place_sum_between n m s h in
    subst (In (place_sum s)) (sym (rank_totals_are n m)) (in_count_from (place_sum s) (least_total m) (greatest_total n m + 1 - least_total m) b.0 (omega (arith, b.0, b.1)))
