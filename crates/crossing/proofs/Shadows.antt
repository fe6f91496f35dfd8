-- What a fall comes to, and numbers side by side.
use Rattle.std.proofs.Common.{◌≡◌, ℕ, ◌*◌, ◌≤◌, [], ◌∷◌, ℤ, pos, negsuc, ◌*ℤ◌, ◌≤ℤ◌, mul-le-mul, arith}
use Rattle.std.proofs.lemmas.Int.{ints}
use Rattle.crossing.specs.Ranks.{Fallen}

-- what a fall comes to, as often as a rank says
pub record Raise (z : ℤ) : Type 0 where
  pub least : pos 0 ≤ℤ z
  pub most : z ≤ℤ pos 1452000000000000

pub raise : (f : ℤ) (r : ℕ) → Fallen f → r ≤ 7260 → Raise (f *ℤ pos r)
raise (pos n) r h l =
    let few : n ≤ 200000000000 = omega (arith, ints, h.most) in
    let most : n * r ≤ 200000000000 * 7260 = mul-le-mul few l in
    record { least = omega (arith, ints); most = omega (arith, ints) }
raise (negsuc n) r h l = absurd (omega (arith, ints, h.least))

-- numbers that are each equal
pub four_same : {a b c d a' b' c' d' : ℤ} → a ≡ a' → b ≡ b' → c ≡ c' → d ≡ d' → (a ∷ b ∷ c ∷ d ∷ []) ≡ (a' ∷ b' ∷ c' ∷ d' ∷ [])
four_same p q r s = cc

pub five_same : {a b c d e a' b' c' d' e' : ℤ} → a ≡ a' → b ≡ b' → c ≡ c' → d ≡ d' → e ≡ e' → (a ∷ b ∷ c ∷ d ∷ e ∷ []) ≡ (a' ∷ b' ∷ c' ∷ d' ∷ e' ∷ [])
five_same p q r s t = cc
