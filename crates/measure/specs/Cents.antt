-- Amounts: rows of one whole number, in cents.
use Rattle.std.specs.Prelude.{ℕ, ◌+◌, ◌*◌, ◌/◌, ◌≤◌, [], ◌∷◌, length, ℤ, pos, ◌+ℤ◌, neg_ℤ, ◌==◌, int_le, slice_index_or, unsigned_abs}
use Rattle.measure.specs.Algebra.{Algebra, Row}

-- the number of a row
abbrev pub at : Row → ℤ
at x = slice_index_or x 0 (pos 0)

abbrev pub cents : Algebra
cents = record {
  width = 1;
  own = λ x. (length x == 1);
  nothing = pos 0 ∷ [];
  plus = λ x y. (at x +ℤ at y) ∷ [];
  reverse = λ x. neg_ℤ (at x) ∷ [];
  not_above = λ x y. int_le (at x) (at y);
}

-- how many times 2,000,000,000,000,000 a number's magnitude needs, rounded up
abbrev pub span_of : ℤ → ℕ
span_of z = (unsigned_abs z + 1999999999999999) / 2000000000000000

-- the span is the least s such that the magnitude is at most s times 2,000,000,000,000,000
abbrev pub SpanLeast : Type 0
SpanLeast = (z : ℤ) (s : ℕ) → (span_of z ≤ s → unsigned_abs z ≤ s * 2000000000000000) × (unsigned_abs z ≤ s * 2000000000000000 → span_of z ≤ s)
