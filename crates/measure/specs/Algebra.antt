-- What a kind of amount means. The meaning of a value is a row of whole numbers; a kind says which rows are its own,
-- how they add, which row is nothing, which row reverses another, and when one row is not above another.
use Rattle.std.specs.Prelude.{◌≡◌, ℕ, ◌+◌, Bool, true, ◌&&◌, List, ◌++◌, length, take, drop, ℤ}

abbrev pub Row : Type 0
Row = List ℤ

pub record Algebra : Type 0 where
  -- how long its rows are
  pub width : ℕ
  pub own : Row → Bool
  pub nothing : Row
  pub plus : Row → Row → Row
  pub reverse : Row → Row
  pub not_above : Row → Row → Bool

-- x is a row of the kind a
abbrev pub Own : Algebra → Row → Type 0
Own a x = a.own x ≡ true

-- x is not above y
abbrev pub NotAbove : Algebra → Row → Row → Type 0
NotAbove a x y = a.not_above x y ≡ true

-- What every kind keeps, for its own rows: all have one length; they are a commutative group under plus; not-above
-- orders them, and adding one row to both sides keeps that order.
pub record Laws (a : Algebra) : Type 0 where
  pub one_length : (x : Row) → Own a x → length x ≡ a.width
  pub nothing_own : Own a a.nothing
  pub plus_own : (x y : Row) → Own a x → Own a y → Own a (a.plus x y)
  pub reverse_own : (x : Row) → Own a x → Own a (a.reverse x)
  pub plus_comm : (x y : Row) → Own a x → Own a y → a.plus x y ≡ a.plus y x
  pub plus_assoc : (x y z : Row) → Own a x → Own a y → Own a z → a.plus (a.plus x y) z ≡ a.plus x (a.plus y z)
  pub plus_nothing : (x : Row) → Own a x → a.plus x a.nothing ≡ x
  pub plus_reverse : (x : Row) → Own a x → a.plus x (a.reverse x) ≡ a.nothing
  pub reflexive : (x : Row) → Own a x → NotAbove a x x
  pub transitive : (x y z : Row) → Own a x → Own a y → Own a z → NotAbove a x y → NotAbove a y z → NotAbove a x z
  pub antisymmetric : (x y : Row) → Own a x → Own a y → NotAbove a x y → NotAbove a y x → x ≡ y
  pub plus_keeps : (x y z : Row) → Own a x → Own a y → Own a z → NotAbove a x y → NotAbove a (a.plus x z) (a.plus y z)

-- Two kinds side by side: a row of the first, then one of the second, each part by itself.
abbrev pub joined : Algebra → Algebra → Algebra
joined a b = record {
  width = a.width + b.width;
  own = λ x. a.own (take a.width x) && b.own (drop a.width x);
  nothing = a.nothing ++ b.nothing;
  plus = λ x y. a.plus (take a.width x) (take a.width y) ++ b.plus (drop a.width x) (drop a.width y);
  reverse = λ x. a.reverse (take a.width x) ++ b.reverse (drop a.width x);
  not_above = λ x y. a.not_above (take a.width x) (take a.width y) && b.not_above (drop a.width x) (drop a.width y);
}
