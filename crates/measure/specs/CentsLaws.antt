-- The laws of cents.
use Rattle.std.specs.Prelude.{◌≡◌, [], ◌∷◌, length, refl}
use Rattle.std.proofs.Common.{sym, ap, ◌∙◌, arith}
use Rattle.std.proofs.Math.IntN.{+ℤ_comm, +ℤ_assoc, +ℤ_idr, +ℤ_invr}
use Rattle.std.proofs.lemmas.Bool.{eqb-true, false≢true}
use Rattle.std.proofs.lemmas.Int.{ints}
use Rattle.measure.specs.Algebra.{Row, Laws, Own}
use Rattle.measure.specs.Cents.{at, cents}

-- a row of cents is its number
row_is : (x : Row) → Own cents x → (at x ∷ []) ≡ x
row_is [] o = absurd (false≢true o)
row_is (x ∷ []) o = refl
row_is (x ∷ y ∷ ys) o = absurd (omega (arith, eqb-true (length (x ∷ y ∷ ys)) 1 o))

pub cents_laws : Laws cents
cents_laws = record {
  one_length = λ x o. eqb-true (length x) 1 o;
  nothing_own = refl;
  plus_own = λ x y o p. refl;
  reverse_own = λ x o. refl;
  plus_comm = λ x y o p. ap (λ z. z ∷ []) (+ℤ_comm (at x) (at y));
  plus_assoc = λ x y z o p q. ap (λ z. z ∷ []) (+ℤ_assoc (at x) (at y) (at z));
  plus_nothing = λ x o. ap (λ z. z ∷ []) (+ℤ_idr (at x)) ∙ row_is x o;
  plus_reverse = λ x o. ap (λ z. z ∷ []) (+ℤ_invr (at x));
  reflexive = λ x o. grind (arith, ints);
  transitive = λ x y z o p q h k. grind (arith, ints);
  antisymmetric = λ x y o p h k.
      let e : at x ≡ at y = grind (arith, ints) in
      sym (row_is x o) ∙ ap (λ z. z ∷ []) e ∙ row_is y p;
  plus_keeps = λ x y z o p q h. grind (arith, ints);
}
