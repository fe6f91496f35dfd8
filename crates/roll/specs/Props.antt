-- That what calls keep holds in one way only, so that a type can say it.
use Rattle.std.specs.Prelude.{◌≡◌, ◌≤◌, true, List, [], ◌∷◌, length}
use Rattle.std.proofs.Common.{ap}
use Rattle.std.proofs.Math.Bool.{Bool-set}
use Rattle.std.specs.List.{AllByRecursion, AllByRecursion-prop}
use Rattle.std.specs.Coded.{×_prop, →_prop, Unit-prop, le_prop}
use Rattle.sets.specs.Orders.{Sorted}
use Rattle.roll.specs.Order.{Kind}
use Rattle.roll.specs.Books.{Kept, Ordered, Once}

pub Sorted-prop : {X : Type 0} (R : X → X → Type 0) → ((x y : X) → IsProp (R x y)) → (xs : List X) → IsProp (Sorted R xs)
Sorted-prop R p [] = Unit-prop
Sorted-prop R p (x ∷ xs) = ×_prop (AllByRecursion-prop (R x) (p x) xs) (Sorted-prop R p xs)

pub Kept-prop : {X : Type 0} (k : Kind X) (xs : List X) → IsProp (Kept k xs)
Kept-prop k xs x y =
    ap {A = Ordered k xs × (Once k xs × (AllByRecursion (λ x. k.admitted x ≡ true) xs × (length xs ≤ 120)))} (λ p. record { ordered = p.0; once = p.1.0; admitted = p.1.1.0; few = p.1.1.1 })
    (×_prop (Sorted-prop _ (λ a b. Bool-set _ _) xs) (×_prop (Sorted-prop _ (λ a b. →_prop (λ p q. absurd p)) xs) (×_prop (AllByRecursion-prop _ (λ a. Bool-set _ _) xs) le_prop))
    (x.ordered, (x.once, (x.admitted, x.few))) (y.ordered, (y.once, (y.admitted, y.few))))
