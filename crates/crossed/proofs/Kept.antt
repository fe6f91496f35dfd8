-- What calls make of a roll rises, is admitted and is at most 120.
use Rattle.std.proofs.Common.{◌≡◌, ℕ, ◌^◌, ◌<◌, ◌≤◌, min, Bool, true, false, cond, eqb, ltb, List, [], ◌∷◌, length, is_ok, refl, ap, arith}
use Rattle.std.specs.List.{AllByRecursion}
use Rattle.std.proofs.ByRecursion.{All-weaker}
use Rattle.std.proofs.lemmas.Bool.{ltb-true, ltb-false, eqb-false, or_parts}
use Rattle.crossed.specs.declared.entries.Columns.{Columns}
use Rattle.roll.specs.declared.refusal.Refusal.TheVariants.{PastColumns}
use Rattle.roll.specs.Cells.{tested}
use Rattle.roll.proofs.Puts.{all_put, all_without, put_long, without_long}
use Rattle.crossed.specs.Entries.{Entry, in_range, past_zero}
use Rattle.crossed.specs.Books.{before, numbered, put, without, entered, struck}
use Rattle.crossed.specs.Rolls.{standing}
use Rattle.crossed.specs.declared.rolls.Roll.{Roll}
use Rattle.std.specs.List.{AllByRecursion-prop}
use Rattle.std.specs.Coded.{×_prop, Unit-prop, le_prop}
use Rattle.std.proofs.Math.Bool.{Bool-set}
use Rattle.std.proofs.Math.Logic.{∥∥₁_elim}
use Rattle.crossed.specs.Reachable.{by_open, by_enter, by_strike, Rising, Admitted, WellFormed, AlwaysWellFormed}

-- a new number put in keeps the rise
put-rising : (e : Entry) (xs : List Entry) → Rising xs → numbered e.number xs ≡ false → Rising (put e xs)
put-rising e [] h n = (tt, tt)
put-rising e (x ∷ xs) h n = go (ltb x.number e.number) refl (put-rising e xs h.1 (or_parts (eqb x.number e.number) (numbered e.number xs) n).1)
  where
    go : (b : Bool) → ltb x.number e.number ≡ b → Rising (put e xs) → Rising (cond b (x ∷ put e xs) (e ∷ x ∷ xs))
    go true q r = (all_put before (λ y. x.number < y.number) e xs (ltb-true x.number e.number q) h.0, r)
    go false q r =
        let ne = eqb-false x.number e.number (or_parts (eqb x.number e.number) (numbered e.number xs) n).0 in
        let ge = ltb-false x.number e.number q in
        let f : e.number < x.number = omega arith in
        ((f, All-weaker (λ y. x.number < y.number) (λ y. e.number < y.number) (λ y s. omega arith) xs h.0), h)

-- taking one out keeps it too
without-rising : (n : ℕ) (xs : List Entry) → Rising xs → Rising (without n xs)
without-rising n [] h = h
without-rising n (x ∷ xs) h = go (eqb x.number n) (without-rising n xs h.1)
  where
    go : (b : Bool) → Rising (without n xs) → Rising (cond b xs (x ∷ without n xs))
    go true r = h.1
    go false r = (all_without (λ x. x.number) (λ y. x.number < y.number) n xs h.0, r)

-- entering keeps a roll well formed
entered_well_formed : (d : Columns) (room : ℕ) (xs : List Entry) (e : Entry) → e.number < 2 ^ 32 → WellFormed d xs → WellFormed d (entered d room xs e)
entered_well_formed d room xs e fit h = go (in_range d e.value) (numbered e.number xs) (ltb (length xs) (min 120 room)) (past_zero d e.value) refl refl refl refl
  where
    go : (a n r z : Bool) → in_range d e.value ≡ a → numbered e.number xs ≡ n → ltb (length xs) (min 120 room) ≡ r → past_zero d e.value ≡ z → WellFormed d (cond (is_ok (tested a n r z PastColumns)) (put e xs) xs)
    go true false true true p q s t =
        let k = ltb-true (length xs) (min 120 room) s in
        (put-rising e xs h.0 q, all_put before (Admitted d) e xs (fit, p, t) h.1, omega (arith, put_long before e xs))
    go true true r z p q s t = h
    go true false false z p q s t = h
    go true false true false p q s t = h
    go false n r z p q s t = h

-- striking keeps it so
struck_well_formed : (d : Columns) (xs : List Entry) (n : ℕ) → WellFormed d xs → WellFormed d (struck xs n)
struck_well_formed d xs n h =
    (without-rising n xs h.0, all_without (λ x. x.number) (Admitted d) n xs h.1, omega (arith, without_long (λ x. x.number) n xs))

-- and so do all calls
pub always_well_formed : AlwaysWellFormed
always_well_formed d _ by_open = (tt, tt, omega arith)
always_well_formed d _ (by_enter {xs} room e fit r) = entered_well_formed d room xs e fit (always_well_formed d xs r)
always_well_formed d _ (by_strike {xs} n r) = struck_well_formed d xs n (always_well_formed d xs r)

-- a roll that is well formed is so in one way only
Rising-prop : (xs : List Entry) → IsProp (Rising xs)
Rising-prop [] = Unit-prop
Rising-prop (x ∷ xs) = ×_prop (AllByRecursion-prop (λ y. x.number < y.number) (λ y. le_prop) xs) (Rising-prop xs)

Admitted-prop : (d : Columns) (e : Entry) → IsProp (Admitted d e)
Admitted-prop d e x y =
    ap {A = (e.number < 2 ^ 32) × ((in_range d e.value ≡ true) × (past_zero d e.value ≡ true))} (λ p. (p.0, p.1.0, p.1.1))
    (×_prop le_prop (×_prop (Bool-set _ _) (Bool-set _ _)) (x.0, (x.1, x.2)) (y.0, (y.1, y.2)))

pub WellFormed-prop : (d : Columns) (xs : List Entry) → IsProp (WellFormed d xs)
WellFormed-prop d xs x y =
    ap {A = Rising xs × (AllByRecursion (Admitted d) xs × (length xs ≤ 120))} (λ p. (p.0, p.1.0, p.1.1))
    (×_prop (Rising-prop xs) (×_prop (AllByRecursion-prop (Admitted d) (Admitted-prop d) xs) le_prop) (x.0, (x.1, x.2)) (y.0, (y.1, y.2)))

-- what stands on a roll is well formed
pub well_formed : (r : Roll) → WellFormed r.columns (standing r)
well_formed r = ∥∥₁_elim r.reached (WellFormed-prop r.columns (standing r)) (always_well_formed r.columns (standing r))
