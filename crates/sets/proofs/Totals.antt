-- Totals go up with the places, where the rows climb.
use Rattle.std.proofs.Common.{ℕ, zero, suc, ◌-◌, ◌<◌, ◌≤◌, List, [], ◌∷◌, length, get_or, arith}
use Rattle.std.specs.List.{AllByRecursion}
use Rattle.std.proofs.ByRecursion.{All-get_or}
use Rattle.measure.specs.Algebra.{Algebra, Row, Laws, Own, NotAbove}
use Rattle.sets.specs.Sets.{Rows, Climbs, total, at_place}
use Rattle.sets.proofs.Vectors.{Below, Rising, Upto}

module _ (a : Algebra) (laws : Laws a) where
  first-least : (x : Row) (xs : List Row) → AllByRecursion (Own a) (x ∷ xs) → Climbs a (x ∷ xs) → (i : ℕ) → i < length (x ∷ xs) → NotAbove a x (get_or (x ∷ xs) i [])
  first-least x xs o c zero l = laws.reflexive x o.0
  first-least x [] o c (suc i) l = absurd (omega arith)
  first-least x (y ∷ ys) o c (suc i) l =
      laws.transitive x y (get_or (y ∷ ys) i []) o.0 o.1.0 (All-get_or (Own a) (y ∷ ys) i [] (omega arith) o.1) c.0 (first-least y ys o.1 c.1 i (omega arith))

  climbs_tail : (x : Row) (xs : List Row) → Climbs a (x ∷ xs) → Climbs a xs
  climbs_tail x [] c = tt
  climbs_tail x (y ∷ ys) c = c.1

  get_or-climbs : (xs : List Row) → AllByRecursion (Own a) xs → Climbs a xs → (i j : ℕ) → i ≤ j → j < length xs → NotAbove a (get_or xs i []) (get_or xs j [])
  get_or-climbs [] o c i j l k = absurd (omega arith)
  get_or-climbs (x ∷ xs) o c zero j l k = first-least x xs o c j k
  get_or-climbs (x ∷ xs) o c (suc i) zero l k = absurd (omega arith)
  get_or-climbs (x ∷ xs) o c (suc i) (suc j) l k = get_or-climbs xs o.1 (climbs_tail x xs c) i j (omega arith) (omega arith)

  module _ (xs : List Row) (rows : Rows a xs) where
    pub place-own : (p : ℕ) → 0 < p → p ≤ length xs → Own a (at_place xs p)
    place-own p l k = All-get_or (Own a) xs (p - 1) [] (omega arith) rows.own

    pub place-climbs : (p q : ℕ) → 0 < p → p ≤ q → q ≤ length xs → NotAbove a (at_place xs p) (at_place xs q)
    place-climbs p q l k j = get_or-climbs xs rows.own rows.climbs (p - 1) (q - 1) (omega arith) (omega arith)

    pub total-own : (b : ℕ) (s : List ℕ) → Rising b s → Upto (length xs) s → Own a (total a xs s)
    total-own b [] r u = laws.nothing_own
    total-own b (p ∷ s) r u = laws.plus_own (at_place xs p) (total a xs s) (place-own p (omega arith) u.0) (total-own p s r.1 u.1)

    pub total-climbs : (b c : ℕ) (s t : List ℕ) → Rising b s → Rising c t → Upto (length xs) s → Upto (length xs) t → Below s t → NotAbove a (total a xs s) (total a xs t)
    total-climbs b c [] [] r q u w h = laws.reflexive a.nothing laws.nothing_own
    total-climbs b c [] (y ∷ t) r q u w h = absurd h
    total-climbs b c (x ∷ s) [] r q u w h = absurd h
    total-climbs b c (x ∷ s) (y ∷ t) r q u w h =
        let X : Row = at_place xs x in
        let Y : Row = at_place xs y in
        let S : Row = total a xs s in
        let T : Row = total a xs t in
        let oX : Own a X = place-own x (omega arith) u.0 in
        let oY : Own a Y = place-own y (omega arith) w.0 in
        let oS : Own a S = total-own x s r.1 u.1 in
        let oT : Own a T = total-own y t q.1 w.1 in
        let first : NotAbove a (a.plus X S) (a.plus Y S) = laws.plus_keeps X Y S oX oY oS (place-climbs x y (omega arith) h.0 w.0) in
        let rest : NotAbove a (a.plus S Y) (a.plus T Y) = laws.plus_keeps S T Y oS oT oY (total-climbs x y s t r.1 q.1 u.1 w.1 h.1) in
        let rest' : NotAbove a (a.plus Y S) (a.plus Y T) = cc (laws.plus_comm S Y oS oY, laws.plus_comm T Y oT oY, rest) in
        laws.transitive (a.plus X S) (a.plus Y S) (a.plus Y T) (laws.plus_own X S oX oS) (laws.plus_own Y S oY oS) (laws.plus_own Y T oY oT) first rest'
