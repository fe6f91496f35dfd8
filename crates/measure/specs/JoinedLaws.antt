-- The laws of two kinds side by side, from the laws of each.
use Rattle.std.specs.Prelude.{◌≡◌, ◌&&◌, ◌++◌, length, take, drop}
use Rattle.std.proofs.Common.{sym, ap, ◌∙◌, length-append, take-append-drop, take_at, drop_at}
use Rattle.std.proofs.lemmas.Bool.{and_parts, and_from}
use Rattle.measure.specs.Algebra.{Row, Algebra, Laws, Own, NotAbove, joined}

module _ {a b : Algebra} (la : Laws a) (lb : Laws b) where
  -- the two parts of a row
  abbrev left : Row → Row
  left x = take a.width x

  abbrev right : Row → Row
  right x = drop a.width x

  own-left : (x : Row) → Own (joined a b) x → Own a (left x)
  own-left x o = (and_parts (a.own (left x)) (b.own (right x)) o).0

  own-right : (x : Row) → Own (joined a b) x → Own b (right x)
  own-right x o = (and_parts (a.own (left x)) (b.own (right x)) o).1

  -- what is joined is parted again
  pub left-joined : (p q : Row) → Own a p → take a.width (p ++ q) ≡ p
  left-joined p q o = take_at p q a.width (la.one_length p o)

  pub right-joined : (p q : Row) → Own a p → drop a.width (p ++ q) ≡ q
  right-joined p q o = drop_at p q a.width (la.one_length p o)

  pub own-joined : (p q : Row) → Own a p → Own b q → Own (joined a b) (p ++ q)
  own-joined p q o k =
      and_from (a.own (left (p ++ q))) (b.own (right (p ++ q)))
      (ap a.own (left-joined p q o) ∙ o)
      (ap b.own (right-joined p q o) ∙ k)

  pub plus-joined : (p q p' q' : Row) → Own a p → Own a p' → (joined a b).plus (p ++ q) (p' ++ q') ≡ a.plus p p' ++ b.plus q q'
  plus-joined p q p' q' o o' = cc (left-joined p q o, left-joined p' q' o', right-joined p q o, right-joined p' q' o')

  pub reverse-joined : (p q : Row) → Own a p → (joined a b).reverse (p ++ q) ≡ a.reverse p ++ b.reverse q
  reverse-joined p q o = cc (left-joined p q o, right-joined p q o)

  pub minus-joined : (p q p' q' : Row) → Own a p → Own a p' → (joined a b).plus (p ++ q) ((joined a b).reverse (p' ++ q')) ≡ a.plus p (a.reverse p') ++ b.plus q (b.reverse q')
  minus-joined p q p' q' o o' = ap ((joined a b).plus (p ++ q)) (reverse-joined p' q' o') ∙ plus-joined p q (a.reverse p') (b.reverse q') o (la.reverse_own p' o')

  pub under_joined : (p q p' q' : Row) → Own a p → Own a p' → (joined a b).not_above (p ++ q) (p' ++ q') ≡ (a.not_above p p' && b.not_above q q')
  under_joined p q p' q' o o' = cc (left-joined p q o, left-joined p' q' o', right-joined p q o, right-joined p' q' o')

  both_under : (x y : Row) → NotAbove a (left x) (left y) → NotAbove b (right x) (right y) → NotAbove (joined a b) x y
  both_under x y h k = and_from (a.not_above (left x) (left y)) (b.not_above (right x) (right y)) h k

  under_left : (x y : Row) → NotAbove (joined a b) x y → NotAbove a (left x) (left y)
  under_left x y h = (and_parts (a.not_above (left x) (left y)) (b.not_above (right x) (right y)) h).0

  under_right : (x y : Row) → NotAbove (joined a b) x y → NotAbove b (right x) (right y)
  under_right x y h = (and_parts (a.not_above (left x) (left y)) (b.not_above (right x) (right y)) h).1

  pub joined_laws : Laws (joined a b)
  joined_laws = record {
    one_length = λ x o.
        ap length (sym (take-append-drop a.width x)) ∙ length-append (left x) (right x)
        ∙ cc (la.one_length (left x) (own-left x o), lb.one_length (right x) (own-right x o));
    nothing_own = own-joined a.nothing b.nothing la.nothing_own lb.nothing_own;
    plus_own = λ x y o p.
        own-joined (a.plus (left x) (left y)) (b.plus (right x) (right y))
        (la.plus_own (left x) (left y) (own-left x o) (own-left y p))
        (lb.plus_own (right x) (right y) (own-right x o) (own-right y p));
    reverse_own = λ x o.
        own-joined (a.reverse (left x)) (b.reverse (right x))
        (la.reverse_own (left x) (own-left x o))
        (lb.reverse_own (right x) (own-right x o));
    plus_comm = λ x y o p.
        cc (
          la.plus_comm (left x) (left y) (own-left x o) (own-left y p),
          lb.plus_comm (right x) (right y) (own-right x o) (own-right y p),
        );
    plus_assoc = λ x y z o p q.
        let ox = own-left x o in
        let oy = own-left y p in
        let oz = own-left z q in
        cc (
          left-joined (a.plus (left x) (left y)) (b.plus (right x) (right y)) (la.plus_own (left x) (left y) ox oy),
          right-joined (a.plus (left x) (left y)) (b.plus (right x) (right y)) (la.plus_own (left x) (left y) ox oy),
          left-joined (a.plus (left y) (left z)) (b.plus (right y) (right z)) (la.plus_own (left y) (left z) oy oz),
          right-joined (a.plus (left y) (left z)) (b.plus (right y) (right z)) (la.plus_own (left y) (left z) oy oz),
          la.plus_assoc (left x) (left y) (left z) ox oy oz,
          lb.plus_assoc (right x) (right y) (right z) (own-right x o) (own-right y p) (own-right z q),
        );
    plus_nothing = λ x o.
        cc (
          left-joined a.nothing b.nothing la.nothing_own,
          right-joined a.nothing b.nothing la.nothing_own,
          la.plus_nothing (left x) (own-left x o),
          lb.plus_nothing (right x) (own-right x o),
          take-append-drop a.width x,
        );
    plus_reverse = λ x o.
        cc (
          left-joined (a.reverse (left x)) (b.reverse (right x)) (la.reverse_own (left x) (own-left x o)),
          right-joined (a.reverse (left x)) (b.reverse (right x)) (la.reverse_own (left x) (own-left x o)),
          la.plus_reverse (left x) (own-left x o),
          lb.plus_reverse (right x) (own-right x o),
        );
    reflexive = λ x o.
        both_under x x (la.reflexive (left x) (own-left x o)) (lb.reflexive (right x) (own-right x o));
    transitive = λ x y z o p q h k.
        both_under x z
        (la.transitive (left x) (left y) (left z) (own-left x o) (own-left y p) (own-left z q) (under_left x y h) (under_left y z k))
        (lb.transitive (right x) (right y) (right z) (own-right x o) (own-right y p) (own-right z q) (under_right x y h) (under_right y z k));
    antisymmetric = λ x y o p h k.
        cc (
          la.antisymmetric (left x) (left y) (own-left x o) (own-left y p) (under_left x y h) (under_left y x k),
          lb.antisymmetric (right x) (right y) (own-right x o) (own-right y p) (under_right x y h) (under_right y x k),
          take-append-drop a.width x,
          take-append-drop a.width y,
        );
    plus_keeps = λ x y z o p q h.
        let ox = own-left x o in
        let oy = own-left y p in
        let oz = own-left z q in
        under_joined (a.plus (left x) (left z)) (b.plus (right x) (right z)) (a.plus (left y) (left z)) (b.plus (right y) (right z))
        (la.plus_own (left x) (left z) ox oz) (la.plus_own (left y) (left z) oy oz)
        ∙ and_from (a.not_above (a.plus (left x) (left z)) (a.plus (left y) (left z))) (b.not_above (b.plus (right x) (right z)) (b.plus (right y) (right z)))
        (la.plus_keeps (left x) (left y) (left z) ox oy oz (under_left x y h))
        (lb.plus_keeps (right x) (right y) (right z) (own-right x o) (own-right y p) (own-right z q) (under_right x y h));
  }

-- the sum of two values side by side
pub ruleset joined_steps = (plus-joined)
