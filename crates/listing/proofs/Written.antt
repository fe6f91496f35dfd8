-- Bytes written over bytes, one piece after another.
use Rattle.std.proofs.Common.{refl, ◌≡◌, ℕ, ◌+◌, ◌<◌, List, [], ◌∷◌, ◌++◌, length, get_or, take, drop, Some, None, Option, sym, ap, ◌∙◌, subst, arith}
use Rattle.std.specs.List.{flat_map}
use Rattle.std.proofs.lemmas.Grind.{flat_map-append}
use Rattle.std.proofs.lemmas.List.{append_assoc, length-append, take-append-drop, take_more, flat_map_more}
use Rattle.rollfile.specs.Writing.{over}
use Rattle.rollfile.proofs.Overs.{over-over}
use Rattle.listing.specs.Text.{field, line, Puts, Writes}
use Rattle.listing.specs.declared.text.Text.{Text}

-- where the first piece fits, the second decides
pub puts_then : (a b c : Text) (xs ys : List ℕ) (r : Option (Unit {0})) → Puts a xs (Some tt) b → Puts b ys r c → Puts a (xs ++ ys) r c
puts_then a b c xs ys None p q = record {
  lent = q.lent ∙ p.lent;
  length_same = q.length_same ∙ p.length_same;
  written = omega (arith, length-append xs ys, p.written.0, p.length_same, q.written);
}
puts_then a b c xs ys (Some u) p q = record {
  lent = q.lent ∙ p.lent;
  length_same = q.length_same ∙ p.length_same;
  written = (
    omega (arith, length-append xs ys, p.written.0, q.written.0),
    q.written.1 ∙ ap (λ z. over z b.at ys) p.written.1 ∙ over-over a.out.now a.at b.at xs ys p.written.0 (omega (arith, p.written.0, q.written.0, c.within, q.length_same, p.length_same)),
  );
}

-- where the first piece does not fit, the whole does not
pub puts_short : (a b : Text) (xs ys : List ℕ) → Puts a xs None b → Puts a (xs ++ ys) None b
puts_short a b xs ys p = record { lent = p.lent; length_same = p.length_same; written = omega (arith, length-append xs ys, p.written) }

-- nothing is written
pub puts_none : (a : Text) → Puts a [] (Some tt) a
puts_none a =
    let z : a.at ≡ a.at + 0 = omega arith in
    record { lent = refl; length_same = refl; written = (z, sym (take-append-drop a.at a.out.now) ∙ ap (λ n. take a.at a.out.now ++ drop n a.out.now) z) }

-- some text
pub puts_writes : (a b : Text) (bs : List ℕ) (r : Option (Unit {0})) → Puts a bs r b → Writes a r b
puts_writes a b bs None p = tt
puts_writes a b bs (Some u) p = (bs, p)

-- some text, then more
pub writes_then : (a b c : Text) (r : Option (Unit {0})) → Writes a (Some tt) b → Writes b r c → Writes a r c
writes_then a b c None p q = tt
writes_then a b c (Some u) p q = (p.0 ++ q.0, puts_then a b c p.0 q.0 (Some u) p.1 q.1)

-- a line of two numbers, piece by piece
pub line_of_two : (letter m n : ℕ) → letter ∷ (field m ++ (field n ++ 10 ∷ [])) ≡ line letter (m ∷ n ∷ [])
line_of_two letter m n = ap (λ z. letter ∷ z) (sym (append_assoc (field m) (field n ++ []) (10 ∷ []) ∙ ap (λ z. field m ++ z) (append_assoc (field n) [] (10 ∷ []))))

module _ (a b c : Text) (xs : List ℕ) (i x : ℕ) (within : i < length xs) (read : x ≡ get_or xs i 0) (so_far : Puts a (flat_map field (take i xs)) (Some tt) b) where
  more : flat_map field (take i xs) ++ field x ≡ flat_map field (take (i + 1) xs)
  more = flat_map_more field [] (take i xs) x ∙ ap (flat_map field) (ap (λ z. take i xs ++ z ∷ []) read ∙ sym (take_more xs i 0 within))

  -- one field more
  pub puts_field : Puts b (field x) (Some tt) c → Puts a (flat_map field (take (i + 1) xs)) (Some tt) c
  puts_field q = subst (λ bs. Puts a bs (Some tt) c) more (puts_then a b c (flat_map field (take i xs)) (field x) (Some tt) so_far q)

  -- one that does not fit: nor do all of them
  pub puts_cut : Puts b (field x) None c → Puts a (flat_map field xs) None c
  puts_cut q =
      let whole : flat_map field (take (i + 1) xs) ++ flat_map field (drop (i + 1) xs) ≡ flat_map field xs = sym (flat_map-append field (take (i + 1) xs) (drop (i + 1) xs)) ∙ ap (flat_map field) (take-append-drop (i + 1) xs) in
      let short : Puts a (flat_map field (take (i + 1) xs)) None c = subst (λ bs. Puts a bs None c) more (puts_then a b c (flat_map field (take i xs)) (field x) None so_far q) in
      subst (λ bs. Puts a bs None c) whole (puts_short a c (flat_map field (take (i + 1) xs)) (flat_map field (drop (i + 1) xs)) short)

module _ (a b c : Text) (pre left whole : List ℕ) (so_far : Puts a pre (Some tt) b) (all : pre ++ left ≡ whole) where
  -- the last of several pieces
  pub puts_last : (r : Option (Unit {0})) → Puts b left r c → Puts a whole r c
  puts_last r q = subst (λ bs. Puts a bs r c) all (puts_then a b c pre left r so_far q)

  module _ (one more : List ℕ) (next : left ≡ one ++ more) where
    -- a piece that does not fit, before others
    pub puts_stop : Puts b one None c → Puts a whole None c
    puts_stop q = puts_last None (subst (λ bs. Puts b bs None c) (sym next) (puts_short b c one more q))

    -- one piece more, before others
    pub puts_on : Puts b one (Some tt) c → (now : List ℕ) × Puts a now (Some tt) c × (now ++ more ≡ whole)
    puts_on q = (pre ++ one, puts_then a b c pre one (Some tt) so_far q, append_assoc pre one more ∙ ap (λ l. pre ++ l) (sym next) ∙ all)
