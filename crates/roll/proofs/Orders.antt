-- Entering and striking keep the order, and the order is settled by what stands.
use Rattle.std.proofs.Common.{◌≡◌, ℕ, ◌<◌, min, Bool, true, false, cond, not, ◌&&◌, ◌||◌, eqb, ltb, ◌⊎◌, List, [], ◌∷◌, map, length, is_ok, sym, refl, ap, ◌∙◌, subst, inl, inr, ⊎_elim, arith}
use Rattle.std.specs.List.{AllByRecursion}
use Rattle.std.proofs.ByRecursion.{All-weaker}
use Rattle.std.proofs.lemmas.Bool.{ltb-true, lt-ltb, ltb-false, eqb-false, eqb-true, true≢false, false≢true, and_parts, or_parts}
use Rattle.measure.specs.Algebra.{Algebra, Laws, Row, Own}
use Rattle.roll.proofs.Puts.{all_put, all_without, put_long, without_long}
use Rattle.roll.specs.Order.{Kind, before, matched, numbered, comparable, put, without}
use Rattle.roll.specs.Books.{kind, entered}
use Rattle.roll.specs.Cells.{tested}
use Rattle.sets.specs.Orders.{In}
use Rattle.roll.specs.Books.{Ordered, Once, Kept, Same, opened, did_enter, did_strike, line, AlwaysKept, SameOrder, Adds, Takes}
use Rattle.roll.specs.declared.entry.Entry.{Entry}
use Rattle.roll.specs.declared.refusal.Refusal.TheVariants.{Incomparable}

parts : (a b : Bool) (m n : ℕ) → (a && (not b || ltb m n)) ≡ true → (a ≡ true) × (b ≡ true → m < n)
parts true true m n h = (refl, λ q. ltb-true m n h)
parts true false m n h = (refl, λ q. absurd (false≢true q))
parts false b m n h = absurd (false≢true h)

whole : (a b : Bool) (m n : ℕ) → a ≡ true → (b ≡ true → m < n) → (a && (not b || ltb m n)) ≡ true
whole true true m n q h = lt-ltb m n (h refl)
whole true false m n q h = refl
whole false b m n q h = absurd (false≢true q)

turned : (a b : Bool) (m n : ℕ) → (a && (not b || ltb m n)) ≡ false → (b || a) ≡ true → (m ≡ n → ⊥) → (b && (not a || ltb n m)) ≡ true
turned true true m n h c d = lt-ltb n m (let l = ltb-false m n h in omega arith)
turned true false m n h c d = absurd (true≢false h)
turned false true m n h c d = refl
turned false false m n h c d = absurd (false≢true c)

-- not-above goes from one to the next
abbrev pub Transitive : {X : Type 0} → Kind X → Type 0
Transitive {X} k = (x y z : X) → k.not_above x y ≡ true → k.not_above y z ≡ true → k.not_above x z ≡ true

module _ {X : Type 0} (k : Kind X) where
  before_parts : (x y : X) → before k x y ≡ true → (k.not_above x y ≡ true) × (k.not_above y x ≡ true → k.number x < k.number y)
  before_parts x y h = parts (k.not_above x y) (k.not_above y x) (k.number x) (k.number y) h

  before_trans : Transitive k → (x y z : X) → before k x y ≡ true → before k y z ≡ true → before k x z ≡ true
  before_trans t x y z p q =
      let p' = before_parts x y p in
      let q' = before_parts y z q in
      whole (k.not_above x z) (k.not_above z x) (k.number x) (k.number z) (t x y z p'.0 q'.0)
      (λ r. let a = p'.1 (t y z x q'.0 r) in let b = q'.1 (t z x y r p'.0) in omega arith)

  before_never : (x y : X) → before k x y ≡ true → before k y x ≡ true → ⊥
  before_never x y p q =
      let p' = before_parts x y p in
      let q' = before_parts y x q in
      let a = p'.1 q'.0 in
      let b = q'.1 p'.0 in
      omega arith

  put-ordered : Transitive k → (e : X) (xs : List X) → Ordered k xs → numbered k.number (k.number e) xs ≡ false → comparable k e xs ≡ true → Ordered k (put (before k) e xs)
  put-ordered t e [] h n c = (tt, tt)
  put-ordered t e (x ∷ xs) h n c =
      go (before k x e) refl (put-ordered t e xs h.1 (or_parts (eqb (k.number x) (k.number e)) (numbered k.number (k.number e) xs) n).1 (and_parts (matched k e x) (comparable k e xs) c).1)
    where
      go : (b : Bool) → before k x e ≡ b → Ordered k (put (before k) e xs) → Ordered k (cond b (x ∷ put (before k) e xs) (e ∷ x ∷ xs))
      go true q r = (all_put (before k) (λ y. before k x y ≡ true) e xs q h.0, r)
      go false q r =
          let f = turned (k.not_above x e) (k.not_above e x) (k.number x) (k.number e) q (and_parts (matched k e x) (comparable k e xs) c).0 (eqb-false (k.number x) (k.number e) (or_parts (eqb (k.number x) (k.number e)) (numbered k.number (k.number e) xs) n).0) in
          ((f, All-weaker (λ y. before k x y ≡ true) (λ y. before k e y ≡ true) (λ y s. before_trans t e x y f s) xs h.0), h)

  apart : (e : X) (xs : List X) → numbered k.number (k.number e) xs ≡ false → AllByRecursion (λ y. k.number e ≡ k.number y → ⊥) xs
  apart e [] n = tt
  apart e (x ∷ xs) n =
      let o = or_parts (eqb (k.number x) (k.number e)) (numbered k.number (k.number e) xs) n in
      (λ q. eqb-false (k.number x) (k.number e) o.0 (sym q), apart e xs o.1)

  put_once : (e : X) (xs : List X) → Once k xs → numbered k.number (k.number e) xs ≡ false → Once k (put (before k) e xs)
  put_once e [] h n = (tt, tt)
  put_once e (x ∷ xs) h n = go (before k x e) (put_once e xs h.1 (or_parts (eqb (k.number x) (k.number e)) (numbered k.number (k.number e) xs) n).1)
    where
      go : (b : Bool) → Once k (put (before k) e xs) → Once k (cond b (x ∷ put (before k) e xs) (e ∷ x ∷ xs))
      go true r = (all_put (before k) (λ y. k.number x ≡ k.number y → ⊥) e xs (eqb-false (k.number x) (k.number e) (or_parts (eqb (k.number x) (k.number e)) (numbered k.number (k.number e) xs) n).0) h.0, r)
      go false r = (apart e (x ∷ xs) n, h)

  without-ordered : (n : ℕ) (xs : List X) → Ordered k xs → Ordered k (without k.number n xs)
  without-ordered n [] h = h
  without-ordered n (x ∷ xs) h = go (eqb (k.number x) n) (without-ordered n xs h.1)
    where
      go : (b : Bool) → Ordered k (without k.number n xs) → Ordered k (cond b xs (x ∷ without k.number n xs))
      go true r = h.1
      go false r = (all_without k.number (λ y. before k x y ≡ true) n xs h.0, r)

  without_once : (n : ℕ) (xs : List X) → Once k xs → Once k (without k.number n xs)
  without_once n [] h = h
  without_once n (x ∷ xs) h = go (eqb (k.number x) n) (without_once n xs h.1)
    where
      go : (b : Bool) → Once k (without k.number n xs) → Once k (cond b xs (x ∷ without k.number n xs))
      go true r = h.1
      go false r = (all_without k.number (λ y. k.number x ≡ k.number y → ⊥) n xs h.0, r)

  pub without_kept : (n : ℕ) (xs : List X) → Kept k xs → Kept k (without k.number n xs)
  without_kept n xs h = record {
    ordered = without-ordered n xs h.ordered;
    once = without_once n xs h.once;
    admitted = all_without k.number (λ x. k.admitted x ≡ true) n xs h.admitted;
    few = omega (arith, without_long k.number n xs, h.few);
  }

  pub entered_kept : Transitive k → (room : ℕ) (xs : List X) (e : X) → Kept k xs → Kept k (entered k room xs e)
  entered_kept t room xs e h = go (k.admitted e) (numbered k.number (k.number e) xs) (ltb (length xs) (min 120 room)) (comparable k e xs) refl refl refl refl
    where
      go : (a n r c : Bool) → k.admitted e ≡ a → numbered k.number (k.number e) xs ≡ n → ltb (length xs) (min 120 room) ≡ r → comparable k e xs ≡ c → Kept k (cond (is_ok (tested a n r c Incomparable)) (put (before k) e xs) xs)
      go true false true true i p l q = record {
        ordered = put-ordered t e xs h.ordered p q;
        once = put_once e xs h.once p;
        admitted = all_put (before k) (λ x. k.admitted x ≡ true) e xs i h.admitted;
        few = omega (arith, put_long (before k) e xs, ltb-true (length xs) (min 120 room) l);
      }
      go true true r c i p l q = h
      go true false false c i p l q = h
      go true false true false i p l q = h
      go false n r c i p l q = h

  one_of : (P : X → Type 0) (x : X) (xs : List X) → AllByRecursion P xs → In x xs → P x
  one_of P x [] h i = absurd i
  one_of P x (y ∷ ys) h (inl e) = subst P (sym e) h.0
  one_of P x (y ∷ ys) h (inr i) = one_of P x ys h.1 i

  -- what stands after e is put in: e, and what stood
  in_put_to : (z e : X) (xs : List X) → In z (put (before k) e xs) → (z ≡ e) ⊎ In z xs
  in_put_to z e [] i = i
  in_put_to z e (x ∷ xs) i = go (before k x e) (in_put_to z e xs) i
    where
      go : (b : Bool) → (In z (put (before k) e xs) → (z ≡ e) ⊎ In z xs) → In z (cond b (x ∷ put (before k) e xs) (e ∷ x ∷ xs)) → (z ≡ e) ⊎ In z (x ∷ xs)
      go true r (inl q) = inr (inl q)
      go true r (inr j) = ⊎_elim inl (λ l. inr (inr l)) (r j)
      go false r j = j

  in_put_from : (z e : X) (xs : List X) → (z ≡ e) ⊎ In z xs → In z (put (before k) e xs)
  in_put_from z e [] i = i
  in_put_from z e (x ∷ xs) i = go (before k x e) (in_put_from z e xs) i
    where
      go : (b : Bool) → ((z ≡ e) ⊎ In z xs → In z (put (before k) e xs)) → (z ≡ e) ⊎ In z (x ∷ xs) → In z (cond b (x ∷ put (before k) e xs) (e ∷ x ∷ xs))
      go true r (inl q) = inr (r (inl q))
      go true r (inr (inl q)) = inl q
      go true r (inr (inr j)) = inr (r (inr j))
      go false r j = j

  -- what stands after n is struck: all that stood but what had the number n
  in_without_to : (z : X) (n : ℕ) (xs : List X) → Once k xs → In z (without k.number n xs) → In z xs × (k.number z ≡ n → ⊥)
  in_without_to z n [] d i = absurd i
  in_without_to z n (x ∷ xs) d i = go (eqb (k.number x) n) refl (in_without_to z n xs d.1) i
    where
      go : (b : Bool) → eqb (k.number x) n ≡ b → (In z (without k.number n xs) → In z xs × (k.number z ≡ n → ⊥)) → In z (cond b xs (x ∷ without k.number n xs)) → In z (x ∷ xs) × (k.number z ≡ n → ⊥)
      go true q r j = (inr j, λ m. one_of (λ y. k.number x ≡ k.number y → ⊥) z xs d.0 j (eqb-true (k.number x) n q ∙ sym m))
      go false q r (inl e) = (inl e, λ m. eqb-false (k.number x) n q (ap k.number (sym e) ∙ m))
      go false q r (inr j) = let t = r j in (inr t.0, t.1)

  in_without_from : (z : X) (n : ℕ) (xs : List X) → In z xs → (k.number z ≡ n → ⊥) → In z (without k.number n xs)
  in_without_from z n [] i m = i
  in_without_from z n (x ∷ xs) i m = go (eqb (k.number x) n) refl (λ j. in_without_from z n xs j m) i
    where
      go : (b : Bool) → eqb (k.number x) n ≡ b → (In z xs → In z (without k.number n xs)) → In z (x ∷ xs) → In z (cond b xs (x ∷ without k.number n xs))
      go true q r (inl e) = absurd (m (ap k.number e ∙ eqb-true (k.number x) n q))
      go true q r (inr j) = j
      go false q r (inl e) = inl e
      go false q r (inr j) = inr (r j)

  pub adds : Adds k
  adds room xs ys e z h =
      let same : ys ≡ put (before k) e xs = h.after ∙ ap (λ r. cond (is_ok r) (put (before k) e xs) xs) (sym h.answer) in
      (λ i. in_put_to z e xs (subst (In z) same i), λ i. subst (In z) (sym same) (in_put_from z e xs i))

  pub takes : Takes k
  takes n r xs ys z d h =
      (λ i. in_without_to z n xs d (subst (In z) h.after i), λ i. subst (In z) (sym h.after) (in_without_from z n xs i.0 i.1))

  heads : (x y : X) (xs ys : List X) → Ordered k (x ∷ xs) → Ordered k (y ∷ ys) → In x (y ∷ ys) → In y (x ∷ xs) → x ≡ y
  heads x y xs ys p q (inl e) j = e
  heads x y xs ys p q (inr i) (inl e) = sym e
  heads x y xs ys p q (inr i) (inr j) = absurd (before_never x y (one_of (λ z. before k x z ≡ true) y xs p.0 j) (one_of (λ z. before k y z ≡ true) x ys q.0 i))

  rests : (x y z : X) (xs ys : List X) → x ≡ y → Ordered k (x ∷ xs) → In z xs → In z (y ∷ ys) → In z ys
  rests x y z xs ys h p i (inl e) =
      let f : before k x x ≡ true = subst (λ a. before k x a ≡ true) (e ∙ sym h) (one_of (λ a. before k x a ≡ true) z xs p.0 i) in
      absurd (before_never x x f f)
  rests x y z xs ys h p i (inr j) = j

  -- two lists in order with the same members are equal
  pub settled : (xs ys : List X) → Ordered k xs → Ordered k ys → Same xs ys → xs ≡ ys
  settled [] [] p q s = refl
  settled [] (y ∷ ys) p q s = absurd ((s y).1 (inl refl))
  settled (x ∷ xs) [] p q s = absurd ((s x).0 (inl refl))
  settled (x ∷ xs) (y ∷ ys) p q s =
      let h = heads x y xs ys p q ((s x).0 (inl refl)) ((s y).1 (inl refl)) in
      ap (λ a. a ∷ xs) h
      ∙ ap (λ l. y ∷ l) (settled xs ys p.1 q.1 (λ z. (λ i. rests x y z xs ys h p i ((s z).0 (inr i)), λ i. rests y x z ys xs (sym h) q i ((s z).1 (inr i)))))

  pub ran_kept : Transitive k → AlwaysKept k
  ran_kept t room xs opened = record { ordered = tt; once = tt; admitted = tt; few = omega arith }
  ran_kept t room ys (did_enter {xs = xs} e r ran h) = subst (Kept k) (sym h.after) (entered_kept t room xs e (ran_kept t room xs ran))
  ran_kept t room ys (did_strike {xs = xs} n r ran h) = subst (Kept k) (sym h.after) (without_kept n xs (ran_kept t room xs ran))

-- entries by number and row alone
abbrev lines : Algebra → Kind (ℕ × Row)
lines a = record { number = λ l. l.0; admitted = λ l. true; not_above = λ l m. a.not_above l.1 m.1 }

module _ {M : Type 0} (a : Algebra) (row : M → Row) (span : M → ℕ) where
  all_lines : (x : Entry M) (xs : List (Entry M)) → AllByRecursion (λ y. before (kind a row span) x y ≡ true) xs → AllByRecursion (λ l. before (lines a) (line row x) l ≡ true) (map (line row) xs)
  all_lines x [] h = tt
  all_lines x (y ∷ ys) h = (h.0, all_lines x ys h.1)

  ordered-lines : (xs : List (Entry M)) → Ordered (kind a row span) xs → Ordered (lines a) (map (line row) xs)
  ordered-lines [] h = tt
  ordered-lines (x ∷ xs) h = (all_lines x xs h.0, ordered-lines xs h.1)

  pub kind-transitive : Laws a → ((v : M) → Own a (row v)) → Transitive (kind a row span)
  kind-transitive w o x y z p q = w.transitive (row x.value) (row y.value) (row z.value) (o x.value) (o y.value) (o z.value) p q

  pub same_order : Laws a → ((v : M) → Own a (row v)) → SameOrder (kind a row span) row
  same_order w o room room' xs ys p q s =
      let t = kind-transitive w o in
      let k = kind a row span in
      settled (lines a) (map (line row) xs) (map (line row) ys) (ordered-lines xs (ran_kept k t room xs p).ordered) (ordered-lines ys (ran_kept k t room' ys q).ordered) s
