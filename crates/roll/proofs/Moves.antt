-- What loops that move the elements of a list by one leave, and one that sets them.
use Rattle.std.proofs.Common.{◌≡◌, ℕ, zero, suc, ◌+◌, ◌-◌, ◌<◌, ◌≤◌, List, [], ◌∷◌, ◌++◌, length, get_or, take, drop, set, replicate, sym, refl, ap, ◌∙◌, add-one, arith}
use Rattle.std.specs.List.{insert, remove}
use Rattle.std.proofs.lemmas.List.{take_more, drop_more, set_at, length-take-le, append_assoc, append-nil, take_at, take_all, drop_all, take-append-drop, take-take, get_or-append_right, get_or-drop, replicate_more, length-replicate}
use Rattle.std.proofs.lemmas.List.Edits.{length-insert, get_or-insert_at, get_or-insert_above, length-remove, get_or-remove_above}

-- one more element of ys over xs
pub over_more : {X : Type 0} (xs ys : List X) (i : ℕ) (y : X) → i < length xs → i < length ys → y ≡ get_or ys i y → set (take i ys ++ drop i xs) i y ≡ take (i + 1) ys ++ drop (i + 1) xs
over_more xs ys i y h l e =
    ap (λ z. set (take i ys ++ z) i y) (drop_more xs i y h)
    ∙ set_at (take i ys) (get_or xs i y) (drop (i + 1) xs) y i (length-take-le i ys (omega arith))
    ∙ sym (append_assoc (take i ys) (y ∷ []) (drop (i + 1) xs))
    ∙ ap (λ z. (take i ys ++ (z ∷ [])) ++ drop (i + 1) xs) e
    ∙ ap (λ z. z ++ drop (i + 1) xs) (sym (take_more ys i y l))

-- past i it is xs still
pub over_read : {X : Type 0} (xs ys : List X) (i j : ℕ) (d : X) → i ≤ length ys → i ≤ j → get_or (take i ys ++ drop i xs) j d ≡ get_or xs j d
over_read xs ys i j d h l =
    get_or-append_right (take i ys) (drop i xs) i j d (length-take-le i ys h) l
    ∙ get_or-drop i xs (j - i) d
    ∙ ap (λ n. get_or xs n d) (omega arith)

pub over_none : {X : Type 0} (xs q : List X) (i : ℕ) → i ≤ length xs → xs ≡ take i (take i xs ++ q) ++ drop i xs
over_none xs q i h = sym (ap (λ z. z ++ drop i xs) (take_at (take i xs) q i (length-take-le i xs h)) ∙ take-append-drop i xs)

pub over_all : {X : Type 0} (xs ys : List X) (i : ℕ) → length xs ≤ i → take i ys ++ drop i xs ≡ take i ys
over_all xs ys i h = ap (λ z. take i ys ++ z) (drop_all i xs h) ∙ append-nil (take i ys)

-- a loop that puts e at p, and carries each on by one
module _ {X : Type 0} (xs : List X) (p : ℕ) (e : X) (within : p ≤ length xs) where
  pub insert_holds : (xs ≡ take p (insert xs p e) ++ drop p xs) × (e ≡ get_or (insert xs p e) p e)
  insert_holds = (over_none xs (e ∷ drop p xs) p within, sym (get_or-insert_at xs p e e within))

  pub insert_again : (ys : List X) (i : ℕ) (carried next : X) → p ≤ i → i < length xs → ys ≡ take i (insert xs p e) ++ drop i xs → carried ≡ get_or (insert xs p e) i carried → next ≡ get_or ys i next → (set ys i carried ≡ take (i + 1) (insert xs p e) ++ drop (i + 1) xs) × (next ≡ get_or (insert xs p e) (i + 1) next)
  insert_again ys i carried next l h so c r =
      let n = length-insert xs p e within in (
        ap (λ z. set z i carried) so ∙ over_more xs (insert xs p e) i carried h (omega arith) c,
        r ∙ ap (λ z. get_or z i next) so ∙ over_read xs (insert xs p e) i i next (omega arith) (omega arith) ∙ sym (get_or-insert_above xs p e next i l within),
      )

  pub insert_ends : (ys : List X) (i : ℕ) → length xs ≤ i → i ≤ length xs → ys ≡ take i (insert xs p e) ++ drop i xs → ys ≡ take (length xs) (insert xs p e)
  insert_ends ys i l h so = let q : i ≡ length xs = omega arith in so ∙ over_all xs (insert xs p e) i l ∙ ap (λ n. take n (insert xs p e)) q

-- a loop that moves each past p back by one
module _ {X : Type 0} (xs : List X) (p : ℕ) (within : p < length xs) where
  pub gap_holds : xs ≡ take p (remove xs p) ++ drop p xs
  gap_holds = over_none xs (drop (suc p) xs) p (omega arith)

  pub gap_again : (ys : List X) (i : ℕ) (next : X) → p ≤ i → i < length xs - 1 → ys ≡ take i (remove xs p) ++ drop i xs → next ≡ get_or ys (i + 1) next → set ys i next ≡ take (i + 1) (remove xs p) ++ drop (i + 1) xs
  gap_again ys i next l h so r =
      let n = length-remove xs p within in
      ap (λ z. set z i next) so ∙ over_more xs (remove xs p) i next (omega arith) (omega arith)
      (r ∙ ap (λ z. get_or z (i + 1) next) so ∙ over_read xs (remove xs p) i (i + 1) next (omega arith) (omega arith) ∙ sym (get_or-remove_above xs p next i l within))

  pub gap_ends : (ys : List X) (i : ℕ) → length xs - 1 ≤ i → i ≤ length xs - 1 → ys ≡ take i (remove xs p) ++ drop i xs → take (length xs - 1) ys ≡ remove xs p
  gap_ends ys i l h so =
      let n = length-remove xs p within in
      let q : i ≡ length xs - 1 = omega arith in
      let t = take_all i (remove xs p) (omega arith) in
      ap (take (length xs - 1)) (so ∙ ap (λ z. z ++ drop i xs) t) ∙ take_at (remove xs p) (drop i xs) (length xs - 1) (omega arith)

-- a loop that sets each cell to z
pub filled_more : {X : Type 0} (z : X) (xs now : List X) (i : ℕ) → i < length xs → now ≡ replicate i z ++ drop i xs → set now i z ≡ replicate (i + 1) z ++ drop (i + 1) xs
filled_more z xs now i h so =
    ap (λ l. set l i z) (so ∙ ap (λ r. replicate i z ++ r) (drop_more xs i z h))
    ∙ set_at (replicate i z) (get_or xs i z) (drop (i + 1) xs) z i (length-replicate i z)
    ∙ sym (append_assoc (replicate i z) (z ∷ []) (drop (i + 1) xs))
    ∙ ap (λ l. l ++ drop (i + 1) xs) (replicate_more i z)

-- with one cell more than stand
front : {X : Type 0} (n p : ℕ) (xs : List X) (e : X) → p ≤ n → take (suc n) (insert (take (suc n) xs) p e) ≡ insert (take n xs) p e
front n zero xs e l = ap (λ z. e ∷ z) (take-take n (suc n) xs (omega arith))
front zero (suc p) xs e l = absurd (omega arith)
front (suc n) (suc p) [] e l = refl
front (suc n) (suc p) (x ∷ xs) e l = ap (λ z. x ∷ z) (front n p xs e (omega arith))

pub inserted_front : {X : Type 0} (xs : List X) (n p : ℕ) (e : X) → p ≤ n → take (n + 1) (insert (take (n + 1) xs) p e) ≡ insert (take n xs) p e
inserted_front xs n p e l = rw add-one (front n p xs e l)
