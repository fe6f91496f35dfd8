-- Two lists that agree in front of a place or from a place on.
use Rattle.std.proofs.Common.{◌≡◌, ℕ, ◌+◌, ◌-◌, ◌≤◌, List, take, drop, sym, ap, ◌∙◌, arith}
use Rattle.std.proofs.lemmas.List.{take-take, drop-drop}

-- lists that agree in a longer front agree in a shorter one
pub front_kept : {X : Type 0} (n r : ℕ) (xs ys : List X) → n ≤ r → take r xs ≡ take r ys → take n xs ≡ take n ys
front_kept n r xs ys h e = sym (take-take n r xs h) ∙ ap (take n) e ∙ take-take n r ys h

-- lists that agree from a place on agree from a later one on
pub back_kept : {X : Type 0} (n r : ℕ) (xs ys : List X) → n ≤ r → drop n xs ≡ drop n ys → drop r xs ≡ drop r ys
back_kept n r xs ys h e =
    let sum : n + (r - n) ≡ r = omega arith in
    ap (λ k. drop k xs) (sym sum) ∙ sym (drop-drop (r - n) n xs) ∙ ap (drop (r - n)) e ∙ drop-drop (r - n) n ys ∙ ap (λ k. drop k ys) sum
