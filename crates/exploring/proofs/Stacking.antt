-- The items of spaces on the way down: one more, the top one, and its next child.
use Rattle.std.proofs.Common.{◌≡◌, ℕ, zero, suc, ◌+◌, ◌-◌, ◌<◌, ◌≤◌, Bool, false, cond, List, [], ◌∷◌, ◌++◌, length, get_or, take, drop, set, sym, refl, ap, ◌∙◌, subst, append_assoc, append-nil, arith}
use Rattle.std.specs.List.{range_with_len, refill}
use Rattle.std.proofs.lemmas.List.{take_all, take_at, take_more, take_more_set, length-set, length-take, length-take-le, get_or-take}
use Rattle.sets.specs.Spaces.{Space, at, child}
use Rattle.sets.specs.Trace.{Trace, concat_map, children}
use Rattle.exploring.specs.Waiting.{stacked}

pub stacked_push : {A : Type 0} (f : ℕ → A → Trace) (d : ℕ) (ls : List A) (l : A) → stacked f d (ls ++ l ∷ []) ≡ f (d - length ls) l ++ stacked f d ls
stacked_push f d [] l =
    let z : d - 0 ≡ d = omega arith in
    ap (λ k. f k l) (sym z) ∙ sym (append-nil (f (d - 0) l))
stacked_push f d (x ∷ ls) l =
    let e : d - 1 - length ls ≡ d - length (x ∷ ls) = omega arith in
    ap (λ t. t ++ f d x) (stacked_push f (d - 1) ls l)
    ∙ append_assoc (f (d - 1 - length ls) l) (stacked f (d - 1) ls) (f d x)
    ∙ ap (λ k. f k l ++ (stacked f (d - 1) ls ++ f d x)) e

-- a level written through the slice of all of them
pub rewritten : {A : Type 0} (levels ws : List A) (i j : ℕ) (l : A) → ws ≡ levels → i ≡ j → refill (length levels) levels (set ws i l) ≡ set levels j l
rewritten levels ws i j l same here =
    ap (λ q. refill (length levels) levels (set q i l)) same
    ∙ ap (λ q. refill (length levels) levels (set levels q l)) here
    ∙ take_at (set levels j l) (drop (length (set levels j l)) levels) (length levels) (length-set levels j l)

pub rewritten_length : {A : Type 0} (levels ws : List A) (i : ℕ) (l : A) → ws ≡ levels → length (refill (length levels) levels (set ws i l)) ≡ length levels
rewritten_length levels ws i l same = ap length (rewritten levels ws i i l same refl) ∙ length-set levels i l

-- the levels with another one on top
module _ {A : Type 0} (f : ℕ → A → Trace) (m : ℕ) (levels : List A) (some : 0 < length levels) where
  abbrev below : List A
  below = take (length levels - 1) levels

  on_top : (l : A) → stacked f m (below ++ l ∷ []) ≡ f (m - (length levels - 1)) l ++ stacked f m below
  on_top l = stacked_push f m below l ∙ ap (λ k. f (m - k) l ++ stacked f m below) (length-take-le (length levels - 1) levels (omega arith))

  pub top_is : (x : A) → stacked f m levels ≡ f (m - (length levels - 1)) (get_or levels (length levels - 1) x) ++ stacked f m below
  top_is x =
      let whole : length levels ≤ length levels - 1 + 1 = omega arith in
      ap (stacked f m) (sym (take_all (length levels - 1 + 1) levels whole) ∙ take_more levels (length levels - 1) x (omega arith)) ∙ on_top (get_or levels (length levels - 1) x)

  pub top_set : (l : A) → stacked f m (set levels (length levels - 1) l) ≡ f (m - (length levels - 1)) l ++ stacked f m below
  top_set l =
      let whole : length (set levels (length levels - 1) l) ≤ length levels - 1 + 1 = omega (arith, length-set levels (length levels - 1) l) in
      ap (stacked f m) (sym (take_all (length levels - 1 + 1) (set levels (length levels - 1) l) whole) ∙ take_more_set levels (length levels - 1) l (omega arith)) ∙ on_top l

module _ (e : ℕ → Space → Trace) (d : ℕ) (t : Space) (i : ℕ) where
  from_many : (v k : ℕ) → concat_map (λ w. e d (child t i w)) (range_with_len v (suc k)) ≡ e d (child t i v) ++ concat_map (λ w. e d (child t i w)) (range_with_len (v + 1) k)
  from_many v k = refl

  pub children_next : (v : ℕ) → v ≤ at t.hi i → children (e d) t i v ≡ e d (child t i v) ++ children (e d) t i (v + 1)
  children_next v h =
      let many : at t.hi i + 1 - v ≡ suc (at t.hi i + 1 - (v + 1)) = omega arith in
      ap (λ k. concat_map (λ w. e d (child t i w)) (range_with_len v k)) many ∙ from_many v (at t.hi i + 1 - (v + 1))

  pub children_none : (v : ℕ) → at t.hi i < v → children (e d) t i v ≡ []
  children_none v h =
      let none : at t.hi i + 1 - v ≡ 0 = omega arith in
      ap (λ k. concat_map (λ w. e d (child t i w)) (range_with_len v k)) none

-- the same, with the root before them
module _ {A : Type 0} (first : Trace) (f : ℕ → A → Trace) (m : ℕ) (levels : List A) where
  pub pushed_items : (l : A) (fresh : Bool) → fresh ≡ false → cond fresh first [] ++ stacked f m (levels ++ l ∷ []) ≡ f (m - length levels) l ++ (cond fresh first [] ++ stacked f m levels)
  pushed_items l fresh old =
      let none : cond fresh first [] ≡ [] = ap (λ b. cond b first []) old in
      ap (λ x. x ++ stacked f m (levels ++ l ∷ [])) none
      ∙ stacked_push f m levels l
      ∙ ap (λ x. f (m - length levels) l ++ (x ++ stacked f m levels)) (sym none)

  taken_top : (x l : A) (fresh : Bool) (next : Trace) → fresh ≡ false → 0 < length levels → f (m - (length levels - 1)) (get_or levels (length levels - 1) x) ≡ next ++ f (m - (length levels - 1)) l → cond fresh first [] ++ stacked f m levels ≡ next ++ (cond fresh first [] ++ stacked f m (set levels (length levels - 1) l))
  taken_top x l fresh next old h e =
      let none : cond fresh first [] ≡ [] = ap (λ b. cond b first []) old in
      let rest = stacked f m (take (length levels - 1) levels) in
      ap (λ y. y ++ stacked f m levels) none
      ∙ top_is f m levels h x
      ∙ ap (λ y. y ++ rest) e
      ∙ append_assoc next (f (m - (length levels - 1)) l) rest
      ∙ ap (λ y. next ++ y) (sym (top_set f m levels h l))
      ∙ ap (λ y. next ++ (y ++ stacked f m (set levels (length levels - 1) l))) (sym none)

  pub taken_items : (ws : List A) (i : ℕ) → ws ≡ levels → i ≡ length levels - 1 → (x l : A) (fresh : Bool) (next : ℕ → Trace) → fresh ≡ false → 0 < length levels → f (m - (length levels - 1)) (get_or levels (length levels - 1) x) ≡ next (length levels) ++ f (m - (length levels - 1)) l → cond fresh first [] ++ stacked f m levels ≡ next (length (refill (length levels) levels (set ws i l))) ++ (cond fresh first [] ++ stacked f m (refill (length levels) levels (set ws i l)))
  taken_items ws i same here x l fresh next old h e =
      let is = rewritten levels ws i (length levels - 1) l same here in
      taken_top x l fresh (next (length levels)) old h e
      ∙ ap (λ ls. next (length levels) ++ (cond fresh first [] ++ stacked f m ls)) (sym is)
      ∙ ap (λ k. next k ++ (cond fresh first [] ++ stacked f m (refill (length levels) levels (set ws i l)))) (sym (rewritten_length levels ws i l same))

  pub popped_items : (x : A) (fresh : Bool) → 0 < length levels → f (m - (length levels - 1)) (get_or levels (length levels - 1) x) ≡ [] → cond fresh first [] ++ stacked f m (take (length levels - 1) levels) ≡ cond fresh first [] ++ stacked f m levels
  popped_items x fresh h e =
      ap (λ y. cond fresh first [] ++ y) (sym (top_is f m levels h x ∙ ap (λ y. y ++ stacked f m (take (length levels - 1) levels)) e))

-- what holds of each level holds with one more, or without the last ones
pub each_pushed : {A : Type 0} (P : ℕ → A → Type 0) (ls : List A) (l x : A) → ((d : ℕ) → d < length ls → P d (get_or ls d x)) → P (length ls) l → (d : ℕ) → d < length (ls ++ l ∷ []) → P d (get_or (ls ++ l ∷ []) d x)
each_pushed P [] l x each here zero h = here
each_pushed P [] l x each here (suc d) h = absurd (omega arith)
each_pushed P (y ∷ ls) l x each here zero h = each 0 (omega arith)
each_pushed P (y ∷ ls) l x each here (suc d) h = each_pushed (λ k. P (suc k)) ls l x (λ k b. each (suc k) (omega arith)) here d (omega arith)

pub each_taken : {A : Type 0} (P : ℕ → A → Type 0) (ls : List A) (n : ℕ) (x : A) → ((d : ℕ) → d < length ls → P d (get_or ls d x)) → (d : ℕ) → d < length (take n ls) → P d (get_or (take n ls) d x)
each_taken P ls n x each d h =
    let less : d < n × d < length ls = (omega (arith, length-take n ls), omega (arith, length-take n ls)) in
    subst (P d) (sym (get_or-take n ls d x less.0)) (each d less.1)

pub at_front : (m : ℕ) (hi : List ℕ) (i : ℕ) → i < m → at (take m hi) (i + 1) ≡ get_or hi i 0
at_front m hi i h =
    let next : i + 1 - 1 ≡ i = omega arith in
    ap (λ q. get_or (take m hi) q 0) next ∙ get_or-take m hi i 0 h
