-- What one examination tells of the items to come.
use Rattle.std.proofs.Common.{◌≡◌, ℕ, suc, ◌+◌, ◌-◌, ◌<◌, ◌≤◌, List, [], ◌∷◌, ◌++◌, length, get_or, take, Some, None, sym, ap, ◌∙◌, subst, arith, length-take}
use Rattle.std.proofs.lemmas.List.{get_or-take, length-take-le}
use Rattle.measure.specs.Algebra.{Algebra, Row}
use Rattle.sets.specs.Spaces.{Space, at, open_at}
use Rattle.sets.specs.Trace.{Item, Trace, children}
use Rattle.squeezing.specs.declared.frame.Frame.{Frame}
use Rattle.exploring.specs.declared.frontier.Frontier.{Frontier}
use Rattle.squeezing.specs.Table.{entries, offset, Holds}
use Rattle.squeezing.specs.Frames.{space_of, squeeze_of, Suits}
use Rattle.exploring.specs.Settled.{SettledBelow, OpensAt}
use Rattle.exploring.specs.Waiting.{depth_of, explore_of, items_of, to_come}
use Rattle.exploring.proofs.Explored.{open_none, open_some, explore_none, explore-set, explore_open}
use Rattle.exploring.proofs.Stacking.{at_front}

-- what suits the first space suits every one of as many places
pub suited : {M : Type 0} (a : Algebra) (row : M → Row) (span : M → ℕ) (table : List M) (room : ℕ) (root r : Frame) → r.n ≡ root.n → r.m ≡ root.m → offset root.n root.m ≤ length table → 120 < room → Holds a row span root.n root.m table → Suits a row span table room r
suited a row span table room root r n m long more held = record {
  long = subst (λ k. offset k r.m ≤ length table) (sym n) (subst (λ k. offset root.n k ≤ length table) (sym m) long);
  roomy = omega (arith, r.small);
  holds = subst (λ k. Holds a row span k r.m table) (sym n) (subst (λ k. Holds a row span root.n k table) (sym m) held);
}

module _ {M : Type 0} (a : Algebra) (row : M → Row) (table : List M) (low high : Row) (r : Frame) (n : ℕ) (same : r.n ≡ n) (d : ℕ) where
  renamed : (l : Trace) → explore_of a row r.n table low high (suc d) (space_of r) ≡ l → explore_of a row n table low high (suc d) (space_of r) ≡ l
  renamed l e = ap (λ k. explore_of a row k table low high (suc d) (space_of r)) (sym same) ∙ e

  -- nothing is left
  pub step_none : squeeze_of a row table low high r ≡ None → explore_of a row n table low high (suc d) (space_of r) ≡ None ∷ []
  step_none e = renamed (None ∷ []) (explore_none a (entries row r.n table) low high d (space_of r) e)

  -- one set is left
  pub step_set : (t : Frame) → squeeze_of a row table low high r ≡ Some (space_of t) → ((j : ℕ) → j < t.m → get_or t.lo j 0 ≡ get_or t.hi j 0) → explore_of a row n table low high (suc d) (space_of r) ≡ Some (take t.m t.lo) ∷ []
  step_set t e settled =
      let all : (j : ℕ) → j < length (take t.m t.lo) → get_or (take t.m t.lo) j 0 ≡ get_or (take t.m t.hi) j 0 =
      λ j h. let k : j < t.m = omega (arith, length-take t.m t.lo) in get_or-take t.m t.lo j 0 k ∙ settled j k ∙ sym (get_or-take t.m t.hi j 0 k) in
      renamed (Some (take t.m t.lo) ∷ []) (explore-set a (entries row r.n table) low high d (space_of r) (space_of t) e (open_none 1 (take t.m t.lo) (take t.m t.hi) all))

  -- a space with an open position is left
  pub step_open : (t : Frame) (i : ℕ) → length t.lo ≡ 120 → length t.hi ≡ 120 → squeeze_of a row table low high r ≡ Some (space_of t) → i < t.m → get_or t.lo i 0 < get_or t.hi i 0 → ((j : ℕ) → j < i → get_or t.lo j 0 ≡ get_or t.hi j 0) → explore_of a row n table low high (suc d) (space_of r) ≡ None ∷ children (explore_of a row n table low high d) (space_of t) (i + 1) (get_or t.lo i 0)
  step_open t i lows highs e within less settled =
      let E = explore_of a row r.n table low high in
      let lo = take t.m t.lo in
      let hi = take t.m t.hi in
      let opens : open_at 1 lo hi ≡ Some (1 + i) =
      open_some 1 i lo hi (omega (arith, length-take-le t.m t.lo (omega (arith, t.small)))) (omega (arith, length-take-le t.m t.hi (omega (arith, t.small))))
      (omega (arith, get_or-take t.m t.lo i 0 within, get_or-take t.m t.hi i 0 within))
      (λ j h. get_or-take t.m t.lo j 0 (omega arith) ∙ settled j h ∙ sym (get_or-take t.m t.hi j 0 (omega arith))) in
      let next : 1 + i ≡ i + 1 = omega arith in
      let first : explore_of a row n table low high (suc d) (space_of r) ≡ None ∷ children (E d) (space_of t) (1 + i) (at lo (1 + i)) =
      renamed _ (explore_open a (entries row r.n table) low high d (space_of r) (space_of t) (1 + i) e opens) in
      first
      ∙ ap (λ k. None ∷ children (E d) (space_of t) k (at lo k)) next
      ∙ ap (λ v. None ∷ children (E d) (space_of t) (i + 1) v) (at_front t.m t.lo i within)
      ∙ ap (λ k. None ∷ children (explore_of a row k table low high d) (space_of t) (i + 1) (get_or t.lo i 0)) same

module _ {M : Type 0} (a : Algebra) (row : M → Row) (table : List M) (low high : Row) where
  -- the same items, with the root by another name
  root_same : (f f' : Frontier) → f'.root ≡ f.root → to_come (explore_of a row f.root.n table low high) f' ≡ items_of a row table low high f'
  root_same f f' e = ap (λ q. to_come (explore_of a row q.n table low high) f') (sym e)

  -- asking whether a space waits changes nothing of what is to come
  pub waited : (f f' : Frontier) → f'.root ≡ f.root → ((e : ℕ → Space → Trace) → to_come e f' ≡ to_come e f) → items_of a row table low high f ≡ items_of a row table low high f'
  waited f f' root items = sym (items (explore_of a row f.root.n table low high)) ∙ root_same f f' root

-- what is to come once the next space, r, is taken and examined
module _ {M : Type 0} (a : Algebra) (row : M → Row) (table : List M) (low high : Row) (f f1 : Frontier) (r : Frame) (root : f1.root ≡ f.root) (same : r.n ≡ f.root.n) (taken : (e : ℕ → Space → Trace) → to_come e f ≡ e (f.root.m + 1 - depth_of f1) (space_of r) ++ to_come e f1) where
  abbrev items_from : ℕ → Space → Trace
  items_from = explore_of a row f.root.n table low high

  abbrev left_depth : ℕ
  left_depth = f.root.m - depth_of f1

  first_item : (x : Item) (more : Trace) → items_from (suc left_depth) (space_of r) ≡ x ∷ more → items_of a row table low high f ≡ x ∷ (more ++ to_come items_from f1)
  first_item x more first =
      let fuel : f.root.m + 1 - depth_of f1 ≡ suc left_depth = omega (arith, f1.deep, ap (λ (q : Frame). q.m) root) in
      taken items_from ∙ ap (λ k. items_from k (space_of r) ++ to_come items_from f1) fuel ∙ ap (λ l. l ++ to_come items_from f1) first

  pub left_none : squeeze_of a row table low high r ≡ None → items_of a row table low high f ≡ None ∷ items_of a row table low high f1
  left_none e = first_item None [] (step_none a row table low high r f.root.n same left_depth e) ∙ ap (λ l. None ∷ l) (root_same a row table low high f f1 root)

  pub left-set : (t : Frame) → squeeze_of a row table low high r ≡ Some (space_of t) → SettledBelow t t.m → items_of a row table low high f ≡ Some (take t.m t.lo) ∷ items_of a row table low high f1
  left-set t e settled = first_item (Some (take t.m t.lo)) [] (step_set a row table low high r f.root.n same left_depth t e settled) ∙ ap (λ l. Some (take t.m t.lo) ∷ l) (root_same a row table low high f f1 root)

  pub left_open : (t : Frame) (i : ℕ) → length t.lo ≡ 120 → length t.hi ≡ 120 → squeeze_of a row table low high r ≡ Some (space_of t) → OpensAt t i → (f2 : Frontier) → f2.root ≡ f1.root → ((e : ℕ → Space → Trace) → to_come e f2 ≡ children (e (f1.root.m - depth_of f1)) (space_of t) (i + 1) (get_or t.lo i 0) ++ to_come e f1) → items_of a row table low high f ≡ None ∷ items_of a row table low high f2
  left_open t i lows highs e opens f2 again pushed =
      let below = children (items_from left_depth) (space_of t) (i + 1) (get_or t.lo i 0) in
      let after : to_come items_from f2 ≡ below ++ to_come items_from f1 = pushed items_from ∙ ap (λ (q : Frame). children (items_from (q.m - depth_of f1)) (space_of t) (i + 1) (get_or t.lo i 0) ++ to_come items_from f1) root in
      first_item None below (step_open a row table low high r f.root.n same left_depth t i lows highs e opens.0 opens.1 opens.2)
      ∙ ap (λ l. None ∷ l) (sym after)
      ∙ ap (λ l. None ∷ l) (root_same a row table low high f f2 (again ∙ root))

-- a table that holds its totals holds them for a root by another name
pub held_of : {M : Type 0} (a : Algebra) (row : M → Row) (span : M → ℕ) (table table' : List M) (r r' : Frame) → table' ≡ table → r' ≡ r → Holds a row span r.n r.m table → Holds a row span r'.n r'.m table'
held_of a row span table table' r r' t e held =
    subst (λ (q : Frame). Holds a row span q.n q.m table') (sym e) (subst (λ q. Holds a row span r.n r.m q) (sym t) held)
