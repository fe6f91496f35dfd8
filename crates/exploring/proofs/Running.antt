-- A run over the items to come, one step at a time.
use Rattle.std.proofs.Common.{◌≡◌, ℕ, zero, suc, ◌+◌, ◌-◌, ◌<◌, ◌≤◌, Bool, true, false, cond, List, [], ◌∷◌, ◌++◌, length, get_or, take, drop, Some, None, Option, sym, refl, ap, ◌∙◌, subst, arith}
use Rattle.exploring.specs.declared.level.Level.{Level}
use Rattle.exploring.specs.declared.frontier.Frontier.{Frontier}
use Rattle.measure.specs.Algebra.{Algebra, Row}
use Rattle.sets.specs.Spaces.{Space, at, child, open_at, squeeze, widths}
use Rattle.sets.specs.Trace.{Item, Trace, children, explore}
use Rattle.sets.specs.Advance.{set, spent, finished, run}
use Rattle.exploring.specs.declared.state.Told.TheVariants.{Set, Spent, Finished}
use Rattle.exploring.specs.Meaning.{Ran}
use Rattle.squeezing.specs.Frames.{space_of}
use Rattle.exploring.specs.Waiting.{stacked, level_items, depth_of, to_come, Ready}
use Rattle.exploring.proofs.Explored.{opened, examined}
use Rattle.exploring.proofs.Stacking.{top_is, children_next, at_front}

pub run_none : (all xs : Trace) (left left' steps : ℕ) → all ≡ None ∷ xs → left ≡ left' + 1 → run all left steps ≡ run xs left' (steps + 1)
run_none all xs zero left' steps e h = absurd (omega arith)
run_none all xs (suc left) left' steps e h =
    let same : left ≡ left' = omega arith in
    ap (λ l. run l (suc left) steps) e ∙ ap (λ k. run xs k (steps + 1)) same

pub run-set : (all xs : Trace) (ps : List ℕ) (left steps : ℕ) → all ≡ Some ps ∷ xs → 0 < left → run all left steps ≡ record { end = set ps; steps = steps + 1; rest = xs }
run-set all xs ps zero steps e h = absurd (omega arith)
run-set all xs ps (suc left) steps e h = ap (λ l. run l (suc left) steps) e

-- some item is to come
abbrev pub More : Trace → Type 0
More l = (x : Item) × (xs : Trace) × (l ≡ x ∷ xs)

spent_at : (x : Item) (xs : Trace) (steps : ℕ) → run (x ∷ xs) 0 steps ≡ record { end = spent; steps = steps; rest = x ∷ xs }
spent_at None xs steps = refl
spent_at (Some ps) xs steps = refl

pub run_spent : (all : Trace) (left steps : ℕ) → More all → left ≡ 0 → run all left steps ≡ record { end = spent; steps = steps; rest = all }
run_spent all left steps more none =
    let x = more.0 in
    let xs = more.1 in
    let e = more.2 in
    ap (λ k. run all k steps) none ∙ ap (λ l. run l 0 steps) e ∙ spent_at x xs steps ∙ ap (λ l. record { end = spent; steps = steps; rest = l }) (sym e)

more_append : (l r : Trace) → More l → More (l ++ r)
more_append l r more = (more.0, more.1 ++ r, ap (λ q. q ++ r) more.2)

module _ (a : Algebra) (xs : List Row) (low high : Row) where
  opened_more : (d : ℕ) (t : Space) (o : Option ℕ) → More (opened a xs low high d t o)
  opened_more d t None = (Some t.lo, [], refl)
  opened_more d t (Some i) = (None, _, refl)

  examined_more : (d : ℕ) (o : Option Space) → More (examined a xs low high d o)
  examined_more d None = (None, [], refl)
  examined_more d (Some t) = opened_more d t (open_at 1 t.lo t.hi)

  explore_more : (d k : ℕ) (s : Space) → k ≡ suc d → More (explore a xs low high k s)
  explore_more d k s e = subst (λ q. More (explore a xs low high q s)) (sym e) (examined_more d (squeeze a xs low high (widths s.lo s.hi) s))

  first_level : (ls : List Level) → 0 < length ls → Level
  first_level [] h = absurd (omega arith)
  first_level (l ∷ ls) h = l

  ready_go : (f : Frontier) (fresh : Bool) → f.fresh ≡ fresh → Ready f → More (to_come (explore a xs low high) f)
  ready_go f true e ready =
      let E = explore a xs low high in
      let whole = more_append (E (f.root.m + 1) (space_of f.root)) (stacked (level_items E) f.root.m f.levels.items) (explore_more f.root.m (f.root.m + 1) (space_of f.root) (omega arith)) in
      subst (λ b. More (cond b (E (f.root.m + 1) (space_of f.root)) [] ++ stacked (level_items E) f.root.m f.levels.items)) (sym e) whole
  ready_go f false e ready =
      let E = explore a xs low high in
      let some = ready e in
      let x = first_level f.levels.items some.0 in
      let l = get_or f.levels.items (depth_of f - 1) x in
      let t = space_of l.frame in
      let k = f.root.m - (depth_of f - 1) in
      let within : l.next ≤ at t.hi (l.at + 1) = omega (arith, some.1 x, at_front l.frame.m l.frame.hi l.at l.within) in
      let top : stacked (level_items E) f.root.m f.levels.items ≡ children (E k) t (l.at + 1) l.next ++ stacked (level_items E) f.root.m (take (depth_of f - 1) f.levels.items) =
      top_is (level_items E) f.root.m f.levels.items some.0 x in
      let head = children_next E k t (l.at + 1) l.next within in
      let one = more_append (E k (child t (l.at + 1) l.next)) (children (E k) t (l.at + 1) (l.next + 1)) (explore_more (f.root.m - depth_of f) k (child t (l.at + 1) l.next) (omega (arith, some.0, f.deep))) in
      let whole = more_append (children (E k) t (l.at + 1) l.next) (stacked (level_items E) f.root.m (take (depth_of f - 1) f.levels.items)) (subst (λ q. More q) (sym head) one) in
      let all = subst (λ q. More q) (sym top) whole in
      subst (λ b. More (cond b (E (f.root.m + 1) (space_of f.root)) [] ++ stacked (level_items E) f.root.m f.levels.items)) (sym e) all

  pub ready_more : (f : Frontier) → Ready f → More (to_come (explore a xs low high) f)
  ready_more f ready = ready_go f f.fresh refl ready

-- what an advance tells, by how it ended: with no item left
pub ran_finished : (all items : Trace) (allowance left steps : ℕ) (page page' : List ℕ) → run all allowance 0 ≡ run items left steps → items ≡ [] → page' ≡ page → Ran (run all allowance 0) (record { told = Finished; steps = steps }) page page' items
ran_finished all items allowance left steps page page' e none same =
    let whole : run all allowance 0 ≡ record { end = finished; steps = steps; rest = [] } = e ∙ ap (λ l. run l left steps) none in
    subst (λ w. Ran w (record { told = Finished; steps = steps }) page page' items) (sym whole) (record { told = refl; steps = refl; page_is = same; rest = none })

-- with an item left, and nothing of the allowance
pub ran_spent : (all items : Trace) (allowance left steps : ℕ) (page page' : List ℕ) → run all allowance 0 ≡ run items left steps → More items → left ≡ 0 → page' ≡ page → Ran (run all allowance 0) (record { told = Spent; steps = steps }) page page' items
ran_spent all items allowance left steps page page' e more none same =
    subst (λ w. Ran w (record { told = Spent; steps = steps }) page page' items) (sym (e ∙ run_spent items left steps more none)) (record { told = refl; steps = refl; page_is = same; rest = refl })

-- with a set
pub ran-set : (all items rest left' : Trace) (ps : List ℕ) (allowance left steps : ℕ) (page page' : List ℕ) → run all allowance 0 ≡ run items left steps → items ≡ Some ps ∷ rest → 0 < left → page' ≡ ps ++ drop (length ps) page → left' ≡ rest → Ran (run all allowance 0) (record { told = Set; steps = steps + 1 }) page page' left'
ran-set all items rest left' ps allowance left steps page page' e first more wrote same =
    subst (λ w. Ran w (record { told = Set; steps = steps + 1 }) page page' left') (sym (e ∙ run-set items rest ps left steps first more)) (record { told = refl; steps = refl; page_is = wrote; rest = same })
