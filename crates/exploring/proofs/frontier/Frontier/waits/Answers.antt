use Rattle.std.proofs.Common.{◌≡◌, ◌+◌, ◌-◌, ◌<◌, cond, [], ◌++◌, length, get_or, sym, ap, ◌∙◌, arith, ℕ, List, ◌≤◌, subst}
use Rattle.sets.specs.Spaces.{at}
use Rattle.squeezing.specs.Frames.{space_of}
use Rattle.exploring.specs.declared.level.Level.{Level}
use Rattle.exploring.specs.Waiting.{level_items, stacked}
use Rattle.exploring.proofs.Stacking.{popped_items, each_taken, children_none, at_front}
use Rattle.exploring.proofs.frontier.Frontier.waits.Goals as goal

pub popping-preserved : goal.popping-preserved
popping-preserved c =
    let f = c.popping.self in
    let d = length f.levels.items in
    let l = c.in-Some.level.now in
    let item = c.in-Some.ensures.item in
    let all = c.deref.ensures.0 in
    let is : get_or f.levels.items (d - 1) l ≡ l = ap (λ ls. get_or ls (length ls - 1) l) (sym all) ∙ sym item.1 in
    let some : 0 < d = omega (arith, item.3.0, ap length all) in
    let t = space_of l.frame in
    let past : at t.hi (l.at + 1) < l.next = omega (arith, c.if-level.false, at_front l.frame.m l.frame.hi l.at l.within) in (
      c.popping.invariant.0,
      c.popping.invariant.1,
      λ e.
          let k = f.root.m - (d - 1) in
          ap (λ ls. cond f.fresh (e (f.root.m + 1) (space_of f.root)) [] ++ stacked (level_items e) f.root.m ls) c.pop.ensures.rest
          ∙ popped_items _ (level_items e) f.root.m f.levels.items l f.fresh some (ap (level_items e k) is ∙ children_none e k t (l.at + 1) l.next past)
          ∙ c.popping.invariant.2 e,
    )

pub invariant_of-self-clause-climbs : goal.invariant_of-self-clause-climbs
invariant_of-self-clause-climbs c = λ x.
    let f = c.popping.self in
    subst (λ (ls : List Level). (d : ℕ) → d < length ls → d ≤ (get_or ls d x).at) (sym c.pop.ensures.rest) (each_taken (λ d (l : Level). d ≤ l.at) f.levels.items _ x (f.climbs x))

pub invariant_of-self-clause-sizes : goal.invariant_of-self-clause-sizes
invariant_of-self-clause-sizes c = λ x.
    let f = c.popping.self in
    subst (λ (ls : List Level). (d : ℕ) → d < length ls → (get_or ls d x).frame.m ≡ f.root.m) (sym c.pop.ensures.rest) (each_taken (λ _ (l : Level). l.frame.m ≡ f.root.m) f.levels.items _ x (f.sizes x))

pub invariant_of-self-clause-counts : goal.invariant_of-self-clause-counts
invariant_of-self-clause-counts c = λ x.
    let f = c.popping.self in
    subst (λ (ls : List Level). (d : ℕ) → d < length ls → (get_or ls d x).frame.n ≡ f.root.n) (sym c.pop.ensures.rest) (each_taken (λ _ (l : Level). l.frame.n ≡ f.root.n) f.levels.items _ x (f.counts x))
