use Rattle.std.proofs.Common.{◌≡◌, ℕ, List, ◌+◌, ◌<◌, ◌≤◌, cond, [], ◌++◌, length, get_or, sym, ap, ◌∙◌, subst}
use Rattle.exploring.specs.declared.level.Level.{Level}
use Rattle.exploring.specs.Waiting.{level_items, stacked}
use Rattle.squeezing.specs.Frames.{space_of}
use Rattle.exploring.proofs.Stacking.{pushed_items, each_pushed}
use Rattle.exploring.proofs.frontier.Frontier.push.Goals as goal

pub returns-clause-items : goal.returns-clause-items
returns-clause-items c =
    let f = c.args.self.now in
    λ e. ap (λ ls. cond f.fresh (e (f.root.m + 1) (space_of f.root)) [] ++ stacked (level_items e) f.root.m ls) c.push.ensures.items ∙ pushed_items _ (level_items e) f.root.m f.levels.items _ f.fresh c.requires.old

pub invariant_of-self-clause-climbs : goal.invariant_of-self-clause-climbs
invariant_of-self-clause-climbs c = λ x.
    let f = c.args.self.now in
    subst (λ (ls : List Level). (d : ℕ) → d < length ls → d ≤ (get_or ls d x).at) (sym c.push.ensures.items) (each_pushed (λ d (l : Level). d ≤ l.at) f.levels.items _ x (f.climbs x) c.requires.open.0)

pub invariant_of-self-clause-sizes : goal.invariant_of-self-clause-sizes
invariant_of-self-clause-sizes c = λ x.
    let f = c.args.self.now in
    subst (λ (ls : List Level). (d : ℕ) → d < length ls → (get_or ls d x).frame.m ≡ f.root.m) (sym c.push.ensures.items) (each_pushed (λ _ (l : Level). l.frame.m ≡ f.root.m) f.levels.items _ x (f.sizes x) c.requires.same.0)

pub invariant_of-self-clause-counts : goal.invariant_of-self-clause-counts
invariant_of-self-clause-counts c = λ x.
    let f = c.args.self.now in
    subst (λ (ls : List Level). (d : ℕ) → d < length ls → (get_or ls d x).frame.n ≡ f.root.n) (sym c.push.ensures.items) (each_pushed (λ _ (l : Level). l.frame.n ≡ f.root.n) f.levels.items _ x (f.counts x) c.requires.same.1)
