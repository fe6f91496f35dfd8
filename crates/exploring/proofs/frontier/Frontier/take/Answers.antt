use Rattle.std.proofs.Common.{◌≡◌, ◌+◌, ◌-◌, ◌≤◌, ◌++◌, length, get_or, take, sym, ap, ◌∙◌, subst, arith}
use Rattle.sets.specs.Spaces.{space, child, at}
use Rattle.sets.specs.Trace.{children}
use Rattle.squeezing.specs.Frames.{space_of}
use Rattle.exploring.specs.declared.level.Level.{Level}
use Rattle.exploring.specs.Waiting.{level_items}
use Rattle.exploring.proofs.Stacking.{taken_items, children_next, at_front}
use Rattle.exploring.proofs.frontier.Frontier.take.Goals as goal

pub returns-clause-items : goal.returns-clause-items
returns-clause-items c = λ e.
    let f = c.args.self.now in
    let ready = c.requires c.if-self.false in
    let d = length f.levels.items in
    let r = c.child.result in
    let x = c.index-deref-top.result in
    let k = f.root.m - (d - 1) in
    let t = space_of x.frame in
    let here : c.len-top.result - 1 ≡ d - 1 = omega (arith, c.len-top.ensures.value) in
    let is : get_or f.levels.items (d - 1) x ≡ x = sym (c.index-deref-top.is ∙ ap (λ ls. get_or ls (c.len-top.result - 1) x) c.deref.ensures.0 ∙ ap (λ q. get_or f.levels.items q x) here) in
    let fuel : k ≡ f.root.m + 1 - d = omega (arith, ready.0) in
    let born : child t (x.at + 1) x.next ≡ space_of r = sym c.child.ensures.is ∙ ap (λ q. space (take q r.lo) (take q r.hi)) (sym c.child.ensures.same.1) in
    let within : x.next ≤ at t.hi (x.at + 1) = omega (arith, subst (λ (q : Level). q.next ≤ get_or q.frame.hi q.at 0) is (ready.1 x), at_front x.frame.m x.frame.hi x.at x.within) in
    taken_items _ (level_items e) f.root.m f.levels.items c.deref_mut.result.now (c.len-top.result - 1) c.deref_mut.ensures.value here x _ f.fresh (λ q. e (f.root.m + 1 - q) (space_of r)) c.if-self.false ready.0
    (ap (level_items e k) is ∙ children_next e k t (x.at + 1) x.next within ∙ ap (λ y. y ++ children (e k) t (x.at + 1) (x.next + 1)) (ap (λ q. e q (child t (x.at + 1) x.next)) fuel ∙ ap (e (f.root.m + 1 - d)) born))
