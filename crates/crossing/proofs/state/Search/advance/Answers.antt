use Rattle.std.proofs.Common.{◌≡◌, ◌+◌, ◌-◌, true, false, sym, ap, ◌∙◌, arith}
use Rattle.sets.specs.Advance.{run}
use Rattle.exploring.specs.Meaning.{coming, count_of, size_of, table_of}
use Rattle.exploring.specs.declared.state.Told.TheVariants.{Finished}
use Rattle.crossing.specs.Ranks.{ranks, rank_row}
use Rattle.crossing.specs.Meaning.{rank_items, later_than, to_come}
use Rattle.crossing.proofs.Chains.{joined_none}
use Rattle.crossing.proofs.Passing.{later_same, same_on, ran_ends, ran_passes, ran_still, ran_out}
use Rattle.crossing.proofs.state.Search.advance.Goals as goal
use Rattle.crossing.proofs.state.Search.advance.Goals.{in-Finished, in_default, then-not-over-via-then-not-over, then-not-over-via-else-not-over+then-self}

pub returns-then-not-over-clause-is : goal.returns-then-not-over-clause-is
returns-then-not-over-clause-is c =
    let s = c.ranks.self in
    let t = c.advance.new.self in
    let told = c.in_ok-answer.ensures in
    let inv = c.ranks.invariant in
    let a = c.in_ok-answer.answer in
    let left = c.args.allowance - c.ranks.steps in
    let later = later_same s.course s.straight t told.same in
    let over : (c.match-matches.matches ≡ true → a.told ≡ Finished) × (c.match-matches.matches ≡ false → a.told ≡ Finished → ⊥) =
    (elim c.match-matches.branch [ in-Finished v ↦ (λ q. v.in-Finished.is, λ q. absurd cc) | in_default v ↦ (λ q. absurd cc, λ q. v.in_default.not-Finished) ]) in
    elim c.then-not-over.branch [
      | then-not-over-via-then-not-over w ↦
          ran_ends (coming ranks rank_row s.straight) (later_than s) left c.ranks.steps a c.ranks.page c.advance.new.page (coming ranks rank_row t) (told.is s.sound) _ c.args.page.now _ inv.runs inv.page (over.1 w.if-not-over.true) later
      | then-not-over-via-else-not-over+then-self w ↦
          ran_out (coming ranks rank_row s.straight) (later_than s) left c.ranks.steps a c.ranks.page c.advance.new.page (coming ranks rank_row t) (told.is s.sound) _ c.args.page.now _ inv.runs inv.page (over.0 w.if-not-over.false)
          (joined_none (rank_items (count_of s.straight) (size_of s.straight) (table_of s.straight) s.course) s.course.rank s.course.last (omega (arith, w.if-self.true))) later
    ]

pub ranks-preserved : goal.ranks-preserved
ranks-preserved c =
    let s0 = c.args.self.now in
    let s = c.ranks.self in
    let t = c.advance.new.self in
    let u = c.pass_on.new.self in
    let told = c.in_ok-answer.ensures in
    let on = c.pass_on.ensures in
    let inv = c.ranks.invariant in
    let a = c.in_ok-answer.answer in
    let left = c.args.allowance - c.ranks.steps in
    let over : a.told ≡ Finished = (elim c.match-matches.branch [ in-Finished v ↦ v.in-Finished.is | in_default v ↦ let q = v.matches-is in let r = c.if-not-over.false in absurd cc ]) in
    let spends : left - a.steps ≡ c.args.allowance - (c.ranks.steps + a.steps) = omega arith in
    record {
      within = omega (arith, inv.within, told.safe.0);
      same = same_on s0.straight s.straight u.straight inv.same (same_on s.straight t u.straight told.same on.same);
      page = ran_still (coming ranks rank_row s.straight) (later_than s) left c.ranks.steps a c.ranks.page c.advance.new.page (coming ranks rank_row t) (told.is s.sound) over ∙ inv.page;
      runs =
          ran_passes (coming ranks rank_row s.straight) (later_than s) left c.ranks.steps a c.ranks.page c.advance.new.page (coming ranks rank_row t) (told.is s.sound) _ inv.runs over
          ∙ ap (λ l. run l (left - a.steps) (c.ranks.steps + a.steps)) (sym (on.comes ∙ later_same s.course s.straight t told.same))
          ∙ ap (λ q. run (to_come u) q (c.ranks.steps + a.steps)) spends;
    }
