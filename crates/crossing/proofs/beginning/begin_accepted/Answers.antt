use Rattle.std.proofs.Common.{length, subst}
use Rattle.sets.specs.Crossed.{falls}
use Rattle.exploring.specs.Meaning.{coming}
use Rattle.crossed.specs.Entries.{row_of}
use Rattle.crossed.specs.Rolls.{standing}
use Rattle.crossing.specs.Ranks.{Falls, ranks, rank_row, rows_of}
use Rattle.crossing.specs.Beginning.{Leads, Shadowed}
use Rattle.crossing.proofs.Starting.{shadowed_on, first_items, all_comes}
use Rattle.crossing.proofs.beginning.begin_accepted.Goals as goal

pub returns : goal.returns
returns c =
    let xs = standing c.args.roll.now in
    let q = c.args.asked in
    let was = c.args.table.now in
    let α = c.falls-falls.result in
    let course = c.course_of-course.result in
    let s = c.over_shadows-straight.result in
    let t = c.restart.new.self in
    let same = c.restart.ensures.same in
    let stand = c.entries-entries.ensures in
    let are = subst (λ l. Falls (rows_of l) α) stand c.falls-falls.ensures in
    let leads = subst (λ l. Leads α q (length l) course) stand c.course_of-course.ensures in
    let over = shadowed_on (row_of α) (falls 3 (rows_of xs)) xs q was s t are.are same (subst (λ l. Shadowed (row_of α) l q was s) stand c.over_shadows-straight.ensures) in
    record {
      over = over;
      comes =
          all_comes xs q was t course α are leads c.requires over t.long (coming ranks rank_row t)
          (first_items s t course (coming ranks rank_row t) _ _ same c.restart.ensures.comes c.ends.ensures.low c.ends.ensures.high);
    }
