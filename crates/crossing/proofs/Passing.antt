-- Passing on from one rank total to the next, and what an advance tells of all of them.
use Rattle.std.proofs.Common.{◌≡◌, ℕ, ◌+◌, ◌-◌, ◌<◌, List, [], ◌++◌, sym, refl, ap, ◌∙◌, subst, ap₂}
use Rattle.std.specs.List.{range_with_len, flat_map}
use Rattle.measure.specs.Algebra.{Row}
use Rattle.sets.specs.Trace.{Trace}
use Rattle.sets.specs.Crossed.{shadow}
use Rattle.sets.specs.Advance.{End, set, spent, finished, Run, run, page_of}
use Rattle.exploring.specs.declared.state.Answer.{Answer}
use Rattle.exploring.specs.declared.state.Told.TheVariants.{Finished}
use Rattle.exploring.specs.declared.state.Search.{Search as Straight}
use Rattle.exploring.specs.Meaning.{planned, count_of, size_of, table_of, told_of, Ran, Same}
use Rattle.crossed.specs.Entries.{row_of}
use Rattle.crossing.specs.Ranks.{Rank, ranks, rank_row}
use Rattle.crossing.specs.Meaning.{rank_items, later}
use Rattle.crossing.specs.declared.course.Course.{Course}
use Rattle.crossing.proofs.Chains.{run_ends, run_passes, run-over, flat_map_next}

-- the same items come later, over the same table
items_same : (c : Course) (s t : Straight Rank) → Same s t → rank_items (count_of t) (size_of t) (table_of t) c ≡ rank_items (count_of s) (size_of s) (table_of s) c
items_same c s t e =
    ap (λ n. rank_items n (size_of t) (table_of t) c) e.count_same ∙ ap (λ m. rank_items (count_of s) m (table_of t) c) e.size_same ∙ ap (λ l. rank_items (count_of s) (size_of s) l c) e.table_same

pub later_same : (c : Course) (s t : Straight Rank) → Same s t → later (count_of t) (size_of t) (table_of t) c ≡ later (count_of s) (size_of s) (table_of s) c
later_same c s t e = ap (λ f. flat_map f (range_with_len (c.rank + 1) (c.last - c.rank))) (items_same c s t e)

-- the items of the next rank total and those after it are those that came later
pub passes_on : (c : Course) (s t : Straight Rank) (items : Trace) (low high : Row) → Same s t → c.rank < c.last → items ≡ planned ranks rank_row (count_of s) (size_of s) (table_of s) low high → low ≡ shadow (row_of c.falls) (c.rank + 1) (row_of c.band.low) → high ≡ shadow (row_of c.falls) (c.rank + 1) (row_of c.band.high) → items ++ flat_map (rank_items (count_of t) (size_of t) (table_of t) c) (range_with_len (c.rank + 1 + 1) (c.last - (c.rank + 1))) ≡ later (count_of s) (size_of s) (table_of s) c
passes_on c s t items low high same h now l u =
    ap₂ ◌++◌ (now ∙ ap₂ (planned ranks rank_row (count_of s) (size_of s) (table_of s)) l u) (ap (λ f. flat_map f (range_with_len (c.rank + 1 + 1) (c.last - (c.rank + 1)))) (items_same c s t same))
    ∙ sym (flat_map_next (rank_items (count_of s) (size_of s) (table_of s) c) c.rank c.last h)

-- one search goes on, and then another
pub same_on : {M : Type 0} (r s t : Straight M) → Same r s → Same s t → Same r t
same_on r s t p q = record {
  table_same = q.table_same ∙ p.table_same;
  count_same = q.count_same ∙ p.count_same;
  size_same = q.size_same ∙ p.size_same;
}

page_over : (e : End) (page : List ℕ) → told_of e ≡ Finished → page_of e page ≡ page
page_over (set ps) page h = cc
page_over spent page h = cc
page_over finished page h = refl

-- an advance over the first of two traces, within a run over both
module _ (xs ys : Trace) (left steps : ℕ) (a : Answer) (page page' : List ℕ) (rest : Trace) (ran : Ran (run xs left 0) a page page' rest) where
  -- it ended with a set or was spent
  pub ran_ends : (whole : Run) (first : List ℕ) (later' : Trace) → whole ≡ run (xs ++ ys) left steps → page ≡ first → (a.told ≡ Finished → ⊥) → later' ≡ ys → Ran whole (record { told = a.told; steps = steps + a.steps }) first page' (rest ++ later')
  ran_ends whole first later' e p h l =
      let is = e ∙ run_ends xs ys left steps (λ q. h (ran.told ∙ q)) in
      subst (λ w. Ran w (record { told = a.told; steps = steps + a.steps }) first page' (rest ++ later')) (sym is)
      (record {
        told = ran.told;
        steps = ap (λ k. steps + k) ran.steps;
        page_is = ran.page_is ∙ ap (page_of (run xs left 0).end) p;
        rest = ap (λ r. r ++ later') ran.rest ∙ ap (λ r. (run xs left 0).rest ++ r) l;
      })

  over : a.told ≡ Finished → told_of (run xs left 0).end ≡ Finished
  over h = sym ran.told ∙ h

  -- it finished, and the run goes on over the other
  pub ran_passes : (whole : Run) → whole ≡ run (xs ++ ys) left steps → a.told ≡ Finished → whole ≡ run ys (left - a.steps) (steps + a.steps)
  ran_passes whole e h = e ∙ run_passes xs ys left steps (over h) ∙ ap (λ k. run ys (left - k) (steps + k)) (sym ran.steps)

  -- the page is then as it was
  pub ran_still : a.told ≡ Finished → page' ≡ page
  ran_still h = ran.page_is ∙ page_over (run xs left 0).end page (over h)

  -- it finished, and nothing comes later
  pub ran_out : (whole : Run) (first : List ℕ) (later' : Trace) → whole ≡ run (xs ++ ys) left steps → page ≡ first → a.told ≡ Finished → ys ≡ [] → later' ≡ ys → Ran whole (record { told = a.told; steps = steps + a.steps }) first page' (rest ++ later')
  ran_out whole first later' e p h none l =
      let is : whole ≡ record { end = finished; steps = steps + a.steps; rest = [] } = ran_passes whole e h ∙ ap (λ q. run q (left - a.steps) (steps + a.steps)) none in
      subst (λ w. Ran w (record { told = a.told; steps = steps + a.steps }) first page' (rest ++ later')) (sym is)
      (record {
        told = h;
        steps = refl;
        page_is = ran_still h ∙ p;
        rest = ap (λ r. r ++ later') (ran.rest ∙ run-over xs left 0 (over h)) ∙ l ∙ none;
      })
