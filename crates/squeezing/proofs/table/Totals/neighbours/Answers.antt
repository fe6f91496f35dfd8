use Rattle.std.proofs.Common.{◌≡◌, ◌+◌, ◌-◌, ◌≤◌, length, get_or, ap, ◌∙◌, arith, rules}
use Rattle.std.proofs.lemmas.List.{length-drop, take_rest, get_or-drop}
use Rattle.squeezing.specs.Table.{offset}
use Rattle.squeezing.proofs.Columns.{column_within}
use Rattle.squeezing.proofs.table.Totals.neighbours.Given.{Over}
use Rattle.squeezing.proofs.table.Totals.neighbours.Goals as goal
use Rattle.squeezing.proofs.table.Totals.neighbours.Goals.{After-column_start}

-- the column that is looked into lies in the table
column : (g : Over) (c : After-column_start g) → c.column_start.result + (c.args.self.now.n - c.args.k + 1) ≤ length c.args.self.now.values.now
column g c =
    let s = c.args.self.now in
    omega (arith, column_within s.n c.args.k s.m (length s.values.now) (omega arith) c.requires.columns s.within s.long, c.column_start.ensures)

pub offset_bounds-self-column_start : goal.offset_bounds-self-column_start
offset_bounds-self-column_start g c = omega (arith, column g (goal.at.offset_bounds-self-column_start g c).After-column_start)

pub slice_bounds-total_at-count : goal.slice_bounds-total_at-count
slice_bounds-total_at-count g c = omega (arith, column g (goal.at.slice_bounds-total_at-count g c).After-column_start)

pub slice_bounds-total_at-start : goal.slice_bounds-total_at-start
slice_bounds-total_at-start g c =
    let h : c.column_start.result ≤ length c.args.self.now.values.now = omega (arith, column g (goal.at.slice_bounds-total_at-start g c).After-column_start) in
    search rules

pub total_at-requires : goal.total_at-requires
total_at-requires g c =
    simp (take_rest, length-drop) (omega (arith, column g (goal.at.total_at-requires g c).After-column_start))

pub returns : goal.returns
returns g c =
    let s = c.args.self.now in
    let table = s.values.now in
    let r = c.total_at.result in
    let start = c.column_start.result in
    let there : r ≡ get_or table (offset s.n (c.args.k - 1) + (c.args.first - 1)) r =
    c.total_at.ensures
    ∙ ap (λ l. get_or l (c.args.first - 1) r) (take_rest table start)
    ∙ get_or-drop start table (c.args.first - 1) r
    ∙ ap (λ o. get_or table (o + (c.args.first - 1)) r) c.column_start.ensures in
    let first : (c.args.first - 1) + 1 ≡ c.args.first = omega arith in
    let many : (c.args.k - 1) + 1 ≡ c.args.k = omega arith in
    record { stood = λ held. let here = held.holds (c.args.k - 1) (c.args.first - 1) r (omega arith) (omega arith) in rw (← there, first, many) at here }
