use Rattle.std.proofs.Common.{◌≡◌, ℕ, ◌+◌, ◌-◌, ◌≤◌, length, drop, sym, refl, ap, ◌∙◌, subst, arith, rules}
use Rattle.roll.specs.Totals.{rows_of}
use Rattle.squeezing.specs.Table.{offset}
use Rattle.question.specs.Filling.{Laid}
use Rattle.squeezing.proofs.Columns.{offset-zero, offset_from, offset_next, offset_past, offset_fewer}
use Rattle.question.proofs.Agreeing.{front_kept, back_kept}
use Rattle.question.proofs.Laying.{laid_first, laid_holds}
use Rattle.question.proofs.filling.fill.Goals as goal

pub first_column-requires : goal.first_column-requires
first_column-requires g c = omega (arith, offset_past (length c.args.entries.now) c.args.m c.requires.some, c.requires.room)

pub loop-k-init : goal.loop-k-init
loop-k-init g c =
    let m = g.M.Measure in
    let met = g.met.M.Measure in
    let xs = c.args.entries.now in (
      sym (offset-zero (length xs)),
      c.first_column.ensures.first,
      (λ few. laid_first m.algebra met.lawful m.row m.span met.owned xs few c.first_column.new.table c.first_column.ensures.first),
      refl,
    )

pub next_column-start-requires : goal.next_column-start-requires
next_column-start-requires g c =
    let n = length c.args.entries.now in
    let k = c.loop-k.k in
    record {
      some = c.loop-k.auto.k;
      most = omega (arith, c.requires.most);
      here = c.loop-k.invariant.0;
      room = omega (arith, c.loop-k.invariant.0, offset_from n k c.loop-k.auto.k (omega (arith, c.requires.most)), offset_next n k, offset_fewer n (k + 1) c.args.m (omega arith), c.requires.room);
    }

pub loop-k-preserved : goal.loop-k-preserved
loop-k-preserved g c =
    let m = g.M.Measure in
    let xs = c.args.entries.now in
    let n = length xs in
    let k = c.loop-k.k in
    let r = c.next_column-start.result in
    let was = c.loop-k.table in
    let now_is = c.next_column-start.new.table in
    let done = c.next_column-start.ensures in
    let same : k + 1 - 1 ≡ k = omega arith in (
      done.next ∙ ap (offset n) (sym same),
      front_kept n r now_is was (omega (arith, done.next, offset_past n k c.loop-k.auto.k)) done.front ∙ c.loop-k.invariant.1,
      (λ few. done.laid few (subst (λ w. Laid m.algebra m.row m.span (rows_of m.row xs) n was w) (sym done.next) (c.loop-k.invariant.2 few))),
      back_kept (offset n (k + 1)) (offset n c.args.m) now_is was (offset_fewer n (k + 1) c.args.m (omega arith)) done.kept ∙ c.loop-k.invariant.3,
    )

-- where the columns end
ended : (n m k start : ℕ) → 1 ≤ m → m ≤ n → 1 ≤ k → k ≤ m → m ≤ k → start ≡ offset n (k - 1) → start + (n - m + 1) ≡ offset n m
ended n m k start some most from upto all at =
    let same : k ≡ m = omega arith in
    omega (arith, at, ap (λ j. offset n (j - 1)) same, offset_from n m some most)

pub overflow_add-result-2 : goal.overflow_add-result-2
overflow_add-result-2 g c =
    let e = ended (length c.args.entries.now) c.args.m c.loop-k.k c.loop-k.start c.requires.some c.requires.most c.loop-k.auto.k (c.loop-k.auto.k-end c.requires.some) c.loop-k-test.false c.loop-k.invariant.0 in
    let h = c.requires.room in
    search rules

pub returns : goal.returns
returns g c =
    let m = g.M.Measure in
    let xs = c.args.entries.now in
    let n = length xs in
    let table = c.loop-k.table in
    let same : c.loop-k.k ≡ c.args.m = omega (arith, c.loop-k.auto.k-end c.requires.some) in
    let past = offset_past n c.args.m c.requires.some in
    let e = ended n c.args.m c.loop-k.k c.loop-k.start c.requires.some c.requires.most c.loop-k.auto.k (c.loop-k.auto.k-end c.requires.some) c.loop-k-test.false c.loop-k.invariant.0 in
    let behind : drop (offset n c.args.m) table ≡ drop (offset n c.args.m) c.args.table.now =
    c.loop-k.invariant.3 ∙ back_kept n (offset n c.args.m) c.first_column.new.table c.args.table.now past c.first_column.ensures.kept in
    record {
      past = e;
      first = c.loop-k.invariant.1;
      held = λ few. laid_holds m.algebra m.row m.span xs c.args.m table (omega (arith, past, c.requires.room)) c.loop-k.invariant.1
          (subst (λ k. Laid m.algebra m.row m.span (rows_of m.row xs) n table (offset n k)) same (c.loop-k.invariant.2 few));
      kept = ap (λ r. drop r table) e ∙ behind ∙ ap (λ r. drop r c.args.table.now) (sym e);
    }
