use Rattle.std.proofs.Common.{◌≡◌, ◌+◌, ◌-◌, ◌≤◌, length, get_or, drop, sym, ap, ◌∙◌, subst, arith}
use Rattle.std.specs.List.{range_with_len}
use Rattle.std.proofs.lemmas.List.{take-set-le, drop-set-lt, get_or-drop, take_all, length-drop}
use Rattle.roll.specs.Totals.{rows_of}
use Rattle.squeezing.specs.Table.{Stood, offset}
use Rattle.squeezing.proofs.Columns.{offset_from, offset_next}
use Rattle.question.proofs.Laying.{laid_at, laid_less, next_stands}
use Rattle.question.proofs.filling.next_column.Goals as goal

pub loop-q-preserved : goal.loop-q-preserved
loop-q-preserved g c =
    let m = g.M.Measure in
    let met = g.met.M.Measure in
    let xs = c.args.entries.now in
    let n = length xs in
    let k = c.args.k in
    let q = c.loop-q.q in
    let table = c.loop-q.table in
    let start = c.args.start in
    let w = start + (n - k + 1) + q in
    let r = c.plus.result in
    let x = c.index-table-start.result in
    let col : offset n k ≡ start + (n - k + 1) = omega (arith, offset_from n k c.requires.some (omega arith), c.requires.here) in
    let ends : offset n (k + 1) ≡ start + (n - k + 1) + (n - k) = omega (arith, col, offset_next n k) in
    let there : x ≡ get_or table (offset n (k - 1) + q) x = c.index-table-start.is ∙ ap (λ s. get_or table (s + q) x) c.requires.here in
    let many : k - 1 + 1 ≡ k = omega (arith, c.requires.some) in
    let one = c.one-item.result in
    let reached : k + q ≡ q + k = omega arith in
    let one_is : one ≡ get_or xs (q + k) one = c.one-item.is ∙ ap (λ l. get_or l q one) (take_all (n - k) (drop k xs) (omega (arith, length-drop k xs))) ∙ get_or-drop k xs q one ∙ ap (λ j. get_or xs j one) reached in (
      take-set-le (start + (n - k + 1)) table w r (omega arith) ∙ c.loop-q.invariant.0,
      (λ few laid.
          let now_laid = c.loop-q.invariant.1 few laid in
          let was : Stood m.algebra m.row m.span (rows_of m.row xs) (range_with_len (q + 1) (k - 1 + 1)) (get_or table (offset n (k - 1) + q) x) = now_laid (k - 1) q x (omega arith) (omega (arith, c.requires.here)) in
          let sx : Stood m.algebra m.row m.span (rows_of m.row xs) (range_with_len (q + 1) k) x =
          subst (λ j. Stood m.algebra m.row m.span (rows_of m.row xs) (range_with_len (q + 1) j) x) many
          (subst (λ y. Stood m.algebra m.row m.span (rows_of m.row xs) (range_with_len (q + 1) (k - 1 + 1)) y) (sym there) was) in
          let sum = next_stands m.algebra met.lawful m.row m.span met.owned xs few q k x r one (omega arith) sx
          (subst (λ e. m.span x + m.span e.value ≤ 240 → m.row r ≡ m.algebra.plus (m.row x) (m.row e.value)) one_is c.plus.ensures.exact)
          (subst (λ e. m.span x + m.span e.value ≤ 240 → m.span r ≤ m.span x + m.span e.value) one_is c.plus.ensures.small) in
          laid_at m.algebra m.row m.span (rows_of m.row xs) n table k q w (start + (n - k + 1) + (q + 1)) r (omega (arith, col)) (omega arith) (omega arith) (omega arith) now_laid sum),
      drop-set-lt (offset n (k + 1)) table w r (omega (arith, ends)) ∙ c.loop-q.invariant.2,
    )

pub returns : goal.returns
returns g c =
    let m = g.M.Measure in
    let xs = c.args.entries.now in
    let n = length xs in
    let k = c.args.k in
    let start = c.args.start in
    let col : offset n k ≡ start + (n - k + 1) = omega (arith, offset_from n k c.requires.some (omega arith), c.requires.here) in
    record {
      next = sym col;
      front = c.loop-q.invariant.0;
      laid = λ few laid. laid_less m.algebra m.row m.span (rows_of m.row xs) n c.loop-q.table (start + (n - k + 1) + c.loop-q.q) (offset n (k + 1)) (omega (arith, col, offset_next n k)) (c.loop-q.invariant.1 few laid);
      kept = c.loop-q.invariant.2;
    }
