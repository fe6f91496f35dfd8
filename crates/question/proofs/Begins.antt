-- A search over a written table has to come what its question asks for.
use Rattle.std.proofs.Common.{◌≡◌, ℕ, ◌+◌, ◌≤◌, true, ltb, leb, List, [], length, Ok, sym, ap, ◌∙◌, subst, ap₂, arith}
use Rattle.std.proofs.lemmas.Bool.{and_from, le-leb, lt-ltb, cond-true}
use Rattle.measure.specs.Algebra.{Algebra, Row}
use Rattle.sets.specs.Trace.{trace}
use Rattle.roll.specs.Totals.{rows_of, Few}
use Rattle.roll.specs.declared.entry.Entry.{Entry}
use Rattle.question.specs.Asking.{Needed, sought, asking, end}
use Rattle.question.specs.Beginning.{Starts}
use Rattle.question.specs.Filling.{Written}
use Rattle.squeezing.specs.Table.{fits}
use Rattle.exploring.specs.Meaning.{count_of, size_of, Begun}
use Rattle.squeezing.specs.Table.{offset, entries}
use Rattle.question.specs.declared.asking.Question.{Question}
use Rattle.exploring.specs.declared.state.Search.{Search}
use Rattle.question.proofs.Asked.{accepted, needed, end_is}
use Rattle.question.proofs.Writing.{ends_fit}

fits_all : (n m cells : ℕ) → 1 ≤ m → m ≤ n → n ≤ 120 → offset n m ≤ cells → fits n m cells ≡ true
fits_all n m cells a b c d =
    and_from (ltb 0 m) _ (lt-ltb 0 m (omega arith))
    (and_from (leb m n) _ (le-leb m n b) (and_from (leb n 120) _ (le-leb n 120 c) (le-leb (offset n m) cells d)))

module _ {M : Type 0} (a : Algebra) (row : M → Row) (span : M → ℕ) (xs : List (Entry M)) (all : M) (q : Question M) (was is : List M) (s : Search M) (low high : M) where
  pub starts : asking a row span (length xs) q (length was) ≡ Ok tt → length is ≡ length was → Written a row span xs all q was is →
      (Needed q.side (span all + span q.band.high ≤ 240) → row low ≡ end a q.side (row all) (row q.band.low) (row q.band.high)) →
      (Needed q.side (span all + span q.band.low ≤ 240) → row high ≡ end a q.side (row all) (row q.band.high) (row q.band.low)) →
      Begun a row span (length xs) (sought q.side (length xs) q.size) is low high s →
      Starts a row span xs all q was s
  starts ok long w low_is high_is b =
      let n : ℕ = length xs in
      let m : ℕ = sought q.side n q.size in
      let known = accepted a row span n q (length was) ok in
      let fit : Few span xs → fits n m (length is) ≡ true = λ few. fits_all n m (length is) known.some known.most few.count (omega (arith, ends_fit span n q (length was) known)) in
      let counts : Few span xs → count_of s ≡ n = λ few. b.count_is ∙ cond-true (fits n m (length is)) n 0 (fit few) in
      let sizes : Few span xs → size_of s ≡ m = λ few. b.size_is ∙ cond-true (fits n m (length is)) m 0 (fit few) in
      record {
        written = subst (Written a row span xs all q was) (sym b.table_is) w;
        count = counts;
        size = sizes;
        sound = λ few. b.sound (w.held few);
        comes = λ few totals.
            b.comes
            ∙ cond-true (fits n m (length is)) (trace a (entries row n is) (row low) (row high) m) [] (fit few)
            ∙ ap (λ rs. trace a rs (row low) (row high) m) w.first
            ∙ ap₂ (λ l h. trace a (rows_of row xs) l h m)
            (end_is a row span xs all q.side q.band.low q.band.high low few (needed q.side totals) known.high low_is)
            (end_is a row span xs all q.side q.band.high q.band.low high few (needed q.side totals) known.low high_is);
      }
