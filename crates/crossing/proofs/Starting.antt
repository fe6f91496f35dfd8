-- The straight search over shadows, and what the crossed search of an accepted question has to come.
use Rattle.std.proofs.Common.{◌≡◌, ℕ, suc, ◌+◌, ◌-◌, ◌≤◌, true, ◌&&◌, ltb, leb, List, ◌∷◌, ◌++◌, length, get_or, drop, pos, Ok, sym, ap, ◌∙◌, subst, ap₂, arith}
use mathlib.Core.Path.{fun_ext}
use lib.Signed.{le_z}
use Rattle.std.specs.List.{range_with_len, flat_map}
use Rattle.std.proofs.lemmas.List.{length-map}
use Rattle.std.proofs.lemmas.Bool.{and_from, le-leb, lt-ltb, cond-true}
use Rattle.measure.specs.Algebra.{Row}
use Rattle.measure.specs.declared.Band.{Band}
use Rattle.sets.specs.Trace.{Trace, trace}
use Rattle.sets.proofs.Amounts.{le_test}
use Rattle.sets.specs.Crossed.{amounts, falls, shadow, shadows, least_total, greatest_total, rank_totals, crossed}
use Rattle.squeezing.specs.Table.{offset, entries, fits}
use Rattle.exploring.specs.declared.state.Search.{Search as Straight}
use Rattle.exploring.specs.Meaning.{table_of, count_of, size_of, planned, Same}
use Rattle.exploring.proofs.Rooting.{same_sound}
use Rattle.roll.specs.declared.entry.Entry.{Entry as Shadow}
use Rattle.roll.specs.Totals.{Few}
use Rattle.question.specs.declared.asking.Question.{Question as Asked}
use Rattle.question.specs.declared.asking.Side.TheVariants.{Paid}
use Rattle.question.specs.Asking as Plain
use Rattle.question.specs.Asking.{band_fits, table_size}
use Rattle.question.specs.Filling.{EndsAsAsked}
use Rattle.question.specs.Beginning.{Begins, BeginsBy, Starts as StartsStraight}
use Rattle.crossed.specs.declared.asked.Question.{Question}
use Rattle.crossed.specs.declared.entries.Amounts.{Amounts}
use Rattle.crossed.specs.Entries.{Entry, row_of}
use Rattle.crossing.specs.Ranks.{Rank, ranks, rank_row, rank_span, rows_of, Falls}
use Rattle.crossing.specs.Meaning.{rank_items, later}
use Rattle.crossing.specs.Beginning.{Banded, Fits, Casts, Leads, Shadowed}
use Rattle.crossing.specs.declared.course.Course.{Course}
use Rattle.crossing.proofs.Casting.{end-small}
use Rattle.crossing.proofs.Totals.{least-greatest}

-- the question to the straight search
abbrev paid : Question → Rank → Rank → Asked Rank
paid q low high = record { side = Paid; size = q.size; band = record { low = low; high = high } }

band_accepted : (low high : Rank) (asked : Band Amounts) → Banded asked → rank_row low ≡ pos 0 ∷ row_of asked.low → rank_row high ≡ pos 0 ∷ row_of asked.high → band_fits ranks rank_row rank_span (record { low = low; high = high }) ≡ true
band_accepted low high asked b e f =
    let l = asked.low in
    let h = asked.high in
    let o = b.order in
    let order : ranks.not_above (pos 0 ∷ row_of l) (pos 0 ∷ row_of h) ≡ true =
    and_from (le_z l.first h.first) _ (le_test l.first h.first o.first)
    (and_from (le_z l.second h.second) _ (le_test l.second h.second o.second)
    (and_from (le_z l.third h.third) (le_z l.fourth h.fourth) (le_test l.third h.third o.third) (le_test l.fourth h.fourth o.fourth))) in
    and_from (ranks.not_above (rank_row low) (rank_row high)) (leb (rank_span low) 1 && leb (rank_span high) 1) (ap₂ ranks.not_above e f ∙ order)
    (and_from (leb (rank_span low) 1) (leb (rank_span high) 1) (le-leb (rank_span low) 1 (end-small low l b.lows e)) (le-leb (rank_span high) 1 (end-small high h b.highs f)))

-- what is accepted on the crossed roll is accepted on its shadows
accepted : (n room : ℕ) (q : Question) (low high : Rank) → Fits n q room → rank_row low ≡ pos 0 ∷ row_of q.band.low → rank_row high ≡ pos 0 ∷ row_of q.band.high → Plain.asking ranks rank_row rank_span n (paid q low high) room ≡ Ok tt
accepted n room q low high f e g =
    cond-true _ _ _ (and_from (ltb 0 q.size) (leb q.size n) (lt-ltb 0 q.size (omega (arith, f.some))) (le-leb q.size n f.most))
    ∙ cond-true _ _ _ (band_accepted low high q.band f.band e g)
    ∙ cond-true _ _ _ (le-leb (table_size n q.size) room f.table)

pub shadowed_over : (α : Row) (xs : List Entry) (ys : List (Shadow Rank)) (q : Question) (low high all : Rank) (was : List Rank) (s : Straight Rank) → Fits (length xs) q (length was) → length ys ≡ length xs → Casts α xs ys → rank_row low ≡ pos 0 ∷ row_of q.band.low → rank_row high ≡ pos 0 ∷ row_of q.band.high → Begins ranks rank_row rank_span ys all (paid q low high) was s → (Plain.asking ranks rank_row rank_span (length ys) (paid q low high) (length was) ≡ Ok tt → EndsAsAsked rank_row (length ys) (paid q low high) (table_of s)) → Shadowed α xs q was s
shadowed_over α xs ys q low high all was s f long casts e g begins asked =
    let ok : Plain.asking ranks rank_row rank_span (length ys) (paid q low high) (length was) ≡ Ok tt = ap (λ n. Plain.asking ranks rank_row rank_span n (paid q low high) (length was)) long ∙ accepted (length xs) (length was) q low high f e g in
    let starts : StartsStraight ranks rank_row rank_span ys all (paid q low high) was s = subst (BeginsBy ranks rank_row rank_span ys all (paid q low high) was s) ok begins in
    let few : Few rank_span ys = record { count = omega (arith, f.few); each = casts.small } in
    let w = starts.written in
    let ends = asked ok in
    record {
      count = starts.count few ∙ long;
      size = starts.size few;
      first = ap (λ n. entries rank_row n (table_of s)) (sym long) ∙ w.first ∙ casts.rows;
      holds = starts.sound few;
      low = λ d. ap (λ n. rank_row (get_or (table_of s) (offset n q.size) d)) (sym long) ∙ ends.low d ∙ e;
      high = λ d. ap (λ n. rank_row (get_or (table_of s) (offset n q.size + 1) d)) (sym long) ∙ ends.high d ∙ g;
      kept = ap (λ n. drop (offset n q.size + 2) (table_of s)) (sym long) ∙ w.kept ∙ ap (λ n. drop (offset n q.size + 2) was) long;
    }

-- the same search between other ends, by other names for the falls
pub shadowed_on : (α β : Row) (xs : List Entry) (q : Question) (was : List Rank) (s t : Straight Rank) → α ≡ β → Same s t → Shadowed α xs q was s → Shadowed β xs q was t
shadowed_on α β xs q was s t e same h =
    let n : ℕ = length xs in
    record {
      count = same.count_same ∙ h.count;
      size = same.size_same ∙ h.size;
      first = ap (entries rank_row n) same.table_same ∙ h.first ∙ ap (λ r. shadows r 1 (rows_of xs)) e;
      holds = same_sound ranks rank_row rank_span s t same h.holds;
      low = λ d. ap (λ l. rank_row (get_or l (offset n q.size) d)) same.table_same ∙ h.low d;
      high = λ d. ap (λ l. rank_row (get_or l (offset n q.size + 1) d)) same.table_same ∙ h.high d;
      kept = ap (drop (offset n q.size + 2)) same.table_same ∙ h.kept;
    }

fits_true : (n room : ℕ) (q : Question) (cells : ℕ) → Fits n q room → offset n q.size ≤ cells → fits n q.size cells ≡ true
fits_true n room q cells f long =
    and_from (ltb 0 q.size) _ (lt-ltb 0 q.size (omega (arith, f.some)))
    (and_from (leb q.size n) _ (le-leb q.size n f.most) (and_from (leb n 120) _ (le-leb n 120 f.few) (le-leb (offset n q.size) cells long)))

-- the items of a rank total are a straight trace over the shadows
module _ (xs : List Entry) (q : Question) (was : List Rank) (s : Straight Rank) (c : Course) (α : Amounts) (are : Falls (rows_of xs) α) (leads : Leads α q (length xs) c) (fit : Fits (length xs) q (length was)) (over : Shadowed (falls 3 (rows_of xs)) xs q was s) (long : offset (count_of s) (size_of s) ≤ length (table_of s)) where
  abbrev largest_falls : Row
  largest_falls = falls 3 (rows_of xs)

  abbrev rank_trace : ℕ → Trace
  rank_trace β = trace (amounts 4) (shadows largest_falls 1 (rows_of xs)) (shadow largest_falls β (row_of q.band.low)) (shadow largest_falls β (row_of q.band.high)) q.size

  room : offset (length xs) q.size ≤ length (table_of s)
  room = subst (λ n. offset n q.size ≤ length (table_of s)) over.count (subst (λ m. offset (count_of s) m ≤ length (table_of s)) over.size long)

  abbrev items : ℕ → Trace
  items = rank_items (count_of s) (size_of s) (table_of s) c

  items_are : (β : ℕ) → items β ≡ rank_trace β
  items_are β =
      ap (λ n. rank_items n (size_of s) (table_of s) c β) over.count ∙ ap (λ m. rank_items (length xs) m (table_of s) c β) over.size
      ∙ ap (λ r. planned ranks rank_row (length xs) q.size (table_of s) (shadow r β (row_of c.band.low)) (shadow r β (row_of c.band.high))) (ap row_of leads.falls ∙ are.are)
      ∙ ap (λ b. planned ranks rank_row (length xs) q.size (table_of s) (shadow largest_falls β (row_of b.low)) (shadow largest_falls β (row_of b.high))) leads.band
      ∙ cond-true _ _ _ (fits_true (length xs) (length was) q (length (table_of s)) fit room)
      ∙ ap (λ r. trace (amounts 4) r (shadow largest_falls β (row_of q.band.low)) (shadow largest_falls β (row_of q.band.high)) q.size) over.first

  -- those of all rank totals are the crossed trace
  pub all_comes : (first : Trace) → first ≡ items c.rank → first ++ later (count_of s) (size_of s) (table_of s) c ≡ crossed 3 (rows_of xs) (row_of q.band.low) (row_of q.band.high) q.size
  all_comes first h =
      let m = q.size in
      let n : ℕ = length xs in
      let next : greatest_total n m + 1 - least_total m ≡ suc (greatest_total n m - least_total m) = omega (arith, least-greatest n m fit.most) in
      let rows : length (rows_of xs) ≡ n = length-map xs (λ e. row_of e.value) in
      ap (λ i. i ++ later (count_of s) (size_of s) (table_of s) c) h
      ∙ ap₂ (λ r l. items r ++ flat_map items (range_with_len (r + 1) (l - r))) leads.rank leads.last
      ∙ ap (λ f. f (least_total m) ++ flat_map f (range_with_len (least_total m + 1) (greatest_total n m - least_total m))) (fun_ext items_are)
      ∙ ap (λ k. flat_map rank_trace (range_with_len (least_total m) k)) (sym next)
      ∙ ap (λ k. flat_map rank_trace (rank_totals k m)) (sym rows)

-- the items of the rank total that a course is at
pub first_items : (s t : Straight Rank) (c : Course) (items : Trace) (low high : Row) → Same s t → items ≡ planned ranks rank_row (count_of s) (size_of s) (table_of s) low high → low ≡ shadow (row_of c.falls) c.rank (row_of c.band.low) → high ≡ shadow (row_of c.falls) c.rank (row_of c.band.high) → items ≡ rank_items (count_of t) (size_of t) (table_of t) c c.rank
first_items s t c items low high same now l u =
    now
    ∙ ap₂ (planned ranks rank_row (count_of s) (size_of s) (table_of s)) l u
    ∙ ap (λ n. rank_items n (size_of s) (table_of s) c c.rank) (sym same.count_same)
    ∙ ap (λ m. rank_items (count_of t) m (table_of s) c c.rank) (sym same.size_same)
    ∙ ap (λ r. rank_items (count_of t) (size_of t) r c c.rank) (sym same.table_same)
