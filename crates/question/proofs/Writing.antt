-- A table with its columns written holds what an accepted question asks once the two ends stand behind them.
use Rattle.std.proofs.Common.{◌≡◌, ℕ, ◌+◌, ◌≤◌, List, length, get_or, take, drop, set, sym, ap, ◌∙◌, arith}
use Rattle.std.proofs.lemmas.List.{get_or-set_same, get_or-set_other, length-set, take-set-le, drop-set-lt}
use Rattle.measure.specs.Algebra.{Algebra, Row}
use Rattle.roll.specs.declared.entry.Entry.{Entry}
use Rattle.roll.specs.Totals.{Few}
use Rattle.question.specs.declared.asking.Question.{Question}
use Rattle.question.specs.declared.asking.Side.TheVariants.{Paid}
use Rattle.question.specs.Asking.{Needed, sought, end}
use Rattle.question.specs.Filling.{values, ends_at, Written, EndsAsAsked}
use Rattle.squeezing.specs.Table.{Holds}
use Rattle.question.proofs.Asked.{Accepted, needed, end_paid, end_is}
use Rattle.squeezing.proofs.Columns.{offset_past}
use Rattle.question.proofs.Agreeing.{back_kept}
use Rattle.question.proofs.Laying.{entries_are, holds-set}
use Rattle.question.proofs.Sizes.{table_size_is}

-- the columns and the ends of an accepted question have room
pub ends_fit : {M : Type 0} (span : M → ℕ) (n : ℕ) (q : Question M) (cells : ℕ) → Accepted span n q cells → ends_at n q + 2 ≤ cells
ends_fit span n q cells ok = omega (arith, ok.room, table_size_is n (sought q.side n q.size) ok.most)

module _ {M : Type 0} (a : Algebra) (row : M → Row) (span : M → ℕ) (xs : List (Entry M)) (all : M) (q : Question M) (was filled : List M) (at : ℕ) (low high : M) where
  abbrev both : List M
  both = set (set filled at low) (at + 1) high

  -- the two ends, where they stand
  low_at : Accepted span (length xs) q (length was) → at ≡ ends_at (length xs) q → length filled ≡ length was → (d : M) → get_or both (ends_at (length xs) q) d ≡ low
  low_at ok at_is size d =
      let room = ends_fit span (length xs) q (length was) ok in
      let longer = length-set filled at low in
      ap (λ j. get_or both j d) (sym at_is) ∙ get_or-set_other (set filled at low) (at + 1) at high d (λ e. omega arith) ∙ get_or-set_same filled at low d (omega arith)

  high_at : Accepted span (length xs) q (length was) → at ≡ ends_at (length xs) q → length filled ≡ length was → (d : M) → get_or both (ends_at (length xs) q + 1) d ≡ high
  high_at ok at_is size d =
      let room = ends_fit span (length xs) q (length was) ok in
      let longer = length-set filled at low in
      ap (λ j. get_or both (j + 1) d) (sym at_is) ∙ get_or-set_same (set filled at low) (at + 1) high d (omega arith)

  -- for the paid side they are as asked
  pub as_asked : Accepted span (length xs) q (length was) → at ≡ ends_at (length xs) q → length filled ≡ length was →
      (Needed q.side (span all + span q.band.high ≤ 240) → row low ≡ end a q.side (row all) (row q.band.low) (row q.band.high)) →
      (Needed q.side (span all + span q.band.low ≤ 240) → row high ≡ end a q.side (row all) (row q.band.high) (row q.band.low)) →
      q.side ≡ Paid → EndsAsAsked row (length xs) q both
  as_asked ok at_is size low_is high_is paid = record {
    low = λ d. ap row (low_at ok at_is size d) ∙ end_paid a q.side (span all + span q.band.high ≤ 240) (row all) (row q.band.low) (row q.band.high) (row low) paid low_is;
    high = λ d. ap row (high_at ok at_is size d) ∙ end_paid a q.side (span all + span q.band.low ≤ 240) (row all) (row q.band.high) (row q.band.low) (row high) paid high_is;
  }

  pub written : Accepted span (length xs) q (length was) → at ≡ ends_at (length xs) q → length filled ≡ length was →
      take (length xs) filled ≡ values xs → (Few span xs → Holds a row span (length xs) (sought q.side (length xs) q.size) filled) → drop at filled ≡ drop at was →
      (Needed q.side (span all + span q.band.high ≤ 240) → row low ≡ end a q.side (row all) (row q.band.low) (row q.band.high)) →
      (Needed q.side (span all + span q.band.low ≤ 240) → row high ≡ end a q.side (row all) (row q.band.high) (row q.band.low)) →
      Written a row span xs all q was both
  written ok at_is size first held kept low_is high_is =
      let room = ends_fit span (length xs) q (length was) ok in
      let past : length xs ≤ at = omega (arith, offset_past (length xs) (sought q.side (length xs) q.size) ok.some) in
      let longer = length-set filled at low in
      let m = sought q.side (length xs) q.size in
      record {
        first = entries_are row xs both (take-set-le (length xs) (set filled at low) (at + 1) high (omega arith) ∙ take-set-le (length xs) filled at low past ∙ first);
        held = λ few. holds-set a row span (length xs) m (at + 1) high (set filled at low) (omega arith) (omega arith) (holds-set a row span (length xs) m at low filled past (omega arith) (held few));
        low = λ few totals d.
            ap row (low_at ok at_is size d)
            ∙ end_is a row span xs all q.side q.band.low q.band.high low few (needed q.side totals) ok.high low_is;
        high = λ few totals d.
            ap row (high_at ok at_is size d)
            ∙ end_is a row span xs all q.side q.band.high q.band.low high few (needed q.side totals) ok.low high_is;
        kept =
            ap (λ j. drop (j + 2) both) (sym at_is)
            ∙ drop-set-lt (at + 2) (set filled at low) (at + 1) high (omega arith) ∙ drop-set-lt (at + 2) filled at low (omega arith)
            ∙ back_kept at (at + 2) filled was (omega arith) kept
            ∙ ap (λ j. drop (j + 2) was) at_is;
      }
