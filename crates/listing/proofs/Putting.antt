-- The lines that are written so far, and those that are left, while the records of a file are gone through.
use Rattle.std.proofs.Common.{◌≡◌, ℕ, suc, List, ◌++◌, Some, None, Ok, Err, Result, sym, refl, ap, ◌∙◌}
use Rattle.crossed.specs.declared.asked.Question.{Question}
use Rattle.crossed.specs.Rolls.{standing}
use Rattle.records.specs.Records.{Rec}
use Rattle.listing.specs.declared.text.Text.{Text}
use Rattle.listing.specs.declared.walk.Walk.{Walk}
use Rattle.listing.specs.Text.{Puts}
use Rattle.listing.specs.Listing.{question_in, question_lines, record_lines, asked_so_far, before}
use Rattle.listing.specs.Walk.{lines_left, Takes}
use Rattle.listing.proofs.Written.{puts_stop, puts_on}
use Rattle.listing.proofs.Going.{question_asked}

-- what is left of the lines is in order, and makes the text with what is written
abbrev pub Left : ℕ → Walk → ℕ → Text → Text → List ℕ → Type 0
Left t w k a b text = (pre : List ℕ) × Puts a pre (Some tt) b × ((rest : List ℕ) × (lines_left t w k ≡ Ok rest) × (pre ++ rest ≡ text))

before_ok : {E : Type 0} (l rest : List ℕ) (x : Result (List ℕ) E) → before l x ≡ Ok rest → (more : List ℕ) × (x ≡ Ok more) × (rest ≡ l ++ more)
before_ok l rest (Ok more) e = (more, refl, cc)
before_ok l rest (Err f) e = cc

module _ (t : ℕ) (w : Walk) (k : ℕ) (a b : Text) (text : List ℕ) (left : Left t w k a b text) where
  module _ (r : Rec) (is : Walk) (takes : Takes t w r is) where
    behind : (more : List ℕ) × (lines_left t is (asked_so_far k r) ≡ Ok more) × (left.2.0 ≡ record_lines k (standing is.roll) r ++ more)
    behind = before_ok (record_lines k (standing is.roll) r) left.2.0 (lines_left t is (asked_so_far k r)) (sym (takes.lines k) ∙ left.2.1)

    module _ (asked : Question) (some : Some asked ≡ question_in r) where
      lined : left.2.0 ≡ question_lines (suc k) (standing is.roll) asked ++ behind.0
      lined = behind.2 ∙ ap (λ l. l ++ behind.0) (question_asked k (standing is.roll) r asked some).0

      -- the lines of a question do not fit
      pub left_stop : (c : Text) → Puts b (question_lines (suc k) (standing is.roll) asked) None c → Puts a text None c
      left_stop c p = puts_stop a b c left.0 left.2.0 text left.1 left.2.2 (question_lines (suc k) (standing is.roll) asked) behind.0 lined p

      -- they do
      pub left_on : (c : Text) → Puts b (question_lines (suc k) (standing is.roll) asked) (Some tt) c → Left t is (suc k) a c text
      left_on c p =
          let on = puts_on a b c left.0 left.2.0 text left.1 left.2.2 (question_lines (suc k) (standing is.roll) asked) behind.0 lined p in
          (on.0, on.1, (behind.0, ap (lines_left t is) (sym (question_asked k (standing is.roll) r asked some).1) ∙ behind.1, on.2))
