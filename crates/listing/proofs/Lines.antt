-- The lines of a set's numbers, and the lines of the sets that advances hand out.
use Rattle.std.proofs.Common.{◌≡◌, ℕ, zero, suc, ◌+◌, ◌-◌, ◌<◌, false, cond, leb, List, [], ◌∷◌, ◌++◌, map, length, get_or, take, drop, Some, None, sym, refl, ap, ◌∙◌, subst, ap₂, add-zero, arith}
use Rattle.std.specs.List.{flat_map, AllByRecursion}
use Rattle.std.proofs.Math.Seq.{take-nil}
use Rattle.std.proofs.lemmas.List.{get_or-map, append_assoc, length-map, take_at}
use Rattle.std.proofs.lemmas.Bool.{le-leb}
use Rattle.std.proofs.lemmas.Bool.Decides.{nat_tests}
use Rattle.sets.specs.Trace.{Trace, somes}
use Rattle.sets.specs.Advance.{End, set as set_end, spent, finished, run, page_of}
use Rattle.exploring.specs.declared.state.Answer.{Answer}
use Rattle.exploring.specs.declared.state.Told.TheVariants.{Set, Spent, Finished}
use Rattle.exploring.specs.Meaning.{told_of, Ran}
use Rattle.crossed.specs.Entries.{Entry}
use Rattle.listing.specs.Text.{line}
use Rattle.listing.specs.Listing.{numbers, set_line, lines_within}

-- a set has a number for each place
pub length-numbers : (xs : List Entry) (ps : List ℕ) → length (numbers xs ps) ≡ length ps
length-numbers xs ps = length-map ps (λ p. get_or (map (λ e. e.number) xs) (p - 1) 0)

-- the one at an index is that of the place there
pub number_read : (xs : List Entry) (ps : List ℕ) (i : ℕ) → i < length ps → get_or (map (λ e. e.number) xs) (get_or ps i 0 - 1) 0 ≡ get_or (numbers xs ps) i 0
number_read xs ps i h = sym (get_or-map (λ p. get_or (map (λ e. e.number) xs) (p - 1) 0) ps i 0 0 h)

shift : (a b : ℕ) → leb (suc a) (suc b) ≡ leb a b
shift a b = grind (arith, nat_tests)

never : (a : ℕ) → leb (suc a) 0 ≡ false
never a = grind (arith, nat_tests)

-- the lines that follow an advance that ended so, with so many steps allowed
abbrev follows : ℕ → List Entry → End → ℕ → Trace → List ℕ
follows left xs (set_end ps) n rest = set_line xs ps ++ lines_within (left - n) xs rest
follows left xs spent n rest = line 80 []
follows left xs finished n rest = line 70 []

run-lines : (xs : List Entry) (t : Trace) (left k : ℕ) → lines_within left xs t ≡ follows (left + k) xs (run t left k).end (run t left k).steps (run t left k).rest
run-lines xs [] left k = ap₂ (λ s b. flat_map (set_line xs) s ++ line (cond b 70 80) []) (ap somes (take-nil left)) (le-leb 0 left (omega arith))
run-lines xs (None ∷ t) zero k = ap (λ b. line (cond b 70 80) []) (never (length t))
run-lines xs (Some ps ∷ t) zero k = ap (λ b. line (cond b 70 80) []) (never (length t))
run-lines xs (None ∷ t) (suc left) k =
    let all : left + (k + 1) ≡ suc left + k = omega arith in
    ap (λ b. flat_map (set_line xs) (somes (take left t)) ++ line (cond b 70 80) []) (shift (length t) left)
    ∙ run-lines xs t left (k + 1)
    ∙ ap (λ q. follows q xs (run t left (k + 1)).end (run t left (k + 1)).steps (run t left (k + 1)).rest) all
run-lines xs (Some ps ∷ t) (suc left) k =
    let on : left ≡ suc left + k - (k + 1) = omega arith in
    append_assoc (set_line xs ps) (flat_map (set_line xs) (somes (take left t))) (line (cond (leb (suc (length t)) (suc left)) 70 80) [])
    ∙ ap (λ b. set_line xs ps ++ (flat_map (set_line xs) (somes (take left t)) ++ line (cond b 70 80) [])) (shift (length t) left)
    ∙ ap (λ q. set_line xs ps ++ lines_within q xs t) on

ran_lines : (xs : List Entry) (t : Trace) (left : ℕ) → lines_within left xs t ≡ follows left xs (run t left 0).end (run t left 0).steps (run t left 0).rest
ran_lines xs t left = run-lines xs t left 0 ∙ ap (λ q. follows q xs (run t left 0).end (run t left 0).steps (run t left 0).rest) (add-zero left)

-- what holds of each set holds of the one that is handed out and of those to come
abbrev HoldsOn : (List ℕ → Type 0) → End → Trace → Type 0
HoldsOn P (set_end ps) rest = P ps × AllByRecursion P (somes rest)
HoldsOn P spent rest = Unit {0}
HoldsOn P finished rest = Unit {0}

run_holds : (P : List ℕ → Type 0) (t : Trace) (left k : ℕ) → AllByRecursion P (somes t) → HoldsOn P (run t left k).end (run t left k).rest
run_holds P [] left k h = tt
run_holds P (None ∷ t) zero k h = tt
run_holds P (Some ps ∷ t) zero k h = tt
run_holds P (None ∷ t) (suc left) k h = run_holds P t left (k + 1) h
run_holds P (Some ps ∷ t) (suc left) k h = h

-- what an advance tells of the lines that are left
module _ (xs : List Entry) (t : Trace) (left : ℕ) (a : Answer) (page page' : List ℕ) (rest : Trace) (ran : Ran (run t left 0) a page page' rest) where
  pub lines_spent : a.told ≡ Spent → lines_within left xs t ≡ line 80 []
  lines_spent h = ran_lines xs t left ∙ go (run t left 0).end (sym ran.told ∙ h)
    where
      go : (e : End) → told_of e ≡ Spent → follows left xs e (run t left 0).steps (run t left 0).rest ≡ line 80 []
      go (set_end ps) q = cc
      go spent q = refl
      go finished q = cc

  pub lines_finished : a.told ≡ Finished → lines_within left xs t ≡ line 70 []
  lines_finished h = ran_lines xs t left ∙ go (run t left 0).end (sym ran.told ∙ h)
    where
      go : (e : End) → told_of e ≡ Finished → follows left xs e (run t left 0).steps (run t left 0).rest ≡ line 70 []
      go (set_end ps) q = cc
      go spent q = cc
      go finished q = refl

  -- a set of so many places stands at the front of the page
  pub lines-set : (k size : ℕ) → k ≡ size → a.told ≡ Set → AllByRecursion (λ s. length s ≡ size) (somes t) → (lines_within left xs t ≡ set_line xs (take k page') ++ lines_within (left - a.steps) xs rest) × AllByRecursion (λ s. length s ≡ size) (somes rest)
  lines-set k size same h sized = go (run t left 0).end (sym ran.told ∙ h) (ran_lines xs t left) ran.page_is (run_holds (λ s. length s ≡ size) t left 0 sized)
    where
      go : (e : End) → told_of e ≡ Set → lines_within left xs t ≡ follows left xs e (run t left 0).steps (run t left 0).rest → page' ≡ page_of e page → HoldsOn (λ s. length s ≡ size) e (run t left 0).rest → (lines_within left xs t ≡ set_line xs (take k page') ++ lines_within (left - a.steps) xs rest) × AllByRecursion (λ s. length s ≡ size) (somes rest)
      go (set_end ps) q l p s =
          let front : take k page' ≡ ps = ap (take k) p ∙ take_at ps (drop (length ps) page) k (s.0 ∙ sym same) in (
            l ∙ ap (λ r. set_line xs ps ++ lines_within (left - (run t left 0).steps) xs r) (sym ran.rest) ∙ ap₂ (λ f n. set_line xs f ++ lines_within (left - n) xs rest) (sym front) (sym ran.steps),
            subst (λ r. AllByRecursion (λ s. length s ≡ size) (somes r)) (sym ran.rest) s.1,
          )
      go spent q l p s = cc
      go finished q l p s = cc
