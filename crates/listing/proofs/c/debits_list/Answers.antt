use Rattle.std.proofs.Common.{◌≡◌, ◌<◌, ℤ, pos, ◌-ℤ◌, Ok, Err, Result, sym, ap, subst, ◌∙◌, arith, w64, SFits, to_z, of_z, rules}
use Rattle.std.specs.Result.{OkIff, result_unwrap_or}
use Rattle.std.proofs.lemmas.Int.{to_z-of_z}
use Rattle.listing.specs.Listing.{as_number}
use Rattle.listing.specs.Text.{Told}
use Rattle.listing.proofs.c.debits_list.Goals as goal

-- a number that fits is converted as it is
converts : {E : Type 0} (r : Result ℤ E) (P : Type 0) (v d : ℤ) → OkIff r P v → P → result_unwrap_or r d ≡ v
converts (Ok x) P v d p fits = p.1
converts (Err e) P v d p fits = absurd (p fits)

pub returns-in-Ok-clause-output : goal.returns-in-Ok-clause-output
returns-in-Ok-clause-output c = λ h.
    let out = c.args.out.now in
    let after = c.list.new.out in
    let n = c.in-Ok.n in
    let told = c.in-Ok.ensures.output in
    let small : n < 9223372036854775808 = omega (arith, told.2) in
    let fits : SFits w64 (pos n) = search rules in
    let is : c.unwrap_or.result ≡ pos n = c.unwrap_or.ensures ∙ converts c.try_from.result (SFits w64 (pos n)) (pos n) (pos 9223372036854775807) c.try_from.ensures fits in
    subst (λ z. Told out (to_z w64 (of_z w64 z)) after) (sym is) (subst (λ z. Told out z after) (sym (to_z-of_z w64 (pos n) fits)) told)

pub returns-in-Ok-clause-lines : goal.returns-in-Ok-clause-lines
returns-in-Ok-clause-lines c = λ h.
    let n = c.in-Ok.n in
    let told = c.in-Ok.ensures.lines in
    let small : n < 9223372036854775808 = omega (arith, c.in-Ok.ensures.output.2) in
    let fits : SFits w64 (pos n) = search rules in
    let is : c.unwrap_or.result ≡ pos n = c.unwrap_or.ensures ∙ converts c.try_from.result (SFits w64 (pos n)) (pos n) (pos 9223372036854775807) c.try_from.ensures fits in
    record { answer = ap (λ z. to_z w64 (of_z w64 z)) is ∙ to_z-of_z w64 (pos n) fits ∙ ap as_number told.answer; output = told.output }

pub returns-in-Err-clause-lines : goal.returns-in-Err-clause-lines
returns-in-Err-clause-lines c = λ h.
    let told = c.in-Err.ensures.lines in
    let is = c.in-Err.ensures.output.0 in
    let fifteen : c.number.result ≡ 15 = rw is at c.number.ensures in
    let e : c.from.result ≡ pos 15 = c.from.ensures ∙ ap pos fifteen in
    record { answer = ap (λ z. to_z w64 (of_z w64 (pos 0 -ℤ to_z w64 (of_z w64 z)))) e ∙ ap (λ r. as_number (Err r)) (sym is) ∙ ap as_number told.answer; output = told.output }
