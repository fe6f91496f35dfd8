use Rattle.std.proofs.Common.{◌≡◌, ◌<◌, [], ◌∷◌, ◌++◌, length, Some, None, sym, subst, ◌∙◌, arith, take_all, rules}
use Rattle.std.specs.List.{flat_map}
use Rattle.listing.specs.Text.{field, Puts}
use Rattle.listing.specs.Listing.{numbers}
use Rattle.listing.proofs.Lines.{length-numbers, number_read}
use Rattle.listing.proofs.Written.{puts_then, puts_short, puts_field, puts_cut}
use Rattle.listing.proofs.questions.put_set.Goals as goal

pub loop-place-preserved : goal.loop-place-preserved
loop-place-preserved c =
    let xs = c.args.entries.now in
    let ps = c.args.places.now in
    let i = c.loop-place.place-index in
    let within : i < length (numbers xs ps) = omega (arith, length-numbers xs ps) in
    puts_field c.put.new.self c.loop-place.text c.field.new.self (numbers xs ps) i c.number_at.result within (c.number_at.ensures ∙ number_read xs ps i (omega arith)) c.loop-place.invariant c.in_ok-field.ensures

pub returns-in_err-field : goal.returns-in_err-field
returns-in_err-field c =
    let xs = c.args.entries.now in
    let ps = c.args.places.now in
    let i = c.loop-place.place-index in
    let o = c.put.new.self in
    let e = c.field.new.self in
    let within : i < length (numbers xs ps) = omega (arith, length-numbers xs ps) in
    let cut = puts_cut o c.loop-place.text e (numbers xs ps) i c.number_at.result within (c.number_at.ensures ∙ number_read xs ps i (omega arith)) c.loop-place.invariant c.in_err-field.ensures in
    let none : c.from_residual-in_err-field.result ≡ None = search rules in
    subst (λ r. Puts c.args.text.now (83 ∷ (flat_map field (numbers xs ps) ++ 10 ∷ [])) r e) (sym none)
    (puts_then c.args.text.now o e (83 ∷ []) (flat_map field (numbers xs ps) ++ 10 ∷ []) None c.in_ok-put.ensures (puts_short o e (flat_map field (numbers xs ps)) (10 ∷ []) cut))

pub returns : goal.returns
returns c =
    let xs = c.args.entries.now in
    let ps = c.args.places.now in
    let o = c.put.new.self in
    let b = c.loop-place.text in
    let ns = numbers xs ps in
    let whole : Puts o (flat_map field ns) (Some tt) b = subst (λ ms. Puts o (flat_map field ms) (Some tt) b) (take_all c.loop-place.place-index ns (omega (arith, length-numbers xs ps))) c.loop-place.invariant in
    puts_then c.args.text.now o c.put-2.new.self (83 ∷ []) (flat_map field ns ++ 10 ∷ []) c.put-2.result c.in_ok-put.ensures (puts_then o b c.put-2.new.self (flat_map field ns) (10 ∷ []) c.put-2.result whole c.put-2.ensures)
