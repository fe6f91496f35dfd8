use Rattle.std.proofs.Common.{[], ◌∷◌, ◌++◌, subst}
use Rattle.listing.specs.Text.{field, Puts}
use Rattle.listing.proofs.Written.{puts_then, line_of_two}
use Rattle.listing.proofs.text.Text.line.Goals as goal

pub returns : goal.returns
returns c =
    let a = c.args.first in
    let b = c.args.second in
    let o = c.put.new.self in
    let p = c.field.new.self in
    let q = c.field-2.new.self in
    let e = c.put-2.new.self in
    let r = c.put-2.result in
    subst (λ bs. Puts c.args.self.now bs r e) (line_of_two c.args.letter a b)
    (puts_then c.args.self.now o e (c.args.letter ∷ []) (field a ++ (field b ++ 10 ∷ [])) r c.in_ok-put.ensures
    (puts_then o p e (field a) (field b ++ 10 ∷ []) r c.in_ok-field.ensures (puts_then p q e (field b) (10 ∷ []) r c.in_ok-field-2.ensures c.put-2.ensures)))
