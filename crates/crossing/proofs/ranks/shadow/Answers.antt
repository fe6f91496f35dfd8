use Rattle.std.proofs.Common.{◌∙◌, rules}
use Rattle.crossing.proofs.Shadows.{five_same}
use Rattle.crossing.proofs.ranks.shadow.Goals as goal

pub returns : goal.returns
returns c =
    let e = c.in_each-columns.ensures in
    c.ranked.ensures
    ∙ five_same (search rules) (let f = e.first in search rules) (let f = e.second in search rules) (let f = e.third in search rules) (let f = e.fourth in search rules)
