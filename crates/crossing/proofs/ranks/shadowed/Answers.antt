use Rattle.std.proofs.Common.{rules, pos, ◌*ℤ◌}
use Rattle.crossing.proofs.Shadows.{raise, Raise}
use Rattle.crossing.proofs.ranks.shadowed.Goals as goal

pub overflow_add-result : goal.overflow_add-result
overflow_add-result c = let m : Raise (c.args.fall *ℤ pos c.args.rank) = raise c.args.fall c.args.rank c.requires.fallen c.requires.few in search rules

pub returns : goal.returns
returns c = let m : Raise (c.args.fall *ℤ pos c.args.rank) = raise c.args.fall c.args.rank c.requires.fallen c.requires.few in search rules
