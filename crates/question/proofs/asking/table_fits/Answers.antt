use mir.Facts.{Fits-below}
use Rattle.std.proofs.Common.{arith, rules}
use Rattle.question.proofs.Sizes.{twice_columns_fit}
use Rattle.question.proofs.asking.table_fits.Goals as goal

pub overflow_mul-result-2 : goal.overflow_mul-result-2
overflow_mul-result-2 c = Fits-below tt (twice_columns_fit c.args.n c.args.m c.requires (omega arith))

pub overflow_add-result-2 : goal.overflow_add-result-2
overflow_add-result-2 c = let h = twice_columns_fit c.args.n c.args.m c.requires (omega arith) in search rules
