use Rattle.squeezing.proofs.Columns.{offset_is}
use Rattle.squeezing.proofs.table.column_start.Goals as goal

pub returns : goal.returns
returns c = offset_is c.args.n c.args.k c.requires.1
