use Rattle.std.proofs.Common.{sym, ap, arith}
use Rattle.table.specs.Syntax.{equation_count}
use Rattle.table.proofs.Accessed.{no_node}
use Rattle.table.proofs.access.equation_count.Goals as goal

pub returns-else-k-outline : goal.returns-else-k-outline
returns-else-k-outline c = sym (ap equation_count (no_node c.args.words.now c.args.outline.now c.requires c.args.k (omega arith)))
