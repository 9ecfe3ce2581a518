use Rattle.std.proofs.Common.{◌∙◌, arith}
use Rattle.clocks.proofs.Suffixes.{give_first}
use Rattle.clocks.proofs.operands.first_give.Goals as goal

pub returns-then-count-gt0 : goal.returns-then-count-gt0
returns-then-count-gt0 c = c.give_at.ensures ∙ give_first c.args.words.now c.args.at c.args.count (omega arith)
