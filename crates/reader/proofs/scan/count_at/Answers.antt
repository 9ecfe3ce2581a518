use Rattle.std.proofs.Common.{sym, rules}
use Rattle.std.proofs.lemmas.List.{get_or_past}
use Rattle.reader.proofs.scan.count_at.Goals as goal

pub returns-else-node-lt32 : goal.returns-else-node-lt32
returns-else-node-lt32 c = sym (get_or_past c.args.counts.now c.args.node 0 (search rules))
