use Rattle.std.proofs.Common.{sym, rules}
use Rattle.std.proofs.lemmas.List.{set_past}
use Rattle.reader.proofs.scan.note_count.Goals as goal

pub returns-else-node-lt32 : goal.returns-else-node-lt32
returns-else-node-lt32 c = sym (set_past c.args.counts.now c.args.node c.args.count (search rules))
